use Rattle.state_decision.proofs.tests.a_second_path_is_passive.Given as goal

-- the count is the blank's own
abbrev pub ghosts-heard_by_two : goal.ghosts-heard_by_two
ghosts-heard_by_two g a = record { name = a.blank.name; parts = a.blank.parts }
