use Rattle.state_decision.proofs.tests.each_port_has_its_code.Given as goal

-- each count is its blank's own
abbrev pub ghosts-at_once : goal.ghosts-at_once
ghosts-at_once g a = record { name = a.blank.name; parts = a.blank.parts }

abbrev pub ghosts-one_by_one : goal.ghosts-one_by_one
ghosts-one_by_one g a = record { name = a.blank.name; parts = a.blank.parts }
