use Rattle.foreign_master.proofs.tests.hear.Given as goal

-- the count is the blank's own
abbrev pub ghosts-hear_counted : goal.ghosts-hear_counted
ghosts-hear_counted a = record { name = a.blank.name; parts = a.blank.parts }
