use Rattle.foreign_master.proofs.tests.run.Given as goal

-- the count is the blank's own
abbrev pub ghosts-run_counted : goal.ghosts-run_counted
ghosts-run_counted a = record { name = a.blank.name; parts = a.blank.parts }
