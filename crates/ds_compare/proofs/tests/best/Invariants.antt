use Rattle.ds_compare.proofs.tests.best.Given as goal

-- the count is the blank's own
abbrev pub ghosts-best_counted : goal.ghosts-best_counted
ghosts-best_counted a = record { name = a.blank.name; parts = a.blank.parts }
