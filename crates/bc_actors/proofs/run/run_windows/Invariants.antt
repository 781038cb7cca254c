use Rattle.bc_actors.proofs.run.run_windows.Given as goal

abbrev pub ghosts-run_named : goal.ghosts-run_named
ghosts-run_named g a = record { scenario = a.s.now }
