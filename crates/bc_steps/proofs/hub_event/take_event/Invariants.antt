use Rattle.bc_steps.proofs.hub_event.take_event.Given as goal

-- the count is the blank's own
abbrev pub ghosts-count_event : goal.ghosts-count_event
ghosts-count_event a = record { name = a.blank.name; parts = a.blank.parts }
