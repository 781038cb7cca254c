use Rattle.bc_replay.specs.ActorLoop.{IsUnscheduledLoop, free_steps_of, steps_left}
use Rattle.bc_replay.proofs.run.take_default_turns.Given as goal

abbrev pub invariant-turns : goal.invariant-turns
invariant-turns l = IsUnscheduledLoop l.s l.hub l.actors.items

abbrev pub decreases-turns : goal.decreases-turns
decreases-turns l = steps_left l.hub (free_steps_of l.actors.items)
