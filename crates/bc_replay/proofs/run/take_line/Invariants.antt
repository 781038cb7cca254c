use Rattle.std.proofs.Common.{◌+◌}
use Rattle.bc_replay.specs.ActorLoop.{LoopRepresents}
use Rattle.bc_replay.proofs.run.take_line.Given as goal

abbrev pub invariant-loop-k : goal.invariant-loop-k
invariant-loop-k l = LoopRepresents l.s (l.taken + l.k) l.hub l.actors.items
