use Rattle.std.proofs.Common.{◌≡◌, take}
use Rattle.bc_replay.specs.ActorLoop.{LoopRepresents}
use Rattle.bc_replay.proofs.lemmas.ScheduleLemmas.{turns_in}
use Rattle.bc_replay.proofs.run.take_schedule.Given as goal

abbrev pub invariant-loop-i : goal.invariant-loop-i
invariant-loop-i l = record {
  loop : LoopRepresents l.s l.taken l.hub l.actors.items;
  taken : l.taken ≡ turns_in (take l.i l.s.turns);
}
