use Rattle.std.proofs.Common.{take}
use Rattle.bc_replay.specs.ActorTurns.{due_actors}
use Rattle.bc_replay.proofs.lemmas.ActorTurnLemmas.{BestRepresents, busy_of}
use Rattle.bc_replay.proofs.turn.default_turn.Given as goal

abbrev pub invariant-actors : goal.invariant-actors
invariant-actors l = record {
  busy : BestRepresents l.hub l.actors (busy_of (due_actors l.hub (take l.i l.actors))) l.busy;
  first : BestRepresents l.hub l.actors (due_actors l.hub (take l.i l.actors)) l.first;
}
