use Rattle.std.proofs.Common.{◌<◌, All, length}
use Rattle.bc_actors.specs.ActingState.{IsNumberOf}
use Rattle.bc_actors.specs.declared.rounds.TurnsTaken.{TurnsTaken}
use Rattle.bc_actors.proofs.rounds.take_rounds.Given as goal

abbrev pub invariant-loop : goal.invariant-loop
invariant-loop g l = record {
  there : All (λ (t : TurnsTaken). IsNumberOf g.N.Naming.scenario t.number) l.all.items;
  some : 0 < length l.all.items;
}
