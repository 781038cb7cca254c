use Rattle.std.proofs.Common.{◌≡◌, ◌≤◌, All, length}
use Rattle.bc_actors.specs.declared.rounds.TurnsTaken.{TurnsTaken}
use Rattle.bc_actors.proofs.rounds.no_turns.Given as goal

abbrev pub invariant-loop-index : goal.invariant-loop-index
invariant-loop-index l = record {
  there : All (λ (t : TurnsTaken). (1 ≤ t.number) × (t.number ≤ l.count)) l.all.items;
  many : length l.all.items ≡ l.index;
}
