use Rattle.std.proofs.Common.{◌≡◌, ◌≤◌, ◌+◌, ◌*◌, ◌++◌, drop, length, set}
use Rattle.bc_history.specs.Phases.EntryEffects.{moves_from}
use Rattle.bc_ports.specs.DecisionScratch.{states_in}
use Rattle.bc_ports.proofs.moves.push_moves.Given as goal

abbrev pub invariant-loop-i : goal.invariant-loop-i
invariant-loop-i l = record {
  room : 2 * length l.sets ≤ l.out.spare + 2 * l.i;
  moves : l.out.items ++ moves_from (l.i + 1) (drop l.i (states_in l.sets)) (drop l.i (set (states_in l.sets) l.at l.between)) (drop l.i l.news)
      ≡ l.initial.out.items ++ moves_from 1 (states_in l.sets) (set (states_in l.sets) l.at l.between) l.news;
}
