use Rattle.std.proofs.Common.{◌≡◌, length}
use Rattle.bc_ports.proofs.lemmas.MoveLemmas.{stated}
use Rattle.bc_ports.proofs.moves.set_states.Given as goal

abbrev pub invariant-loop-i : goal.invariant-loop-i
invariant-loop-i l = record { sets : l.sets ≡ stated l.i l.initial.sets l.states; length : length l.sets ≡ length l.initial.sets }
