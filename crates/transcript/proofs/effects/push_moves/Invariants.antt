use Rattle.std.proofs.Common.{◌≡◌, ◌++◌, take}
use Rattle.bc_history.specs.Run.Transcript.{moves_text}
use Rattle.transcript.proofs.effects.push_moves.Given as goal

abbrev pub invariant-loop-moved : goal.invariant-loop-moved
invariant-loop-moved l = l.out ≡ l.initial.out ++ moves_text (take l.moved-index l.moves)
