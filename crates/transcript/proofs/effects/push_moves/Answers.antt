use Rattle.std.proofs.Common.{◌<◌, length, refl, arith}
use Rattle.bc_history.specs.Run.Transcript.{moved_text, moves_text}
use Rattle.transcript.proofs.lemmas.TextLemmas.{grown}
use Rattle.transcript.proofs.effects.push_moves.Goals as goal

pub loop-moved-preserved : goal.loop-moved-preserved
loop-moved-preserved c =
    let lt : c.loop-moved.moved-index < length c.args.moves.now = omega arith in
    grown moved_text moves_text refl (λ x xs. refl) c.args.moves.now c.loop-moved.moved-index _ c.args.out.now c.loop-moved.out c.push_moved.new.out lt c.loop-moved.invariant c.in_ok-push_moved.ensures
