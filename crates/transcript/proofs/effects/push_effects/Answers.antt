use Rattle.bc_history.specs.Run.Transcript.{effects_text}
use Rattle.transcript.proofs.lemmas.TextLemmas.{followed}
use Rattle.transcript.proofs.effects.push_effects.Goals as goal

pub returns : goal.returns
unfolding effects_text
returns c =
    followed c.args.out.now c.push_fate.new.out c.push_answers.new.out _ _ c.in_ok-push_fate.ensures
    (followed c.push_fate.new.out c.push_moves.new.out c.push_answers.new.out _ _ (rw c.items.ensures at c.in_ok-push_moves.ensures)
    (followed c.push_moves.new.out c.push_parent.new.out c.push_answers.new.out _ _ c.in_ok-push_parent.ensures
    (followed c.push_parent.new.out c.push_orders.new.out c.push_answers.new.out _ _ (rw c.items-2.ensures at c.in_ok-push_orders.ensures)
    (followed c.push_orders.new.out c.push_measure.new.out c.push_answers.new.out _ _ c.in_ok-push_measure.ensures
    (followed c.push_measure.new.out c.push_frames.new.out c.push_answers.new.out _ _ (rw c.items-3.ensures at c.in_ok-push_frames.ensures)
    (followed c.push_frames.new.out c.push_told.new.out c.push_answers.new.out _ _ c.in_ok-push_told.ensures
    (followed c.push_told.new.out c.push_asked.new.out c.push_answers.new.out _ _ c.in_ok-push_asked.ensures (rw c.items-4.ensures at c.in_ok-push_answers.ensures))))))))
