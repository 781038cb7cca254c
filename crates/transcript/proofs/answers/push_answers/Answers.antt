use Rattle.std.proofs.Common.{◌<◌, length, refl, arith}
use Rattle.bc_history.specs.Run.Transcript.{answers_text}
use Rattle.transcript.specs.PrintedLines.{answer_text}
use Rattle.transcript.proofs.lemmas.TextLemmas.{met}
use Rattle.transcript.proofs.lemmas.PrintedLineLemmas.{answers_text-more}
use Rattle.transcript.proofs.answers.push_answers.Goals as goal

pub loop-answer-preserved : goal.loop-answer-preserved
loop-answer-preserved c =
    let lt : c.loop-answer.answer-index < length c.args.answers.now = omega arith in
    met answer_text answers_text refl answers_text-more c.args.answers.now c.loop-answer.answer-index c.answer-item.result c.args.out.now c.loop-answer.out c.push_answer.new.out lt c.answer-item.is c.loop-answer.invariant c.in_ok-push_answer.ensures
