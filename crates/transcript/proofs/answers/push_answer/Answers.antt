use Rattle.transcript.proofs.lemmas.PrintedLineLemmas.{answer_lines-are}
use Rattle.transcript.proofs.answers.push_answer.Goals as goal

pub returns : goal.returns
returns c =
    answer_lines-are c.args.answer.now c.args.out.now c.push_answer.new.out c.write.new.self c.push_printed.new.out
    c.in_ok-push_answer.ensures c.in_ok-write.ensures (rw c.items.ensures at c.in_ok-push_printed.ensures)
