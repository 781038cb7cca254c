use Rattle.std.proofs.Common.{◌≡◌, ◌++◌, take}
use Rattle.bc_history.specs.Run.Transcript.{answers_text}
use Rattle.transcript.proofs.answers.push_answers.Given as goal

abbrev pub invariant-loop-answer : goal.invariant-loop-answer
invariant-loop-answer l = l.out ≡ l.initial.out ++ answers_text (take l.answer-index l.answers)
