use Rattle.std.proofs.Common.{◌≡◌, ◌++◌, length}
use Rattle.bstr.specs.Text.{lines_of}
use Rattle.transcript.specs.PrintedLines.{margined}
use Rattle.transcript.proofs.answers.push_margined.Given as goal

abbrev pub invariant-loop-line : goal.invariant-loop-line
invariant-loop-line l = l.out ++ margined l.lines ≡ l.initial.out ++ margined (lines_of l.fn.text)

abbrev pub decreases-loop-line : goal.decreases-loop-line
decreases-loop-line l = length l.lines
