use Rattle.std.proofs.Common.{length}
use Rattle.transcript.proofs.lemmas.SplitLemmas.{IsSplitTo}
use Rattle.transcript.proofs.split.lines_in.Given as goal

abbrev pub invariant-loop-line : goal.invariant-loop-line
invariant-loop-line l = IsSplitTo l.text l.found l.rest

abbrev pub decreases-loop-line : goal.decreases-loop-line
decreases-loop-line l = length l.rest
