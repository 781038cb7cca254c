use Rattle.std.proofs.Common.{length}
use Rattle.bc_config.proofs.lemmas.LineReadingLemmas.{IsReadTo}
use Rattle.bc_config.proofs.text.scenario.Given as goal

abbrev pub invariant-loop-line : goal.invariant-loop-line
invariant-loop-line l = IsReadTo l.text l.lines l.number l.draft

abbrev pub decreases-loop-line : goal.decreases-loop-line
decreases-loop-line l = length l.lines
