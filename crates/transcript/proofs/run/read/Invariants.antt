use Rattle.std.proofs.Common.{length}
use Rattle.transcript.proofs.lemmas.ReadingLemmas.{IsReadTo}
use Rattle.transcript.proofs.run.read.Given as goal

abbrev pub invariant-loop-octets : goal.invariant-loop-octets
invariant-loop-octets l = IsReadTo l.text l.rest l.number l.progress

abbrev pub decreases-loop-octets : goal.decreases-loop-octets
decreases-loop-octets l = length l.rest
