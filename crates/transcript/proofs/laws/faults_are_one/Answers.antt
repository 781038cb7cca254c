use Rattle.transcript.proofs.lemmas.ReadingLemmas.{one_fault}
use Rattle.transcript.proofs.laws.faults_are_one.Goals as goal

pub returns : goal.returns
returns c = one_fault
