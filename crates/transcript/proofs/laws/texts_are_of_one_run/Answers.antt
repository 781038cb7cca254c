use Rattle.transcript.proofs.lemmas.ReadingLemmas.{one_run}
use Rattle.transcript.proofs.laws.texts_are_of_one_run.Goals as goal

pub returns : goal.returns
returns c = one_run
