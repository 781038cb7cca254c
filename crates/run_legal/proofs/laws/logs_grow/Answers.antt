use Rattle.run_legal.proofs.lemmas.CourseLemmas.{IsSeen-push, Agrees-push}
use Rattle.run_legal.proofs.laws.logs_grow.Goals as goal

pub returns : goal.returns
returns c = record { readings = IsSeen-push; outcomes = Agrees-push }
