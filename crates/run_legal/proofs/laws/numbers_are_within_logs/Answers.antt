use Rattle.run_legal.proofs.lemmas.CourseLemmas.{marks_inside}
use Rattle.run_legal.proofs.laws.numbers_are_within_logs.Goals as goal

pub returns : goal.returns
returns c = marks_inside
