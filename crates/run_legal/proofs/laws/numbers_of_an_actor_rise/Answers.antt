use Rattle.run_legal.proofs.lemmas.CourseLemmas.{actors_rise}
use Rattle.run_legal.proofs.laws.numbers_of_an_actor_rise.Goals as goal

pub returns : goal.returns
returns c = actors_rise
