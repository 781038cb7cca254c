use Rattle.run_legal.proofs.lemmas.WorldLemmas.{IsRight-opening}
use Rattle.run_legal.proofs.laws.the_world_begins_right.Goals as goal

pub returns : goal.returns
returns c = IsRight-opening
