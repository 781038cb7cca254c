use Rattle.bc_history.proofs.lemmas.OneFollowsLemmas.{one_follows}
use Rattle.bc_history.proofs.laws.at_most_one_follows.Goals as goal

pub returns : goal.returns
returns c = one_follows
