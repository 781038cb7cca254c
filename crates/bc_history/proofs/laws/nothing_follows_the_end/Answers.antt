use Rattle.bc_history.proofs.lemmas.MomentLemmas.{none_follows}
use Rattle.bc_history.proofs.laws.nothing_follows_the_end.Goals as goal

pub returns : goal.returns
returns c = none_follows
