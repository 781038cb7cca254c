use Rattle.foreign_master.proofs.lemmas.SettledLemmas.{settled_is}
use Rattle.foreign_master.proofs.laws.settled_is_same_set.Goals as goal

pub returns : goal.returns
returns c = settled_is
