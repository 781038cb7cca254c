use Rattle.run_legal.proofs.lemmas.HolderLemmas.{IsHolder-ordered}
use Rattle.run_legal.proofs.laws.ordered_stamps_are_holders.Goals as goal

pub returns : goal.returns
returns c = IsHolder-ordered
