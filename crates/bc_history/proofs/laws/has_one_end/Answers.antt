use Rattle.bc_history.proofs.lemmas.EndLemmas.{one_end}
use Rattle.bc_history.proofs.laws.has_one_end.Goals as goal

pub returns : goal.returns
returns c = one_end
