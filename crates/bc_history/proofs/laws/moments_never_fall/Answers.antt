use Rattle.bc_history.proofs.lemmas.MomentLemmas.{moments_rise}
use Rattle.bc_history.proofs.laws.moments_never_fall.Goals as goal

pub returns : goal.returns
returns c = moments_rise
