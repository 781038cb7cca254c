use Rattle.bc_history.proofs.lemmas.PortIdentityLemmas.{ports_stay}
use Rattle.bc_history.proofs.laws.ports_stay.Goals as goal

pub returns : goal.returns
returns c = ports_stay
