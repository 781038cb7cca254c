use Rattle.ptp_profile.proofs.lemmas.GenerationLemmas.{length-orders}
use Rattle.ptp_profile.proofs.role_laws.a_generation_has_few_orders.Goals as goal

pub returns : goal.returns
returns c = length-orders
