use Rattle.ptp_profile.proofs.lemmas.OrderLemmas.{after-orders}
use Rattle.ptp_profile.proofs.role_laws.orders_lead_to_the_new_edges.Goals as goal

pub returns : goal.returns
returns c = after-orders
