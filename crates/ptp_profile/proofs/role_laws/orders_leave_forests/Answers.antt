use Rattle.ptp_profile.proofs.lemmas.OrderLemmas.{IsForest-orders}
use Rattle.ptp_profile.proofs.role_laws.orders_leave_forests.Goals as goal

pub returns : goal.returns
returns c = IsForest-orders
