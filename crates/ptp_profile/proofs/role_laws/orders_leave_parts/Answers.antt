use Rattle.ptp_profile.proofs.lemmas.OrderLemmas.{IsPart-orders}
use Rattle.ptp_profile.proofs.role_laws.orders_leave_parts.Goals as goal

pub returns : goal.returns
returns c = IsPart-orders
