use Rattle.ptp_profile.proofs.lemmas.GenerationLemmas.{filter-orders}
use Rattle.ptp_profile.proofs.role_laws.a_changed_clock_is_taken_and_given.Goals as goal

pub returns : goal.returns
returns c = filter-orders
