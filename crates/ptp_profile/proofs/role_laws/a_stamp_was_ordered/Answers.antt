use Rattle.ptp_profile.proofs.lemmas.GrantLemmas.{stamp_was_ordered}
use Rattle.ptp_profile.proofs.role_laws.a_stamp_was_ordered.Goals as goal

pub returns : goal.returns
returns c = stamp_was_ordered
