use Rattle.ptp_profile.proofs.lemmas.SeatLogLemmas.{stamp_after-lawful}
use Rattle.ptp_profile.proofs.role_laws.a_lawful_log_has_the_last_stamp.Goals as goal

pub returns : goal.returns
returns c = stamp_after-lawful
