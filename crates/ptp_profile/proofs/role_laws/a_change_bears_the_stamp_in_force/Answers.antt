use Rattle.ptp_profile.proofs.lemmas.SeatLogLemmas.{entry-lawful}
use Rattle.ptp_profile.proofs.role_laws.a_change_bears_the_stamp_in_force.Goals as goal

pub returns : goal.returns
returns c = entry-lawful
