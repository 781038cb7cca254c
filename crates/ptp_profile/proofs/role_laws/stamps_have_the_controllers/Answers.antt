use Rattle.ptp_profile.proofs.lemmas.SeatLogLemmas.{stamp_of-ctrl}
use Rattle.ptp_profile.proofs.role_laws.stamps_have_the_controllers.Goals as goal

pub returns : goal.returns
returns c = stamp_of-ctrl
