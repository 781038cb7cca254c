use Rattle.ptp_profile.proofs.lemmas.ServoLemmas.{length-steer, All-steer, newest_action-new}
use Rattle.ptp_profile.proofs.timing_laws.steering_is_gentle.Goals as goal

pub returns-clause-each : goal.returns-clause-each
returns-clause-each c = length-steer

pub returns-clause-gentle : goal.returns-clause-gentle
returns-clause-gentle c = All-steer

pub returns-clause-anew : goal.returns-clause-anew
returns-clause-anew c = newest_action-new
