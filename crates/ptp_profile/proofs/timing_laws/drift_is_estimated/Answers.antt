use Rattle.ptp_profile.proofs.lemmas.ServoLemmas.{drift_after-sum}
use Rattle.ptp_profile.proofs.timing_laws.drift_is_estimated.Goals as goal

pub returns-clause-sum : goal.returns-clause-sum
returns-clause-sum c = drift_after-sum
