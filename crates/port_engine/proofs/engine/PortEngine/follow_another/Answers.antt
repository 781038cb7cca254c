use Rattle.ptp_profile.specs.Port.Port.{after_clearing}
use Rattle.port_engine.proofs.engine.PortEngine.follow_another.Goals as goal

pub returns : goal.returns
returns c = λ length p is. c.renew.ensures length _ (c.set_state.ensures length (after_clearing p) (c.clear.ensures length p is))
