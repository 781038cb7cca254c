use Rattle.std.proofs.Common.{◌∙◌, ap}
use Rattle.ptp_base.specs.declared.port_conf.PortConf.{PortConf}
use Rattle.ptp_base.specs.declared.port_state.PortState.TheVariants.{Uncalibrated}
use Rattle.ptp_profile.specs.Port.Port.{after_clearing}
use Rattle.ptp_profile.specs.Port.PortTimers.{following_timers}
use Rattle.port_engine.proofs.lemmas.EngineStateLemmas.{conf_of, with_timers}
use Rattle.port_engine.proofs.engine.PortEngine.enter_uncalibrated.Goals as goal

pub returns-in-Decided : goal.returns-in-Decided
returns-in-Decided c = λ length p is.
    let conf = ap conf_of c.self.view_is ∙ is.conf in
    let times = c.following-timers.ensures ∙ ap (λ (k : PortConf). following_timers k c.args.moment) conf in
    rw c.in-Decided.is (with_timers length _ (after_clearing p) Uncalibrated _ _ times (c.set.ensures length (after_clearing p) (c.clear.ensures length p is)))
