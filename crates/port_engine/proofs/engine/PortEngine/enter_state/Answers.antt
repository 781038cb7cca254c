use Rattle.std.proofs.Common.{◌∙◌, ap, inl, inr}
use Rattle.ptp_base.specs.declared.port_conf.PortConf.{PortConf}
use Rattle.ptp_profile.specs.Port.PortTimers.{waiting_timers, sending_timers, qualifying_timers, qualification_of}
use Rattle.port_engine.proofs.lemmas.EngineStateLemmas.{conf_of, with_timers}
use Rattle.port_engine.proofs.engine.PortEngine.enter_state.Goals as goal

pub returns-in-Uncalibrated : goal.returns-in-Uncalibrated
returns-in-Uncalibrated c = λ length p is. rw c.in-Uncalibrated.is (c.enter_uncalibrated.ensures length p is)

pub returns-in-Listening : goal.returns-in-Listening
returns-in-Listening c = λ length p is.
    let conf = ap conf_of c.self.view_is ∙ is.conf in
    let times = c.waiting-timers.ensures ∙ ap (λ (k : PortConf). waiting_timers k c.args.moment) conf in
    let all = with_timers length _ p c.args.new _ _ times (c.set.ensures length p is) in
    elim c.in-Listening.is [ inl h ↦ rw h (rw h at all) | inr h ↦ rw h (rw h at all) ]

pub returns-in-PreMaster : goal.returns-in-PreMaster
returns-in-PreMaster c = λ length p is.
    let conf = ap conf_of c.self-in-PreMaster.view_is ∙ is.conf in
    let times = c.qualifying-timers.ensures ∙ ap (λ (k : PortConf). qualifying_timers (qualification_of k c.args.moment c.args.steps c.args.cause)) conf in
    let all = with_timers length _ p c.args.new _ _ times (c.set-in-PreMaster.ensures length p is) in
    rw c.in-PreMaster.is (rw c.in-PreMaster.is at all)

pub returns-in-Master : goal.returns-in-Master
returns-in-Master c = λ length p is.
    let conf = ap conf_of c.self-in-Master.view_is ∙ is.conf in
    let times = c.sending-timers.ensures ∙ ap (λ (k : PortConf). sending_timers k c.args.moment) conf in
    let all = with_timers length _ p c.args.new _ _ times (c.set-in-Master.ensures length p is) in
    rw c.in-Master.is (rw c.in-Master.is at all)
