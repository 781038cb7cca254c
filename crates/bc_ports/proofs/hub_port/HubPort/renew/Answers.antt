use Rattle.std.proofs.Common.{◌∙◌, sym, ap, refl, Option}
use Rattle.ptp_base.specs.declared.announcement.Announcement.{Announcement}
use Rattle.ptp_base.specs.declared.identity.PortId.{PortId}
use Rattle.ptp_base.specs.declared.port_state.PortState.{PortState}
use Rattle.ptp_profile.specs.Port.PortStates.{is_dependent}
use Rattle.bc_history.specs.Phases.DecisionPhase.{newest_sender, is_sent_by}
use Rattle.bc_ports.proofs.lemmas.HubPortLemmas.{keeps-renewed}
use Rattle.bc_ports.proofs.hub_port.HubPort.renew.Goals as goal

pub returns-then-is_sent_by-clause-port : goal.returns-then-is_sent_by-clause-port
returns-then-is_sent_by-clause-port c = λ length h s best newest.
    let dependent = ap (λ (x : PortState). is_dependent x) (sym (c.state.ensures ∙ s.engine.state)) ∙ (sym c.is_dependent.ensures ∙ c.if-is_dependent.true) in
    let sent = ap (λ (b : Option Announcement). is_sent_by b (newest_sender h.kept)) (sym best) ∙ (ap (λ (x : Option PortId). is_sent_by c.args.best.now x) newest ∙ (sym c.is_sent_by.ensures ∙ c.if-is_sent_by.true)) in
    keeps-renewed length c.args.moment c.args.self.now _ h refl s (c.renew.ensures length h.port s.engine) dependent sent
