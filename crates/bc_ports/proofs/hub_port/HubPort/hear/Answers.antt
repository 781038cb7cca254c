use Rattle.std.proofs.Common.{◌∙◌, refl, sym, ap, Some, Ok}
use Rattle.ptp_base.specs.declared.identity.PortId.{PortId}
use Rattle.ptp_profile.specs.declared.port_event.Fate.{Fate}
use Rattle.ptp_profile.specs.Port.Port.{timing_measure}
use Rattle.bc_history.specs.Phases.EntryEffects.{is_answered}
use Rattle.bc_history.specs.Phases.PortPhase.{announcement_of}
use Rattle.bc_ports.proofs.lemmas.FrameLemmas.{fate-heard, stands-heard, heard-unanswered, heard-unmeasured, unanswered}
use Rattle.bc_ports.proofs.hub_port.HubPort.hear.Goals as goal

pub returns-clause-yields : goal.returns-clause-yields
returns-clause-yields g c = λ length frames h s.
    let receiver_is = c.receiver-receiver.ensures ∙ s.receiver in
    let fate_is = c.only.ensures.fate ∙ c.fate_of_hearing.ensures in
    let a_is = c.announcement_of-a.ensures ∙ ap (λ (id : PortId). announcement_of id c.args.message.now c.args.said.now) receiver_is in
    record {
      fate = fate-heard c.args.context.now c.args.message.now _ _ h c.receiver-receiver.result _ _ _ _ c.requires.body receiver_is s.window
          c.announcement_of-a.ensures (c.hear-heard.ensures.answer h.kept s.records s.reached) fate_is;
      measure = c.only.ensures.measure ∙ sym (ap (λ (f : Fate). timing_measure length c.args.message.now c.args.context.now.reading f h.port) fate_is
          ∙ heard-unmeasured length c.args.message.now c.args.context.now.reading c.hear-heard.result h.port);
      port = rw (c.only.ensures.fate, c.fate_of_hearing.ensures)
          (stands-heard length c.args.context.now c.args.self.now (record { engine = c.args.self.now.engine; records = c.hear-heard.new.self }) h c.args.message.now _ _ _ _ c.requires.body a_is s refl
          (c.hear-heard.ensures.kept h.kept s.records s.reached) c.hear-heard.ensures.same c.hear-heard.ensures.window c.hear-heard.ensures.receiver);
      frames = unanswered c.args.message.now.domain c.args.context.now.reading (Ok c.args.message.now) _ h.port frames
          (ap (λ (f : Fate). is_answered (Some f)) fate_is ∙ heard-unanswered c.hear-heard.result);
    }
