use Rattle.std.proofs.Common.{◌≡◌, ◌∙◌, ℕ, List, Result, ap, subst}
use Rattle.ptp_profile.specs.declared.message.Message.{Message}
use Rattle.ptp_profile.specs.declared.message.Reject.{Reject}
use Rattle.ptp_profile.specs.Wire.MessageFormat.{decode_result}
use Rattle.bc_history.specs.Phases.PortPhase.{read_frame}
use Rattle.bc_ports.proofs.lemmas.YieldLemmas.{IsFrameTaken, reads-domain, yields-frame}
use Rattle.bc_ports.proofs.hub_port.HubPort.take_octets.Goals as goal

pub returns-clause-yields : goal.returns-clause-yields
returns-clause-yields g c = λ o tick h clock s.
    let n = o.delay_filter_length in
    let read_is : c.decode-read.result ≡ read_frame o c.args.octets.now =
    c.decode-read.ensures.exact ∙ (ap (λ (d : ℕ). decode_result d c.items.result.now) clock.domain ∙ ap (λ (b : List ℕ). decode_result o.domain_number b) c.items.ensures) in
    let P : Result Message Reject → Type 0 =
    λ read. IsFrameTaken o c.args.context.now h c.take_frame-outcome.new.self c.args.frames.now.items c.take_frame-outcome.new.frames.items c.take_frame-outcome.result.fate c.take_frame-outcome.result.measure c.kept_sender.result read in
    let there : P c.decode-read.result = record {
      port = c.take_frame-outcome.ensures.port n h s;
      fate_is = c.take_frame-outcome.ensures.fate n h s;
      measure_is = c.take_frame-outcome.ensures.measure n h s;
      frames = c.take_frame-outcome.ensures.frames n o.domain_number h (reads-domain c.decode-read.result c.items.result.now c.args.sets.now.domain o.domain_number c.decode-read.ensures.ok clock.domain) s;
      sender_is = c.kept_sender.ensures;
    } in
    yields-frame o c.args.context.now c.args.sets.now tick c.args.octets.now h _ _ _ _ _ _ _ (subst P read_is there) c.is_kept.ensures
