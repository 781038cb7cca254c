use Rattle.std.proofs.Common.{◌≡◌, ◌∙◌, Option, sym, subst, true, false, rules}
use Rattle.ptp_profile.specs.declared.port_event.PortEvent.{PortEvent}
use Rattle.bc_history.specs.Phases.PortPhase.{after_cause, after_report}
use Rattle.bc_history.specs.Phases.HubPort.{HubPort}
use Rattle.bc_ports.specs.Representation.{PortRepresents}
use Rattle.bc_ports.proofs.lemmas.YieldLemmas.{yields-old_report, yields-report}
use Rattle.bc_ports.proofs.hub_port.HubPort.take_report.Goals as goal

pub returns-then-not-is_report_counted-clause-yields : goal.returns-then-not-is_report_counted-clause-yields
returns-then-not-is_report_counted-clause-yields c = λ o d tick frames h s.
    let is : c.is_report_counted.result ≡ false = search rules in
    rw c.outcome_without_frame.ensures
    (yields-old_report o c.args.context.now d tick c.args.gener c.args.action c.args.outcome h c.args.self.now frames (sym (c.is_report_counted.ensures o.delay_filter_length c.args.context.now.moment h s) ∙ is) s)

pub returns-clause-yields : goal.returns-clause-yields
returns-clause-yields c = λ o d tick frames h s.
    let n = o.delay_filter_length in
    let k = c.args.context.now in
    let is : c.is_report_counted.result ≡ true = search rules in
    let after : HubPort = record h { port = after_report c.args.action c.args.outcome h.port } in
    let port = c.act_on.ensures.port n after (c.note_report.ensures.port n k.moment h s) in
    let P : Option PortEvent → Type 0 = λ cause. PortRepresents n k.moment c.act_on.new.self (after_cause k cause after) in
    rw c.outcome_without_frame-2.ensures
    (yields-report o k d tick c.args.gener c.args.action c.args.outcome h c.act_on.new.self frames (sym (c.is_report_counted.ensures n k.moment h s) ∙ is) (subst P c.report_event.ensures port))
