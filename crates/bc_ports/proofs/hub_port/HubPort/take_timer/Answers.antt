use Rattle.std.proofs.Common.{◌≡◌, ◌∙◌, ℕ, ℤ, true, Some, None, ◌++◌, ap, map, refl, rules, subst, sym, w64, to_z, of_z}
use Rattle.std.proofs.lemmas.Int.{to_z-of_z}
use Rattle.ptp_profile.specs.Port.PortMessages.{timer_messages}
use Rattle.ptp_profile.specs.Port.PortTimers.{Timers, timer_at}
use Rattle.ptp_profile.specs.Port.Port.{after_firing, is_set_for}
use Rattle.ptp_profile.specs.Wire.MessageFormat.{message_octets}
use Rattle.port_engine.specs.EngineView.{EngineRepresents}
use Rattle.data_sets.specs.DataSetsView.{master_in}
use Rattle.bc_history.specs.declared.port_input.PortHappening.TheVariants.{Timed}
use Rattle.bc_history.specs.Phases.DecisionPhase.{raises_decision}
use Rattle.bc_history.specs.Phases.HubPort.{HubPort}
use Rattle.bc_history.proofs.lemmas.PortPhaseLemmas.{fired_alike}
use Rattle.bc_ports.proofs.lemmas.HubPortLemmas.{keeps-engine}
use Rattle.bc_ports.proofs.lemmas.YieldLemmas.{raises-other, raises-receipt, set-for, yields-timer}
use Rattle.bc_ports.proofs.hub_port.HubPort.take_timer.Goals.{in-AnnounceReceipt, in_default}
use Rattle.bc_ports.proofs.hub_port.HubPort.take_timer.Goals as goal

-- the reading as the engine was given it
same : (c : goal.After-outcome_without_frame-2) → to_z w64 (of_z w64 c.args.context.now.reading) ≡ c.args.context.now.reading
same c = to_z-of_z w64 c.args.context.now.reading (search rules)

-- which timer raises a decision
raised : (c : goal.After-outcome_without_frame-2) (h : HubPort) → is_set_for c.args.timer c.args.tick h.port ≡ true → c.match-matches.matches ≡ raises_decision None (Some h) c.args.tick (Timed c.args.timer)
raised c h set = elim c.match-matches.branch [
  | in-AnnounceReceipt w ↦ w.matches-is ∙ sym (raises-receipt c.args.timer c.args.tick h w.in-AnnounceReceipt.is set)
  | in_default w ↦ w.matches-is ∙ sym (raises-other c.args.timer c.args.tick h w.in_default.not-AnnounceReceipt)
]

pub returns-clause-yields : goal.returns-clause-yields
returns-clause-yields c = λ o h clock s.
    let k = c.args.context.now in
    let n = o.delay_filter_length in
    let timer = c.args.timer in
    let at : timer_at c.args.self.now.engine.timers timer ≡ Some c.args.tick = search rules in
    let set : timer_at h.port.timers timer ≡ Some c.args.tick = ap (λ (t : Timers). timer_at t timer) (sym s.engine.timers) ∙ at in
    let after : HubPort = record h { port = after_firing c.args.tick k.reading timer h.port } in
    let alike = fired_alike c.args.tick k.reading timer h.port in
    let E : ℤ → Type 0 = λ reading. EngineRepresents n c.fire.new.self (after_firing c.args.tick reading timer h.port) in
    let port = c.act_on.ensures.port n after (keeps-engine n k.moment c.args.self.now _ h.port after.port h.kept refl alike.id alike.conf s (subst E (same c) (c.in-Ok.ensures.port n h.port c.args.tick s.engine set))) in
    let F : ℕ → ℤ → Type 0 = λ domain reading. c.fire.new.frames.items ≡ c.args.frames.now.items ++ map message_octets (timer_messages domain (master_in c.args.sets.now) reading timer h.port) in
    let frames : F o.domain_number k.reading =
    subst (λ (d : ℕ). F d k.reading) clock.domain (subst (F c.args.sets.now.domain) (same c) (c.in-Ok.ensures.sent n h.port s.engine)) in
    let is = set-for timer c.args.tick h.port set in
    rw (c.outcome_without_frame-2.ensures)
    (yields-timer o k c.args.sets.now c.args.tick timer h c.act_on.new.self c.args.frames.now.items c.fire.new.frames.items c.match-matches.matches is (rw (← c.timer_event.ensures) port) frames (raised c h is))
