use Rattle.std.proofs.Common.{rules, ◌≡◌, ◌∙◌, refl, ap, sym, subst, ◌++◌, List, ℕ, ℤ, w64, to_z, of_z}
use Rattle.std.proofs.lemmas.Int.{to_z-of_z}
use Rattle.ptp_base.specs.declared.identity.PortId.{PortId}
use Rattle.ptp_profile.specs.Port.Port.{Port, timing_fate, timing_measure, after_timing}
use Rattle.ptp_profile.specs.Port.PortMessages.{delay_response_by}
use Rattle.port_engine.specs.EngineView.{EngineRepresents, frames_for}
use Rattle.bc_ports.proofs.lemmas.FrameLemmas.{read_fate-timing, timing_fate-other, stands-other, responses-answered, keeps-timing}
use Rattle.bc_ports.proofs.hub_port.HubPort.time.Goals as goal

-- the reading as the engine was given it
same : (c : goal.In-Ok) → to_z w64 (of_z w64 c.args.context.now.reading) ≡ c.args.context.now.reading
same c = to_z-of_z w64 c.args.context.now.reading (search rules)

fate : (c : goal.In-Ok) (length : ℕ) (p : Port) → EngineRepresents length c.args.self.now.engine p → c.in-Ok.fate ≡ timing_fate c.args.context.now.parent c.args.message.now c.args.context.now.reading p c.args.message.now.body
fate c length p s =
    let P : ℤ → Type 0 = λ reading. c.in-Ok.fate ≡ timing_fate c.args.context.now.parent c.args.message.now reading p c.args.message.now.body in
    subst P (same c) (c.in-Ok.ensures.fate length p s)

pub returns-clause-yields : goal.returns-clause-yields
returns-clause-yields c = λ length h s.
    let k = c.args.context.now in
    let m = c.args.message.now in
    let Measures : ℤ → Type 0 = λ reading. c.in-Ok.measure ≡ timing_measure length m reading c.in-Ok.fate h.port in
    let Engine : ℤ → Type 0 = λ reading. EngineRepresents length c.heard.new.self (after_timing m reading c.in-Ok.fate h.port) in
    let Sends : ℤ → Type 0 = λ reading. c.heard.new.frames.items ≡ c.args.frames.now.items ++ frames_for c.in-Ok.fate (delay_response_by m.domain reading m h.port) in
    record {
      fate = read_fate-timing k m h c.in-Ok.fate c.requires.timing
          (λ same. c.requires.other (ap (λ (p : PortId). p.clock.id) s.receiver ∙ sym same)) (fate c length h.port s.engine);
      measure = subst Measures (same c) (c.in-Ok.ensures.measure length h.port s.engine);
      port = stands-other length k.moment k _ h m c.in-Ok.fate
          (λ e. timing_fate-other k.parent m k.reading h.port m.body (sym (fate c length h.port s.engine) ∙ e))
          (keeps-timing length k.moment c.args.self.now _ h.port h.kept m k.reading c.in-Ok.fate refl s
          (subst Engine (same c) (c.in-Ok.ensures.port length h.port s.engine)));
      frames = subst Sends (same c) (c.in-Ok.ensures.sent length h.port s.engine)
          ∙ ap (λ (sent : List (List ℕ)). c.args.frames.now.items ++ sent) (responses-answered m k.reading c.in-Ok.fate h.port);
    }
