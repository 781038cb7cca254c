-- The last measure of a port: the port keeps that of its own last entry, and its place is by it.
use Rattle.std.proofs.Common.{◌≡◌, ◌≢◌, ◌≤◌, ℕ, Bool, true, false, cond, refl, sym, ap, ◌∙◌, subst, List, [], ◌∷◌, Option, Some, None}
use Rattle.std.specs.Prelude.{option_map, option_and_then}
use Rattle.std.specs.List.{cons_option}
use Rattle.std.proofs.lemmas.Option.{same_Some}
use Rattle.ptp_profile.specs.declared.seats.Held.{Held}
use Rattle.ptp_profile.specs.declared.timing.Measure.{Measure}
use Rattle.ptp_profile.specs.Timing.Servo.{Sample, newest_action}
use Rattle.bc_history.specs.declared.entry.Entry.{Entry}
use Rattle.bc_history.specs.declared.entry.Input.{Input}
use Rattle.bc_history.specs.declared.entry.Input.TheVariants.{Frame, Timed, Down, Up, Report, Turn, Sampled, Query}
use Rattle.bc_history.specs.declared.entry.Who.TheVariants.{Port}
use Rattle.bc_history.specs.declared.port_input.EventContext.{EventContext}
use Rattle.bc_history.specs.declared.port_input.PortInput.{PortInput}
use Rattle.bc_history.specs.declared.scenario.Options.{Options}
use Rattle.bc_history.specs.declared.scenario.Scenario.{Scenario}
use Rattle.bc_history.specs.Phases.EntryEffects.{effects_of, entry_after}
use Rattle.bc_history.specs.Phases.HubPort.{HubPort, TickMeasure}
use Rattle.bc_history.specs.Phases.Inputs.{event_of, port_at, port_input, port_of, tick_of}
use Rattle.bc_history.specs.Phases.OpeningState.{servo_of}
use Rattle.bc_history.specs.Phases.PortPhase.{happening_measure, measured_at}
use Rattle.bc_history.specs.Phases.State.{Event, State}
use Rattle.bc_history.specs.Phases.Step.{core_after, measure_at, state_of, step}
use Rattle.bc_history.specs.Run.Actors.{is_by}
use Rattle.bc_history.specs.Run.History.{Continues, Follows}
use Rattle.bc_history.specs.Run.PortEntries.{measured_by, measured_with}
use Rattle.bc_history.specs.declared.place.PortPlace.{PortPlace}
use Rattle.bc_history.specs.declared.place.PortPlace.TheVariants.{Waits}
use Rattle.bc_history.specs.Run.PortPlace.{place_by_entries, place_by_measure, port_job}
use Rattle.bc_history.specs.Run.Samples.{measure_sample, port_samples}
use Rattle.bc_history.proofs.lemmas.CoreInvariantLemmas.{Each, Each-core_after, Each-opening, option_map-some, port_of-port_input}
use Rattle.bc_history.proofs.lemmas.EffectKindLemmas.{with_renewal-measured}
use Rattle.bc_history.proofs.lemmas.PortEntriesLemmas.{port_of-by, port_of-not_by}

-- ---- what a port measured at an entry

-- an input of a port has the tick of its port's own input
tick-port_input : (input : Input) (p : PortInput) → port_input input ≡ Some p → p.tick ≡ tick_of input
tick-port_input (Frame port tick octets) p is = ap (λ (q : PortInput). q.tick) (sym (same_Some _ p is))
tick-port_input (Timed port tick timer) p is = ap (λ (q : PortInput). q.tick) (sym (same_Some _ p is))
tick-port_input (Down port tick) p is = ap (λ (q : PortInput). q.tick) (sym (same_Some _ p is))
tick-port_input (Up port tick) p is = ap (λ (q : PortInput). q.tick) (sym (same_Some _ p is))
tick-port_input (Report port tick gener action outcome) p is = ap (λ (q : PortInput). q.tick) (sym (same_Some _ p is))
tick-port_input (Turn clock tick) p is = cc
tick-port_input (Sampled clock tick lead theirs own action outcome) p is = cc
tick-port_input (Query tick text) p is = cc

-- after an entry its own port has a measure of the entry's tick alone, and every other port has the measure that it had
record HasMeasured (e : Entry) (before : List Entry) (p : ℕ) (h : HubPort) : Type 0 where
  own : port_of e.input ≡ Some p → (m : TickMeasure) → h.measured ≡ Some m → m.tick ≡ tick_of e.input
  elsewhere : port_of e.input ≢ Some p → h.measured ≡ measured_by p before

-- a measure at a tick has the tick
measured_at-tick : (k : EventContext) (tick : ℕ) (o : Option Measure) (m : TickMeasure)
    → option_map (measured_at k tick) o ≡ Some m → m.tick ≡ tick
measured_at-tick k tick o m is =
    let made = option_map-some (measured_at k tick) o m is in ap (λ (x : TickMeasure). x.tick) (sym made.2)

-- the ports after an entry, where those before it have what their entries measured
Each-measured : (o : Options) (h : State) (e : Entry) (before : List Entry)
    → Each (λ p (g : HubPort). g.measured ≡ measured_by p before) h.core.ports
    → Each (HasMeasured e before) (core_after o h (event_of e)).ports
Each-measured o h e before each =
    Each-core_after o h (event_of e) (λ p (g : HubPort). g.measured ≡ measured_by p before) (HasMeasured e before) (record {
      own = λ k p g is was. record {
        own = λ one m there. measured_at-tick k p.tick (happening_measure o k p.what g) m there ∙ tick-port_input e.input p is;
        elsewhere = λ other. absurd (other (port_of-number e.input p is));
      };
      elsewhere = λ p g other was. record { own = λ one. absurd (other one); elsewhere = λ differs. was };
    }) (record {
      code = λ m best parent steps p g has. record { own = has.own; elsewhere = has.elsewhere };
      renewal = λ m p g has. record {
        own = λ one x there. has.own one x (sym (with_renewal-measured m g) ∙ there);
        elsewhere = λ other. with_renewal-measured m g ∙ has.elsewhere other;
      };
    }) each
  where
    port_of-number : (input : Input) (p : PortInput) → port_input input ≡ Some p → port_of input ≡ Some p.number
    port_of-number input p is = port_of-port_input input ∙ ap (option_map (λ (q : PortInput). q.number)) is

-- ---- what an entry tells is what its port measured

-- the measure and the stamp of a measure of a tick
abbrev parts : TickMeasure → Measure × Held
parts m = (m.measure, m.held)

-- both at a tick
abbrev whole : ℕ → Measure × Held → TickMeasure
whole tick m = record { tick = tick; measure = m.0; held = m.1 }

-- a measure of a tick is its parts at the tick
whole-parts : (tick : ℕ) (o : Option TickMeasure) → ((m : TickMeasure) → o ≡ Some m → m.tick ≡ tick)
    → option_map (whole tick) (option_map parts o) ≡ o
whole-parts tick None at = refl
whole-parts tick (Some m) at = ap (λ (n : ℕ). Some (whole n (parts m))) (sym (at m refl))

-- an entry that follows tells the measure of its port after it
pub told-measure : (s : Scenario) (before : List Entry) (e : Entry) → Follows s before e
    → e.effects.measure ≡ measure_at (event_of e) (core_after s.options (state_of s before) (event_of e)).ports
unfolding entry_after effects_of
told-measure s before e f = ap (λ (x : Entry). x.effects.measure) f.made

-- the measure at an entry is that of its port
pub measure_at-port : (e : Event) (ports : List HubPort) (p : ℕ) (h : HubPort) → port_of e.input ≡ Some p → port_at ports p ≡ Some h
    → measure_at e ports ≡ option_map parts h.measured
measure_at-port e ports p h of there =
    ap (λ (o : Option ℕ). option_map parts (option_and_then (λ (g : HubPort). g.measured) (option_and_then (port_at ports) o))) of
    ∙ ap (λ (o : Option HubPort). option_map parts (option_and_then (λ (g : HubPort). g.measured) o)) there

-- ---- along a history

-- after an entry that follows, each port has what its last entry measured
measured-after : (s : Scenario) (before : List Entry) (e : Entry) → Follows s before e
    → Each (HasMeasured e before) (core_after s.options (state_of s before) (event_of e)).ports
    → Each (λ p (h : HubPort). h.measured ≡ measured_by p (e ∷ before)) (core_after s.options (state_of s before) (event_of e)).ports
measured-after s before e f each p h there = by (is_by (Port p) e) refl
  where
    by : (b : Bool) → is_by (Port p) e ≡ b → h.measured ≡ cond b (measured_with e) (measured_by p before)
    by true is =
        let after = (core_after s.options (state_of s before) (event_of e)).ports in
        let of = port_of-by p e is in
        let told = told-measure s before e f ∙ measure_at-port (event_of e) after p h of there in
        sym (ap (option_map (whole (tick_of e.input))) told ∙ whole-parts (tick_of e.input) h.measured ((each p h there).own of))
    by false is = (each p h there).elsewhere (port_of-not_by p e is)

-- a port keeps what the last entry of its own measured
pub measured-state_of : (s : Scenario) (entries : List Entry) → Continues s entries
    → Each (λ p (h : HubPort). h.measured ≡ measured_by p entries) (state_of s entries).core.ports
unfolding state_of step
measured-state_of s [] continues = Each-opening s (λ p h. h.measured ≡ None) (λ i conf is. refl)
measured-state_of s (e ∷ before) (f, continues) =
    let h = state_of s before in
    measured-after s before e f (Each-measured s.options h e before (measured-state_of s before continues))

-- ---- a port's place

-- where a port goes with its last measure, by its samples
abbrev place_with : Options → List Sample → Option TickMeasure → PortPlace
place_with o samples None = Waits
place_with o samples (Some m) = port_job m.tick m.held (newest_action (servo_of o) samples)

-- the place by a measure of a tick is the place by its parts
place_with-parts : (o : Options) (samples : List Sample) (tick : ℕ) (m : Option (Measure × Held))
    → place_by_measure o samples tick m ≡ place_with o samples (option_map (whole tick) m)
place_with-parts o samples tick None = refl
place_with-parts o samples tick (Some m) = refl

-- a port's place is by its last measure
pub place-measured : (o : Options) (p : ℕ) (entries : List Entry)
    → place_by_entries o p entries ≡ place_with o (port_samples p entries) (measured_by p entries)
place-measured o p [] = refl
place-measured o p (e ∷ before) = by (is_by (Port p) e) (place-measured o p before)
  where
    by : (b : Bool) → place_by_entries o p before ≡ place_with o (port_samples p before) (measured_by p before)
        → cond b
        (place_by_measure o (cons_option (cond b (option_map (measure_sample e.seen) e.effects.measure) None) (port_samples p before))
        (tick_of e.input) e.effects.measure)
        (place_by_entries o p before)
        ≡ place_with o (cons_option (cond b (option_map (measure_sample e.seen) e.effects.measure) None) (port_samples p before))
        (cond b (measured_with e) (measured_by p before))
    by true rest =
        place_with-parts o (cons_option (option_map (measure_sample e.seen) e.effects.measure) (port_samples p before)) (tick_of e.input)
        e.effects.measure
    by false rest = rest

-- without a measure it waits
pub place-unmeasured : (o : Options) (p : ℕ) (entries : List Entry) → measured_by p entries ≡ None
    → place_by_entries o p entries ≡ Waits
place-unmeasured o p entries is = place-measured o p entries ∙ ap (place_with o (port_samples p entries)) is

-- with a measure it goes to the job of its servo's action
pub place-by_measure : (o : Options) (p : ℕ) (entries : List Entry) (m : TickMeasure) → measured_by p entries ≡ Some m
    → place_by_entries o p entries ≡ port_job m.tick m.held (newest_action (servo_of o) (port_samples p entries))
place-by_measure o p entries m is = place-measured o p entries ∙ ap (place_with o (port_samples p entries)) is

-- the last measure of a port came up to the end of the run
pub measured_by-due : (s : Scenario) (p : ℕ) (entries : List Entry) (m : TickMeasure) → Continues s entries
    → measured_by p entries ≡ Some m → m.tick ≤ s.options.duration
measured_by-due s p [] m continues is = absurd (cc)
measured_by-due s p (e ∷ before) m (f, continues) is = by (is_by (Port p) e) (measured_by-due s p before m continues) is
  where
    by : (b : Bool) → (measured_by p before ≡ Some m → m.tick ≤ s.options.duration)
        → cond b (measured_with e) (measured_by p before) ≡ Some m → m.tick ≤ s.options.duration
    by true rest is =
        let made = option_map-some (whole (tick_of e.input)) e.effects.measure m is in
        subst (λ (x : TickMeasure). x.tick ≤ s.options.duration) made.2 f.due.1
    by false rest is = rest is
