-- Each port after an entry, where the entry's own port takes its input with the clock and the reading of the entry.
use Rattle.std.proofs.Common.{◌≡◌, ◌≢◌, ℕ, refl, sym, ap, ◌∙◌, List, Option, Some, None}
use Rattle.std.specs.Prelude.{option_map, option_and_then}
use Rattle.std.proofs.lemmas.Option.{same_Some}
use Rattle.ptp_profile.specs.declared.timing.Measure.{Measure}
use Rattle.ptp_profile.specs.declared.seats.Held.{Held}
use Rattle.bc_history.specs.declared.port_input.PortEntry.{PortEntry}
use Rattle.bc_history.specs.declared.port_input.PortInput.{PortInput}
use Rattle.bc_history.specs.declared.scenario.Options.{Options}
use Rattle.bc_history.specs.Phases.HubPort.{HubPort, TickMeasure}
use Rattle.bc_history.specs.Phases.Inputs.{port_at, port_of, port_input, value_of}
use Rattle.bc_history.specs.Phases.PortPhase.{after_input, context_of}
use Rattle.bc_history.specs.Phases.State.{Event, State}
use Rattle.bc_history.specs.Phases.Step.{core_after, core_before, core_between, measure_at, port_entry, port_held, port_phase}
use Rattle.bc_history.proofs.lemmas.CoreInvariantLemmas.{DecisionsKeepPorts, Each, Each-after_port, Each-decision_phase, option_map-some, port_entry-input, port_of-port_input}

-- an entry takes each port from P to Q: its own by its input, with what the port's phases look at, and the others as they are
pub record EntryTakesEach (o : Options) (h : State) (e : Event) (P Q : ℕ → HubPort → Type 0) : Type 0 where
  pub own : (x : PortEntry) (g : HubPort) → port_entry h e ≡ Some x → P x.input.number g
      → Q x.input.number (after_input o (context_of x (core_before h e)) x.input g)
  pub elsewhere : (p : ℕ) (g : HubPort) → port_of e.input ≢ Some p → P p g → Q p g

-- each port after the entry's own port took its input, by whether the entry is one of a port
Each-own_phase : (o : Options) (h : State) (e : Event) (P Q : ℕ → HubPort → Type 0) → EntryTakesEach o h e P Q
    → (x : Option PortEntry) → port_entry h e ≡ x → Each P h.core.ports → Each Q (port_phase o x (core_before h e)).ports
Each-own_phase o h e P Q k None is each = λ p g there.
    let input = port_entry-input h e ∙ ap (option_map (λ (y : PortEntry). y.input)) is in
    let none = port_of-port_input e.input ∙ ap (option_map (λ (y : PortInput). y.number)) input in
    k.elsewhere p g (λ some. cc) (each p g there)
Each-own_phase o h e P Q k (Some x) is each =
    let input = port_entry-input h e ∙ ap (option_map (λ (y : PortEntry). y.input)) is in
    let one = port_of-port_input e.input ∙ ap (option_map (λ (y : PortInput). y.number)) input in
    Each-after_port o P Q x (core_before h e) (λ g was. k.own x g is was)
    (λ p g other was. k.elsewhere p g (λ some. other (same_Some x.input.number p (sym one ∙ some))) was) each

-- each port after the entry
pub Each-after_entry : (o : Options) (h : State) (e : Event) (P Q : ℕ → HubPort → Type 0) → EntryTakesEach o h e P Q
    → DecisionsKeepPorts o Q → Each P h.core.ports → Each Q (core_after o h e).ports
Each-after_entry o h e P Q k decisions each =
    Each-decision_phase o Q decisions (port_entry h e) (core_before h e) (core_between o h e)
    (Each-own_phase o h e P Q k (port_entry h e) refl each)

-- what the phases of ports look at has the entry's reading, and the clock of the entry's port with its stamp
pub port_entry-parts : (h : State) (e : Event) (x : PortEntry) → port_entry h e ≡ Some x
    → (x.reading ≡ value_of e.seen) × (x.held ≡ port_held h.roles.orders (port_at h.core.ports x.input.number)) × (port_input e.input ≡ Some x.input)
port_entry-parts h e x is =
    let made = option_map-some _ (port_input e.input) x is in
    let input : made.0 ≡ x.input = ap (λ (y : PortEntry). y.input) made.2 in (
      ap (λ (y : PortEntry). y.reading) (sym made.2),
      ap (λ (y : PortEntry). y.held) (sym made.2) ∙ ap (λ (p : PortInput). port_held h.roles.orders (port_at h.core.ports p.number)) input,
      made.1 ∙ ap (λ (p : PortInput). Some p) input,
    )

-- ---- the measure at an entry

-- what a function made of the value of an option was there
pub option_and_then-some : {X Y : Type 0} (f : X → Option Y) (o : Option X) (y : Y) → option_and_then f o ≡ Some y
    → (x : X) × (o ≡ Some x) × (f x ≡ Some y)
option_and_then-some f None y is = cc
option_and_then-some f (Some x) y is = (x, refl, is)

-- a measure at an entry is one of the entry's port
pub record IsMeasureOf (e : Event) (ports : List HubPort) (m : Measure × Held) : Type 0 where
  pub number : ℕ
  pub port : HubPort
  pub measured : TickMeasure
  pub of : port_of e.input ≡ Some number
  pub there : port_at ports number ≡ Some port
  pub has : port.measured ≡ Some measured
  pub is : (measured.measure, measured.held) ≡ m

-- so it is
pub measure_at-some : (e : Event) (ports : List HubPort) (m : Measure × Held) → measure_at e ports ≡ Some m → IsMeasureOf e ports m
measure_at-some e ports m is =
    let made = option_map-some _ _ m is in
    let port = option_and_then-some (λ (h : HubPort). h.measured) (option_and_then (port_at ports) (port_of e.input)) made.0 made.1 in
    let number = option_and_then-some (port_at ports) (port_of e.input) port.0 port.1 in
    record {
      number = number.0;
      port = port.0;
      measured = made.0;
      of = number.1;
      there = number.2;
      has = port.2;
      is = made.2;
    }
