-- The next event of an actor is due.
use Rattle.std.proofs.Common.{◌≡◌, ◌≢◌, ℕ, Bool, true, false, cond, refl, sym, ap, subst, ◌∙◌, List, [], ◌∷◌, Option, Some, None, option_map, ltb, eq-eqb}
use Rattle.std.specs.Prelude.{IsSomeAnd}
use Rattle.std.proofs.lemmas.Option.{same_Some}
use Rattle.ptp_profile.specs.declared.port_event.Timer.{Timer}
use Rattle.ptp_profile.specs.declared.timing.Action.{Action}
use Rattle.ptp_profile.specs.declared.timing.Action.TheVariants.{Unlocked, Jump, Locked}
use Rattle.ptp_profile.specs.Timing.Servo.{newest_action}
use Rattle.ptp_profile.specs.declared.seats.Held.{Held}
use Rattle.ptp_profile.specs.Port.PortTimers.{due_of}
use Rattle.bc_history.specs.declared.entry.Entry.{Entry}
use Rattle.bc_history.specs.declared.entry.Input.{Input}
use Rattle.bc_history.specs.declared.entry.Input.TheVariants.{Timed, Report}
use Rattle.bc_history.specs.declared.entry.Outcome.{Outcome}
use Rattle.bc_history.specs.declared.entry.Who.TheVariants.{Port}
use Rattle.bc_history.specs.declared.place.PortPlace.{PortPlace}
use Rattle.bc_history.specs.declared.place.PortPlace.TheVariants.{Waits, Exchanges, Reports}
use Rattle.bc_history.specs.declared.scenario.Happening.{Happening}
use Rattle.bc_history.specs.declared.scenario.Happening.TheVariants.{Frame as Frame_record, Down as Down_record, Up as Up_record}
use Rattle.bc_history.specs.declared.scenario.Record.{Record}
use Rattle.bc_history.specs.declared.scenario.Options.{Options}
use Rattle.bc_history.specs.declared.scenario.Scenario.{Scenario}
use Rattle.bc_history.specs.Phases.HubPort.{HubPort, TickMeasure}
use Rattle.bc_history.specs.Phases.Inputs.{port_at, tick_of}
use Rattle.bc_history.specs.Phases.OpeningState.{servo_of}
use Rattle.bc_history.specs.Phases.State.{State}
use Rattle.bc_history.specs.Phases.Step.{state_of}
use Rattle.bc_history.specs.Run.Actors.{actor_of, is_same_actor}
use Rattle.bc_history.specs.Run.History.{Continues}
use Rattle.bc_history.specs.Run.NextInputs.{input_of, next_input, record_or_timer, IsNext, IsNextOf, IsReportOf}
use Rattle.bc_history.specs.Run.PortEntries.{measured_by}
use Rattle.bc_history.specs.Run.PortPlace.{after_port_exchange, place_by_entries, port_job, port_place}
use Rattle.bc_history.specs.Run.Samples.{port_samples}
use Rattle.bc_history.specs.Run.World.{Of_port, is_inside}
use Rattle.bc_history.proofs.lemmas.MeasureLemmas.{measured-state_of, place-by_measure, place-unmeasured}
use Rattle.bc_history.proofs.lemmas.PortEntriesLemmas.{measured_by-own}
use Rattle.bc_steps.specs.PortActors.{IsPortActor, history_of}
use Rattle.bc_steps.specs.RecordQueue.{input_at, last_of, tick_at}
use Rattle.bc_steps.specs.declared.port.actor.PortActor.TheInside.{Inside}
use Rattle.bc_steps.proofs.lemmas.OwnPortLemmas.{AreSameOwn, OwnPort, next-own}

-- ---- what a port takes next

-- an input is one of port p that a record or a timer brings
pub record IsTaken (p : ℕ) (input : Input) : Type 0 where
  pub next : (s : Scenario) (h : State) → IsNextOf s (port_at h.core.ports p) input → IsNext s h input
  pub own : is_same_actor (Port p) (actor_of input) ≡ true

-- that of a record
taken-record : (p tick : ℕ) (what : Happening) → IsTaken p (input_of p tick what)
taken-record p tick (Frame_record octets) = record { next = λ s h is. is; own = eq-eqb p p refl }
taken-record p tick Down_record = record { next = λ s h is. is; own = eq-eqb p p refl }
taken-record p tick Up_record = record { next = λ s h is. is; own = eq-eqb p p refl }

-- that of a timer
taken-timer : (p tick : ℕ) (timer : Timer) → IsTaken p (Timed p tick timer)
taken-timer p tick timer = record { next = λ s h is. is; own = eq-eqb p p refl }

-- the one or the other
taken-if : (b : Bool) (p : ℕ) (x y input : Input) → IsTaken p x → IsTaken p y → cond b (Some x) (Some y) ≡ Some input → IsTaken p input
taken-if true p x y input one other is = subst (IsTaken p) (same_Some x input is) one
taken-if false p x y input one other is = subst (IsTaken p) (same_Some y input is) other

-- what is taken next
taken-next : (p : ℕ) (next : Option Record) (timer : Option (ℕ × Timer)) (input : Input) → record_or_timer p next timer ≡ Some input
    → IsTaken p input
taken-next p None None input is = cc
taken-next p (Some r) None input is = subst (IsTaken p) (same_Some (input_of p r.tick r.what) input is) (taken-record p r.tick r.what)
taken-next p None (Some t) input is = subst (IsTaken p) (same_Some (Timed p t.0 t.1) input is) (taken-timer p t.0 t.1)
taken-next p (Some r) (Some t) input is =
    taken-if (ltb t.0 r.tick) p (Timed p t.0 t.1) (input_of p r.tick r.what) input (taken-timer p t.0 t.1) (taken-record p r.tick r.what) is

-- ---- where a port is in its job

-- what a place says of the measure whose job it is in
abbrev pub IsAtJob : Option TickMeasure → PortPlace → Type 0
IsAtJob m Waits = m ≡ None
IsAtJob m (Exchanges tick held action) =
    (x : TickMeasure) × (m ≡ Some x) × (tick ≡ x.tick) × (held ≡ x.held) × (action ≢ Unlocked)
IsAtJob m (Reports tick gener action outcome) =
    (x : TickMeasure) × (m ≡ Some x) × (tick ≡ x.tick) × (gener ≡ x.held.gener)

-- the job that its servo's action leads to
job-by : (x : TickMeasure) (action : Action) → IsAtJob (Some x) (port_job x.tick x.held action)
job-by x Unlocked = (x, refl, refl, refl)
job-by x (Jump step freq) = (x, refl, refl, refl, λ e. cc)
job-by x (Locked freq) = (x, refl, refl, refl, λ e. cc)

-- by the port's own entries
job-entries : (o : Options) (p : ℕ) (entries : List Entry) → IsAtJob (measured_by p entries) (place_by_entries o p entries)
job-entries o p entries = by (measured_by p entries) refl
  where
    by : (m : Option TickMeasure) → measured_by p entries ≡ m → IsAtJob m (place_by_entries o p entries)
    by None is = subst (IsAtJob None) (sym (place-unmeasured o p entries is)) refl
    by (Some x) is =
        subst (IsAtJob (Some x)) (sym (place-by_measure o p entries x is)) (job-by x (newest_action (servo_of o) (port_samples p entries)))

-- an exchange stays in the job
job-exchanged : (m : Option TickMeasure) (place : PortPlace) (outcome : Outcome) → IsAtJob m place
    → IsAtJob m (after_port_exchange outcome place)
job-exchanged m Waits outcome job = job
job-exchanged m (Exchanges tick held action) outcome job = (job.0, job.1, job.2, ap (λ (h : Held). h.gener) job.3)
job-exchanged m (Reports tick gener action former) outcome job = job

-- and by its own exchanges since
job-place : (o : Options) (p : ℕ) (entries : List Entry) (exchanges : List Outcome)
    → IsAtJob (measured_by p entries) (port_place o p entries exchanges)
job-place o p entries [] = job-entries o p entries
job-place o p entries (outcome ∷ exchanges) =
    job-exchanged (measured_by p entries) (port_place o p entries exchanges) outcome (job-place o p entries exchanges)

-- an actor is in the job of what its port measured last
pub job-own : (i : Inside) (entries : List Entry) → IsPortActor i → AreSameOwn i entries → IsAtJob (measured_by i.number entries) i.place
job-own i entries is same =
    let measured : measured_by i.number (history_of i) ≡ measured_by i.number entries =
    measured_by-own i.number (history_of i) ∙ ap (λ (es : List Entry). measured_by i.number es) (sym same)
    ∙ sym (measured_by-own i.number entries) in
    subst (IsAtJob (measured_by i.number entries)) (sym is.place_is)
    (subst (λ (m : Option TickMeasure). IsAtJob m (port_place i.scenario.value.options i.number (history_of i) is.exchanges)) measured
    (job-place i.scenario.value.options i.number (history_of i) is.exchanges))

-- ---- the next event

-- the input of the next event: it is next, of port p, and comes at the tick
pub record IsNextEvent (s : Scenario) (h : State) (p tick : ℕ) (input : Input) : Type 0 where
  pub next : IsNext s h input
  pub own : is_same_actor (Port p) (actor_of input) ≡ true
  pub tick_is : tick_of input ≡ tick

-- by the place
event-at : (s : Scenario) (h : State) (p : ℕ) (port : HubPort) (place : PortPlace) (next : Option Record) (timer : Option (ℕ × Timer))
    (input : Input) (tick : ℕ) → port_at h.core.ports p ≡ Some port → IsAtJob port.measured place
    → next_input s port ≡ record_or_timer p next timer → input_at p place next timer ≡ Some input → tick_at p place next timer ≡ Some tick
    → IsNextEvent s h p tick input
event-at s h p port Waits next timer input tick there job takes is at =
    let taken = taken-next p next timer input is in
    record {
      next = taken.next s h (subst (λ (o : Option HubPort). IsNextOf s o input) (sym there) (job, takes ∙ is));
      own = taken.own;
      tick_is = same_Some (tick_of input) tick (sym (ap (option_map tick_of) is) ∙ at);
    }
event-at s h p port (Exchanges t held action) next timer input tick there job takes is at = absurd (cc)
event-at s h p port (Reports t gener action outcome) next timer input tick there job takes is at =
    let x = job.0 in
    let reported : IsReportOf (Some port) t gener =
    subst (λ (m : Option TickMeasure). IsSomeAnd m (λ (y : TickMeasure). (y.tick ≡ t) × (y.held.gener ≡ gener))) (sym job.1)
    (sym job.2, sym job.3) in
    subst (IsNextEvent s h p tick) (same_Some (Report p t gener action outcome) input is) (record {
      next = subst (λ (o : Option HubPort). IsReportOf o t gener) (sym there) reported;
      own = eq-eqb p p refl;
      tick_is = same_Some t tick at;
    })

-- of an actor
pub next-event : (i : Inside) (entries : List Entry) → IsPortActor i → AreSameOwn i entries → Continues i.scenario.value entries
    → (own : OwnPort i.scenario.value i.number entries) → (input : Input) (tick : ℕ)
    → input_at i.number i.place (last_of i.records) (due_of own.port.port.timers) ≡ Some input
    → tick_at i.number i.place (last_of i.records) (due_of own.port.port.timers) ≡ Some tick
    → IsNextEvent i.scenario.value (state_of i.scenario.value entries) i.number tick input
next-event i entries is same continues own input tick takes at =
    let s = i.scenario.value in
    let measured = measured-state_of s entries continues i.number own.port own.there in
    event-at s (state_of s entries) i.number own.port i.place (last_of i.records) (due_of own.port.port.timers) input tick own.there
    (subst (λ (m : Option TickMeasure). IsAtJob m i.place) (sym measured) (job-own i entries is same))
    (next-own i entries is same own) takes at

-- an actor inside with a tick has an input
pub has-input : (p : ℕ) (place : PortPlace) (next : Option Record) (timer : Option (ℕ × Timer)) (tick : ℕ)
    → is_inside (Of_port place) ≡ true → tick_at p place next timer ≡ Some tick → input_at p place next timer ≢ None
has-input p Waits next timer tick inside at none = let no = sym (ap (option_map tick_of) none) ∙ at in cc
has-input p (Exchanges t held action) next timer tick inside at none = cc
has-input p (Reports t gener action outcome) next timer tick inside at none = cc
