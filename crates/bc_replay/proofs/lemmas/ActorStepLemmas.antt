-- The steps of an actor, and what it means that the hub took none.
use Rattle.std.proofs.Common.{◌≡◌, ℕ, suc, ◌<◌, ◌≤◌, Bool, true, false, cond, leb, refl, sym, ap, ◌∙◌, subst, arith, inl, inr, length, [], Option, Some, None, option_and_then, le-leb}
use Rattle.std.proofs.lemmas.Bool.{cases_lt, lt-leb}
use Rattle.std.specs.Prelude.{option_map, slice_get, IfErr, IsErrAnd, Result, Ok, Err}
use Rattle.ptp_base.specs.declared.limits.TheConstants.{ENTRIES_MAX}
use Rattle.bc_history.specs.declared.entry.Input.{Input}
use Rattle.bc_history.specs.declared.entry.Input.TheVariants.{Turn, Query}
use Rattle.bc_history.specs.Phases.EntryEffects.{entry_after}
use Rattle.bc_history.specs.declared.entry.Who.{Who}
use Rattle.bc_history.specs.declared.entry.Who.TheVariants.{Port, Follower, Queries}
use Rattle.bc_history.specs.declared.scenario.Scenario.{Scenario}
use Rattle.bc_history.specs.declared.scenario.Asked.{Asked}
use Rattle.bc_history.specs.Phases.HubPort.{HubPort}
use Rattle.bc_history.specs.Phases.Inputs.{holds, port_at, tick_of}
use Rattle.bc_history.specs.Phases.State.{State}
use Rattle.bc_history.specs.Phases.State.{Follower as Following}
use Rattle.bc_history.specs.Phases.Step.{state_of}
use Rattle.bc_history.specs.Run.NextInputs.{next_input, query_input, turn_tick}
use Rattle.bc_history.specs.declared.place.FollowerPlace.{FollowerPlace}
use Rattle.bc_history.specs.declared.place.FollowerPlace.TheVariants.{Turns as Turns_next, ReadsTheirs as Reads_theirs, ReadsOwn as Reads_own, Exchanges as Exchanges_own, Samples}
use Rattle.bc_history.specs.declared.place.PortPlace.{PortPlace}
use Rattle.bc_history.specs.declared.place.PortPlace.TheVariants.{Waits, Exchanges, Reports}
use Rattle.bc_history.specs.Run.World.{End, Ended, Event, Events, Going, Of_follower, Of_port, Of_queries, Place, Step, World, due_by_end, follower_due, follower_event, follower_step, free_steps, is_due, is_inside, place_due, place_of, port_due, port_event, port_reading, port_step, query_step, step_from, step_of, take_step, with_entry}
use Rattle.hub_core.specs.HubView.{HubState}
use Rattle.hub_core.specs.declared.hub.HubError.{HubError}
use Rattle.hub_core.specs.declared.hub.HubError.TheVariants.{NoMemory as Hub_no_memory, Events as Hub_events}
use Rattle.bc_steps.specs.ActorView.{ActorState, AddsOwn, IsIn, IsJobDue, IsLevel, IsPlaceOf, IsSameActor, due_tick, is_ready, last_tick, world_with}
use Rattle.bc_replay.specs.ActorSteps.{IsStepError, StepLeadsTo, StepYields}

-- a step that is an event of the hub
abbrev IsEvent : Option Step → Type 0
IsEvent step = (next : World) × (step ≡ Some (Event next))

event-of : (next : World) → IsEvent (Some (Event next))
event-of next = (next, refl)

-- an event where a test passes
event-if : (b : Bool) (next : World) → b ≡ true → IsEvent (cond b (Some (Event next)) None)
event-if true next is = event-of next
event-if false next is = cc

-- ---- a place from which a step is due

-- a tick that is due before the run ends is the one of the place
due-place : (s : Scenario) (h : State) (who : Who) (place : Place) (due : Option ℕ) (tick : ℕ) → place_due s h who place ≡ due
    → option_and_then (λ (t : ℕ). cond (is_due s t) (Some t) None) due ≡ Some tick
    → (place_due s h who place ≡ Some tick) × (is_due s tick ≡ true)
due-place s h who place None tick is at = cc
due-place s h who place (Some t) tick is at = by_test (is_due s t) refl at
  where
    by_test : (b : Bool) → is_due s t ≡ b → cond b (Some t) None ≡ Some tick → (place_due s h who place ≡ Some tick) × (is_due s tick ≡ true)
    by_test true due same = let tick_is : t ≡ tick = cc in (is ∙ ap Some tick_is, subst (λ (u : ℕ). is_due s u ≡ true) tick_is due)
    by_test false due same = cc

pub due_by_end-is : (s : Scenario) (h : State) (who : Who) (place : Place) (tick : ℕ) → due_by_end s h who place ≡ Some tick → (place_due s h who place ≡ Some tick) × (is_due s tick ≡ true)
due_by_end-is s h who place tick at = due-place s h who place (place_due s h who place) tick refl at

-- what is due before the run ends is ready by its end
pub due-ready : (hub : HubState) (a : ActorState) (tick until : ℕ) → due_tick hub a ≡ Some tick → until ≡ hub.scenario.options.duration → hub.windows ≡ [] → is_ready until hub a ≡ true
due-ready hub a tick until due until_is unbounded =
    let in_time = (due_by_end-is hub.scenario (state_of hub.scenario hub.entries) a.who a.place tick due).1 in
    rw (due, until_is, unbounded) in_time

ready-by : (until : ℕ) (due : Option ℕ) → holds (λ (t : ℕ). leb t until) due ≡ true → (tick : ℕ) × (due ≡ Some tick)
ready-by until None ready = cc
ready-by until (Some tick) ready = (tick, refl)

-- what is ready is due
pub ready-due : (until : ℕ) (hub : HubState) (a : ActorState) → is_ready until hub a ≡ true → (tick : ℕ) × (due_tick hub a ≡ Some tick)
ready-due until hub a ready = ready-by (last_tick hub until) (due_tick hub a) ready

-- ---- from a place that is inside the step is an event

port-event : (s : Scenario) (w : World) (p tick : ℕ) (h : HubPort) (place : PortPlace) → port_due s h place ≡ Some tick → is_due s tick ≡ true → is_inside (Of_port place) ≡ true → IsEvent (port_step s w p h place)
port-event s w p tick h Waits due in_time inside = by_input (next_input s h) due
  where
    by_input : (input : Option Input) → option_map tick_of input ≡ Some tick
        → IsEvent (option_and_then (λ (i : Input). cond (is_due s (tick_of i)) (Some (Event (port_event s w p i (port_reading s w h i)))) None) input)
    by_input None none = cc
    by_input (Some i) is =
        let same : tick_of i ≡ tick = cc in
        let now : is_due s (tick_of i) ≡ true = subst (λ (t : ℕ). is_due s t ≡ true) (sym same) in_time in
        event-if (is_due s (tick_of i)) _ now
port-event s w p tick h (Exchanges at held action) due in_time inside = cc
port-event s w p tick h (Reports at gener action outcome) due in_time inside = event-of _

follower-event : (s : Scenario) (w : World) (c tick : ℕ) (f : Following) (place : FollowerPlace) → follower_due s f place ≡ tick → is_due s tick ≡ true → is_inside (Of_follower place) ≡ true → IsEvent (follower_step s w c f place)
follower-event s w c tick f Turns_next due in_time inside =
    let now : is_due s (turn_tick s f) ≡ true = subst (λ (t : ℕ). is_due s t ≡ true) (sym due) in_time in
    event-if (is_due s (turn_tick s f)) _ now
follower-event s w c tick f (Reads_theirs at lead) due in_time inside = cc
follower-event s w c tick f (Reads_own at lead theirs) due in_time inside = cc
follower-event s w c tick f (Exchanges_own at lead theirs own action) due in_time inside = cc
follower-event s w c tick f (Samples at lead theirs own action outcome) due in_time inside = event-of _

query-event : (s : Scenario) (w : World) (tick : ℕ) (asked : Option Asked) → option_map (λ (q : Asked). q.tick) asked ≡ Some tick → is_due s tick ≡ true → IsEvent (query_step s w asked)
query-event s w tick None due in_time = cc
query-event s w tick (Some q) due in_time =
    let same : q.tick ≡ tick = cc in
    let now : is_due s q.tick ≡ true = subst (λ (t : ℕ). is_due s t ≡ true) (sym same) in_time in
    event-if (is_due s q.tick) _ now

port-there : (s : Scenario) (w : World) (p tick : ℕ) (place : PortPlace) (port : Option HubPort) → option_and_then (λ (h : HubPort). port_due s h place) port ≡ Some tick → is_due s tick ≡ true
    → is_inside (Of_port place) ≡ true → IsEvent (option_and_then (λ (h : HubPort). port_step s w p h place) port)
port-there s w p tick place None due in_time inside = cc
port-there s w p tick place (Some h) due in_time inside = port-event s w p tick h place due in_time inside

follower-there : (s : Scenario) (w : World) (c tick : ℕ) (place : FollowerPlace) (follower : Option Following) → option_map (λ (f : Following). follower_due s f place) follower ≡ Some tick → is_due s tick ≡ true
    → is_inside (Of_follower place) ≡ true → IsEvent (option_and_then (λ (f : Following). follower_step s w c f place) follower)
follower-there s w c tick place None due in_time inside = cc
follower-there s w c tick place (Some f) due in_time inside =
    let same : follower_due s f place ≡ tick = cc in follower-event s w c tick f place same in_time inside

-- whoever it is
pub due-event : (s : Scenario) (w : World) (who : Who) (place : Place) (tick : ℕ) → place_due s (state_of s w.entries) who place ≡ Some tick → is_due s tick ≡ true → is_inside place ≡ true
    → IsEvent (step_from s w who place)
due-event s w (Port p) (Of_port place) tick due in_time inside = port-there s w p tick place (port_at (state_of s w.entries).core.ports p) due in_time inside
due-event s w (Port p) (Of_follower place) tick due in_time inside = cc
due-event s w (Port p) Of_queries tick due in_time inside = cc
due-event s w (Follower c) (Of_port place) tick due in_time inside = cc
due-event s w (Follower c) (Of_follower place) tick due in_time inside = follower-there s w c tick place (slice_get (state_of s w.entries).followers c) due in_time inside
due-event s w (Follower c) Of_queries tick due in_time inside = cc
due-event s w Queries (Of_port place) tick due in_time inside = cc
due-event s w Queries (Of_follower place) tick due in_time inside = cc
due-event s w Queries Of_queries tick due in_time inside = query-event s w tick (query_input s (state_of s w.entries)) due in_time

-- ---- where a step leads

-- an event where there is room
event-goes : (w next : World) (end : End) (step : Option Step) → step ≡ Some (Event next) → length w.entries < ENTRIES_MAX → take_step w end step ≡ Going next
event-goes w next end step is room = let not_full : leb ENTRIES_MAX (length w.entries) ≡ false = lt-leb ENTRIES_MAX (length w.entries) room in rw (is, not_full) refl

-- ---- one event too many

-- an event where ENTRIES_MAX entries are held
full-event : (w : World) (end : End) (step : Option Step) → IsEvent step → ENTRIES_MAX ≤ length w.entries → take_step w end step ≡ Ended Events
full-event w end step (next, is) many = let full : leb ENTRIES_MAX (length w.entries) ≡ true = le-leb ENTRIES_MAX (length w.entries) many in rw (is, full) refl

-- the step of an actor at a place
step-at : (s : Scenario) (w : World) (who : Who) (place : Place) → place_of w who ≡ Some place → step_of s w who ≡ step_from s w who place
step-at s w who place there = ap (λ (at : Option Place). option_and_then (λ (x : Place). step_from s w who x) at) there

pub full-leads : (until : ℕ) (hub : HubState) (a : ActorState) → is_ready until hub a ≡ true → is_inside a.place ≡ true → length hub.entries ≡ ENTRIES_MAX → StepLeadsTo hub a (λ w. Ended Events)
full-leads until hub a ready inside full = λ w end stands.
    let (tick, due) = ready-due until hub a ready in
    let s = hub.scenario in
    let at = due_by_end-is s (state_of s hub.entries) a.who a.place tick due in
    let here : place_due s (state_of s w.entries) a.who a.place ≡ Some tick = ap (λ es. place_due s (state_of s es) a.who a.place) stands.entries ∙ at.0 in
    let event = due-event s w a.who a.place tick here at.1 inside in
    let many : length w.entries ≡ ENTRIES_MAX = ap length stands.entries ∙ full in
    ap (take_step w end) (step-at s w a.who a.place stands.place) ∙ full-event w end (step_from s w a.who a.place) event (omega (arith, many))

-- what it means that the hub took no event
pub refused-step : (until : ℕ) (hub : HubState) (a : ActorState) (error : HubError) → is_inside a.place ≡ true
    → (error ≡ Hub_events → (is_ready until hub a ≡ true) × (length hub.entries ≡ ENTRIES_MAX)) → IsStepError hub a error
refused-step until hub a Hub_no_memory inside full = tt
refused-step until hub a Hub_events inside full = full-leads until hub a (full refl).0 inside (full refl).1

pub refused-result : {T : Type 0} (until : ℕ) (hub : HubState) (a : ActorState) (error : HubError) (result : Result T HubError) → is_inside a.place ≡ true
    → (error ≡ Hub_events → (is_ready until hub a ≡ true) × (length hub.entries ≡ ENTRIES_MAX)) → IsErrAnd result (λ e. e ≡ error) → IfErr result (IsStepError hub a)
refused-result until hub a error (Ok x) inside full is = tt
refused-result until hub a error (Err e) inside full is = rw is (refused-step until hub a error inside full)

-- ---- what a step makes

-- behind an event there are at most three readings and exchanges
few-free : (place : Place) → free_steps place ≤ 3
few-free (Of_port Waits) = omega arith
few-free (Of_port (Exchanges tick held action)) = omega arith
few-free (Of_port (Reports tick gener action outcome)) = omega arith
few-free (Of_follower Turns_next) = omega arith
few-free (Of_follower (Reads_theirs tick lead)) = omega arith
few-free (Of_follower (Reads_own tick lead theirs)) = omega arith
few-free (Of_follower (Exchanges_own tick lead theirs own action)) = omega arith
few-free (Of_follower (Samples tick lead theirs own action outcome)) = omega arith
few-free Of_queries = omega arith

-- what an actor tells of its event
pub record IsEventOf (until : ℕ) (hub : HubState) (a : ActorState) (new : HubState) (b : ActorState) (result : Result Bool HubError) : Type 0 where
  pub few : length hub.entries ≤ ENTRIES_MAX
  pub step : (w : World) → result ≡ Ok true → IsIn w hub a → step_of hub.scenario w a.who ≡ Some (Event (world_with w new b))
  pub waits : is_ready until hub a ≡ false → result ≡ Ok false
  pub events : is_ready until hub a ≡ true → length hub.entries ≡ ENTRIES_MAX → result ≡ Err Hub_events
  pub entry : result ≡ Ok true → AddsOwn a.who hub new
  pub level : IsLevel new b
  pub actor : IsSameActor a b
  pub kind : IsPlaceOf b.who b.place
  pub job : IsJobDue b.scenario b.place

-- who took a step was ready
taken-ready : (ready : Bool) (result : Result Bool HubError) → (ready ≡ false → result ≡ Ok false) → result ≡ Ok true → ready ≡ true
taken-ready true result waits is = refl
taken-ready false result waits is = let both : Ok true ≡ Ok false = sym is ∙ waits refl in cc

pub event-made : (until : ℕ) (hub new : HubState) (a b : ActorState) (result : Result Bool HubError) → IsEventOf until hub a new b result → result ≡ Ok true → StepYields hub a new b
event-made until hub new a b result made is =
    let adds = made.entry is in
    let not_full : ¬ (length hub.entries ≡ ENTRIES_MAX) = λ full.
    let both : Ok true ≡ Err Hub_events = sym is ∙ made.events (taken-ready (is_ready until hub a) result made.waits is) full in cc in
    let room : length hub.entries < ENTRIES_MAX = below (length hub.entries) made.few not_full in
    let more : length new.entries ≡ suc (length hub.entries) = ap length adds.more in
    let free = few-free b.place in
    record {
      going = λ w end stands. event-goes w (world_with w new b) end (step_of hub.scenario w a.who) (made.step w is stands) (subst (λ es. length es < ENTRIES_MAX) (sym stands.entries) room);
      history = inl adds;
      few = omega (arith, more, room);
      level = made.level;
      actor = made.actor;
      kind = made.kind;
      job = made.job;
      fewer = omega (arith, more, room, free);
    }
  where
    below : (n : ℕ) → n ≤ ENTRIES_MAX → ¬ (n ≡ ENTRIES_MAX) → n < ENTRIES_MAX
    below n few not = elim (cases_lt n ENTRIES_MAX) [
      | inl lt ↦ lt
      | inr full ↦ absurd (not (omega (arith, few, full)))
    ]

-- a step that was taken where one was ready
pub ready-taken : (ready taken : Bool) (P : Type 0) → ready ≡ true → (taken ≡ false → ready ≡ false) → (taken ≡ true → P) → P
ready-taken ready true P is waits then = then refl
ready-taken ready false P is waits then = let both : true ≡ false = sym is ∙ waits refl in absurd (cc)

-- ---- where nothing is due there is no step

-- nothing is due of a tick that is past the end
past : (s : Scenario) (tick : ℕ) (step : Option Step) → cond (is_due s tick) (Some tick) None ≡ None → cond (is_due s tick) step None ≡ None
past s tick step = by_test (is_due s tick)
  where
    by_test : (b : Bool) → cond b (Some tick) None ≡ None → cond b step None ≡ None
    by_test true none = cc
    by_test false none = refl

-- a tick in the middle of a job is due
never-past : (s : Scenario) (tick : ℕ) → is_due s tick ≡ true → cond (is_due s tick) (Some tick) None ≡ None → ⊥
never-past s tick due none = let some : cond (is_due s tick) (Some tick) None ≡ Some tick = rw due refl in let both : Some tick ≡ None = sym some ∙ none in cc

abbrev due_or_none : Scenario → Option ℕ → Option ℕ
due_or_none s tick = option_and_then (λ (t : ℕ). cond (is_due s t) (Some t) None) tick

port-none : (s : Scenario) (w : World) (p : ℕ) (h : HubPort) (place : PortPlace) → IsJobDue s (Of_port place) → due_or_none s (port_due s h place) ≡ None → port_step s w p h place ≡ None
port-none s w p h Waits job none = by_input (next_input s h) none
  where
    by_input : (input : Option Input) → due_or_none s (option_map tick_of input) ≡ None
        → option_and_then (λ (i : Input). cond (is_due s (tick_of i)) (Some (Event (port_event s w p i (port_reading s w h i)))) None) input ≡ None
    by_input None none = refl
    by_input (Some i) none = past s (tick_of i) (Some (Event (port_event s w p i (port_reading s w h i)))) none
port-none s w p h (Exchanges at held action) job none = absurd (never-past s at job none)
port-none s w p h (Reports at gener action outcome) job none = absurd (never-past s at job none)

follower-none : (s : Scenario) (w : World) (c : ℕ) (f : Following) (place : FollowerPlace) → IsJobDue s (Of_follower place) → due_or_none s (Some (follower_due s f place)) ≡ None → follower_step s w c f place ≡ None
follower-none s w c f Turns_next job none = past s (turn_tick s f) (Some (Event (follower_event s w c (Turn c (turn_tick s f))))) none
follower-none s w c f (Reads_theirs at lead) job none = absurd (never-past s at job none)
follower-none s w c f (Reads_own at lead theirs) job none = absurd (never-past s at job none)
follower-none s w c f (Exchanges_own at lead theirs own action) job none = absurd (never-past s at job none)
follower-none s w c f (Samples at lead theirs own action outcome) job none = absurd (never-past s at job none)

port-gone : (s : Scenario) (w : World) (p : ℕ) (place : PortPlace) (port : Option HubPort) → IsJobDue s (Of_port place)
    → due_or_none s (option_and_then (λ (h : HubPort). port_due s h place) port) ≡ None → option_and_then (λ (h : HubPort). port_step s w p h place) port ≡ None
port-gone s w p place None job none = refl
port-gone s w p place (Some h) job none = port-none s w p h place job none

follower-gone : (s : Scenario) (w : World) (c : ℕ) (place : FollowerPlace) (follower : Option Following) → IsJobDue s (Of_follower place)
    → due_or_none s (option_map (λ (f : Following). follower_due s f place) follower) ≡ None → option_and_then (λ (f : Following). follower_step s w c f place) follower ≡ None
follower-gone s w c place None job none = refl
follower-gone s w c place (Some f) job none = follower-none s w c f place job none

query-gone : (s : Scenario) (w : World) (asked : Option Asked) → due_or_none s (option_map (λ (q : Asked). q.tick) asked) ≡ None → query_step s w asked ≡ None
query-gone s w None none = refl
query-gone s w (Some q) none = past s q.tick (Some (Event (with_entry w (entry_after s w.entries (Query q.tick q.text) None)))) none

-- whoever it is
place-none : (s : Scenario) (w : World) (who : Who) (place : Place) → IsJobDue s place → due_by_end s (state_of s w.entries) who place ≡ None → step_from s w who place ≡ None
place-none s w (Port p) (Of_port place) job none = port-gone s w p place (port_at (state_of s w.entries).core.ports p) job none
place-none s w (Port p) (Of_follower place) job none = refl
place-none s w (Port p) Of_queries job none = refl
place-none s w (Follower c) (Of_port place) job none = refl
place-none s w (Follower c) (Of_follower place) job none = follower-gone s w c place (slice_get (state_of s w.entries).followers c) job none
place-none s w (Follower c) Of_queries job none = refl
place-none s w Queries (Of_port place) job none = refl
place-none s w Queries (Of_follower place) job none = refl
place-none s w Queries Of_queries job none = query-gone s w (query_input s (state_of s w.entries)) none

-- an actor of which nothing is due has no step in a World in which it stands
pub step-none : (hub : HubState) (w : World) (a : ActorState) → IsIn w hub a → IsJobDue hub.scenario a.place → due_tick hub a ≡ None → step_of hub.scenario w a.who ≡ None
step-none hub w a stands job none =
    step-at hub.scenario w a.who a.place stands.place
    ∙ place-none hub.scenario w a.who a.place job (ap (λ es. due_by_end hub.scenario (state_of hub.scenario es) a.who a.place) stands.entries ∙ none)
