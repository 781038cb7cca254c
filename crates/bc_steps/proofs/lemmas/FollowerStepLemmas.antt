-- A step of a follower that acts is its step of the World.
use Rattle.std.proofs.Common.{◌≡◌, ◌≢◌, ◌≤◌, ◌<◌, ℕ, ◌+◌, Bool, true, cond, refl, sym, ap, subst, ◌∙◌, arith, List, ◌∷◌, length, Option, Some, None, slice_get, option_map, option_and_then, leb, le-leb, eq-eqb}
use Rattle.std.specs.Prelude.{IsSomeAnd, pos, slice_set}
use Rattle.std.proofs.lemmas.Option.{same_Some}
use Rattle.model_clock.specs.Clock.{clock_at}
use Rattle.ptp_profile.specs.declared.roles.Lead.{Lead}
use Rattle.ptp_profile.specs.declared.seats.Held.{Held}
use Rattle.ptp_profile.specs.declared.seats.LogEntry.{LogEntry}
use Rattle.ptp_profile.specs.declared.seats.Reading.{Reading}
use Rattle.ptp_profile.specs.declared.timing.Action.{Action}
use Rattle.ptp_profile.specs.declared.timing.Action.TheVariants.{Unlocked, Jump, Locked}
use Rattle.ptp_profile.specs.declared.timing.ServoConf.{ServoConf}
use Rattle.ptp_profile.specs.Timing.Servo.{Sample, limit, newest_action}
use Rattle.ptp_base.specs.declared.time.TheConstants.{FREQ_MAX}
use Rattle.ptp_profile.specs.Roles.SeatLogs.{log_at, whole_reading, with_orders, AreLawful}
use Rattle.pi_servo.specs.SteererView.{SteererRepresents}
use Rattle.bc_history.specs.declared.entry.Entry.{Entry}
use Rattle.bc_history.specs.declared.entry.Input.{Input}
use Rattle.bc_history.specs.declared.entry.Input.TheVariants.{Frame, Timed, Down, Up, Report, Turn, Sampled, Query}
use Rattle.bc_history.specs.declared.entry.Outcome.{Outcome}
use Rattle.bc_history.specs.declared.entry.Seen.{Seen}
use Rattle.bc_history.specs.declared.entry.Who.{Who}
use Rattle.bc_history.specs.declared.entry.Who.TheVariants.{Follower as A_follower}
use Rattle.bc_history.specs.declared.place.FollowerPlace.{FollowerPlace}
use Rattle.bc_history.specs.declared.place.FollowerPlace.TheVariants.{Turns, ReadsTheirs, ReadsOwn, Exchanges, Samples}
use Rattle.bc_history.specs.declared.scenario.Options.{Options}
use Rattle.bc_history.specs.declared.scenario.Scenario.{Scenario}
use Rattle.bc_history.specs.Phases.EntryEffects.{entry_after}
use Rattle.bc_history.specs.Phases.Inputs.{changed_at, tick_of}
use Rattle.bc_history.specs.Phases.OpeningState.{follower_count, servo_of}
use Rattle.bc_history.specs.Phases.State.{Follower, State, TickLead}
use Rattle.bc_history.specs.Phases.Step.{state_of}
use Rattle.bc_history.specs.Run.Actors.{actor_of, is_same_actor}
use Rattle.bc_history.specs.Run.ExchangeOutcomes.{exchange_result}
use Rattle.bc_history.specs.Run.FollowerEntries.{leading_by}
use Rattle.bc_history.specs.Run.FollowerPlace.{after_follower_reading, follower_job, follower_place_by_entries}
use Rattle.bc_history.specs.Run.History.{Continues}
use Rattle.bc_history.specs.Run.NextInputs.{IsDue, IsNext, turn_tick}
use Rattle.bc_history.specs.Run.Samples.{follower_samples, sample_of}
use Rattle.bc_history.specs.Run.World.{Event, Free, Of_follower, Place, World, follower_event, follower_step, free_steps, held_by, is_inside, seen_at, step_from, step_of, with_place}
use Rattle.bc_history.proofs.lemmas.FollowerPhaseLemmas.{leading-state_of}
use Rattle.bc_history.proofs.lemmas.LeadLemmas.{leading-ordered}
use Rattle.bc_history.specs.Scenario.ScenarioRules.{IsScenario}
use Rattle.hub_core.specs.HubView.{HubState, clock_reading, entry_by, reading_at, with_entry}
use Rattle.phc_follow.specs.FollowerView.{IsWithinLimits}
use Rattle.bc_steps.specs.ActorView.{ActorState, IsIn, IsLevel, IsSameActor, due_tick, world_with}
use Rattle.bc_steps.specs.ExchangeBounds.{IsAskable, IsWithinClock, outcome_at, with_exchange}
use Rattle.bc_steps.specs.FollowerActors.{IsFollowerActor, follower_actor_view, follower_history}
use Rattle.bc_steps.specs.FollowerJob.{IsInputAt, IsJobAskable, IsKept, Shows, follower_input, follower_tick, samples_taken, turn_after}
use Rattle.bc_steps.specs.declared.follower.actor.FollowerActor.TheInside.{Inside}
use Rattle.bc_steps.proofs.lemmas.EventStepLemmas.{by_end-some}
use Rattle.bc_steps.proofs.lemmas.FreeStepLemmas.{HoldsClock, log-has_order}
use Rattle.bc_steps.proofs.lemmas.OwnFollowerLemmas.{AreSameEntries, CanRead, IsAtLead, OwnFollower, can-read-beside, due-beside, lead-history, lead-own, own-follower, samples-alike, turn-own}
use Rattle.bc_steps.proofs.lemmas.OwnPortLemmas.{by_end}
use Rattle.bc_steps.proofs.lemmas.ServoBoundLemmas.{within-more}

-- ---- the follower's step

-- the World with a history and logs, where the follower of clock c is at a place
abbrev pub with_job : World → ℕ → List Entry → List (List LogEntry) → FollowerPlace → World
with_job w c entries logs place = record {
  entries = entries;
  logs = logs;
  ports = w.ports;
  followers = changed_at (λ former. place) c w.followers;
}

-- the step of a follower of the history, from its place
own-step : (s : Scenario) (w : World) (c : ℕ) (entries : List Entry) (place : FollowerPlace) (f : Follower) → w.entries ≡ entries
    → option_map (λ (x : FollowerPlace). Of_follower x) (slice_get w.followers c) ≡ Some (Of_follower place)
    → slice_get (state_of s entries).followers c ≡ Some f → step_of s w (A_follower c) ≡ follower_step s w c f place
own-step s w c entries place f same at there =
    ap (λ (o : Option Place). option_and_then (λ x. step_from s w (A_follower c) x) o) at
    ∙ (ap (λ (es : List Entry). option_and_then (λ (g : Follower). follower_step s w c g place) (slice_get (state_of s es).followers c)) same
    ∙ ap (λ (o : Option Follower). option_and_then (λ (g : Follower). follower_step s w c g place) o) there)

-- ---- the event is due

-- the event of a follower that acts after these entries: it is its next, and comes before the run ends
pub record IsDueTurn (s : Scenario) (i : Inside) (entries : List Entry) (input : Input) : Type 0 where
  pub own : OwnFollower s i.clock entries
  pub takes : follower_input i.clock (turn_tick s own.follower) i.place ≡ Some input
  pub mine : is_same_actor (A_follower i.clock) (actor_of input) ≡ true
  pub at : IsInputAt (Of_follower i.place) input
  pub next : IsNext s (state_of s entries) input
  pub in_time : tick_of input ≤ s.options.duration

-- the input of a place: whose it is, where it stands, and when it comes
record IsInputOf (c turn : ℕ) (place : FollowerPlace) (input : Input) : Type 0 where
  mine : is_same_actor (A_follower c) (actor_of input) ≡ true
  at : IsInputAt (Of_follower place) input
  tick_is : tick_of input ≡ follower_tick turn place

input-of : (c turn : ℕ) (place : FollowerPlace) (input : Input) → follower_input c turn place ≡ Some input → IsInputOf c turn place input
input-of c turn Turns input is =
    subst (IsInputOf c turn Turns) (same_Some (Turn c turn) input is) (record { mine = eq-eqb c c refl; at = refl; tick_is = refl })
input-of c turn (ReadsTheirs tick lead) input is = absurd (cc)
input-of c turn (ReadsOwn tick lead theirs) input is = absurd (cc)
input-of c turn (Exchanges tick lead theirs own action) input is = absurd (cc)
input-of c turn (Samples tick lead theirs own action outcome) input is =
    subst (IsInputOf c turn (Samples tick lead theirs own action outcome)) (same_Some (Sampled c tick lead theirs own action outcome) input is)
    (record { mine = eq-eqb c c refl; at = refl; tick_is = refl })

-- a fact of the value of an option
and-some : {X : Type 0} (P : X → Type 0) (o : Option X) (x : X) → o ≡ Some x → P x → IsSomeAnd o P
and-some {X} P o x is holds = subst (λ (y : Option X). IsSomeAnd y P) (sym is) holds

-- it is next
input-next : (s : Scenario) (h : State) (c : ℕ) (f : Follower) (place : FollowerPlace) (input : Input) → slice_get h.followers c ≡ Some f
    → IsAtLead f.leading place → follower_input c (turn_tick s f) place ≡ Some input → IsNext s h input
input-next s h c f Turns input there led is =
    subst (IsNext s h) (same_Some (Turn c (turn_tick s f)) input is)
    (and-some (λ (g : Follower). (g.leading ≡ None) × (turn_tick s f ≡ turn_tick s g)) (slice_get h.followers c) f there (led, refl))
input-next s h c f (ReadsTheirs tick lead) input there led is = absurd (cc)
input-next s h c f (ReadsOwn tick lead theirs) input there led is = absurd (cc)
input-next s h c f (Exchanges tick lead theirs own action) input there led is = absurd (cc)
input-next s h c f (Samples tick lead theirs own action outcome) input there led is =
    subst (IsNext s h) (same_Some (Sampled c tick lead theirs own action outcome) input is)
    (and-some (λ (g : Follower). g.leading ≡ Some (record { tick = tick; lead = lead })) (slice_get h.followers c) f there led)

-- it comes at the tick that was found, in the follower's own scenario
turn-tick-own : (i : Inside) (input : Input) (tick : ℕ)
    → follower_input i.clock (turn_after i.turns i.interval) i.place ≡ Some input
    → by_end i.duration (Some (follower_tick (turn_after i.turns i.interval) i.place)) ≡ Some tick → tick_of input ≡ tick
turn-tick-own i input tick takes at =
    let of = input-of i.clock (turn_after i.turns i.interval) i.place input takes in
    let ends = by_end-some i.duration (Some (follower_tick (turn_after i.turns i.interval) i.place)) tick at in
    of.tick_is ∙ same_Some _ tick ends.0

-- in the follower's own scenario
turn-due-own : (i : Inside) (entries : List Entry) (input : Input) (tick : ℕ) → IsFollowerActor i → AreSameEntries i entries
    → Continues i.scenario.value entries → follower_input i.clock (turn_after i.turns i.interval) i.place ≡ Some input
    → by_end i.duration (Some (follower_tick (turn_after i.turns i.interval) i.place)) ≡ Some tick
    → IsDueTurn i.scenario.value i entries input
turn-due-own i entries input tick is same continues takes at =
    let s = i.scenario.value in
    let own = own-follower s i.clock entries is.there in
    let turn = turn-own i entries is same own in
    let taken : follower_input i.clock (turn_tick s own.follower) i.place ≡ Some input =
    ap (λ n. follower_input i.clock n i.place) turn ∙ takes in
    let of = input-of i.clock (turn_tick s own.follower) i.place input taken in
    let ends = by_end-some i.duration (Some (follower_tick (turn_after i.turns i.interval) i.place)) tick at in
    let led = leading-state_of s entries continues i.clock own.follower own.there in
    let due : tick_of input ≤ s.options.duration =
    subst (λ d. tick_of input ≤ d) is.duration_is
    (subst (λ t. t ≤ i.duration) (sym (turn-tick-own i input tick takes at)) ends.1) in
    record {
      own = own;
      takes = taken;
      mine = of.mine;
      at = of.at;
      next = input-next s (state_of s entries) i.clock own.follower i.place input own.there
          (subst (λ (l : Option TickLead). IsAtLead l i.place) (sym led) (lead-own i entries is same)) taken;
      in_time = due;
    }

-- what the code found, in the hub's scenario
pub turn-due : (i : Inside) (a : ActorState) (hub : HubState) (input : Input) (tick : ℕ) → IsFollowerActor i → follower_actor_view i ≡ a
    → IsLevel hub a → Continues hub.scenario hub.entries → follower_input i.clock (turn_after i.turns i.interval) i.place ≡ Some input
    → due_tick hub a ≡ Some tick → IsDueTurn hub.scenario i hub.entries input
turn-due i a hub input tick is view level continues takes at =
    let level_of : IsLevel hub (follower_actor_view i) = subst (IsLevel hub) (sym view) level in
    let ticks = due-beside i hub is level_of ∙ (ap (λ (x : ActorState). due_tick hub x) view ∙ at) in
    subst (λ (s : Scenario). IsDueTurn s i hub.entries input) level_of.scenario
    (turn-due-own i hub.entries input tick is level_of.entries
    (subst (λ (s : Scenario). Continues s hub.entries) (sym level_of.scenario) continues) takes ticks)

-- what was found comes at the tick that was found
pub turn-tick : (i : Inside) (a : ActorState) (hub : HubState) (input : Input) (tick : ℕ) → IsFollowerActor i → follower_actor_view i ≡ a
    → IsLevel hub a → follower_input i.clock (turn_after i.turns i.interval) i.place ≡ Some input → due_tick hub a ≡ Some tick
    → tick_of input ≡ tick
turn-tick i a hub input tick is view level takes at =
    let level_of : IsLevel hub (follower_actor_view i) = subst (IsLevel hub) (sym view) level in
    let ticks = due-beside i hub is level_of ∙ (ap (λ (x : ActorState). due_tick hub x) view ∙ at) in
    turn-tick-own i input tick takes ticks

-- as the hub wants it
pub turn-is_due : (s : Scenario) (i : Inside) (entries : List Entry) (input : Input) → IsDueTurn s i entries input
    → IsDue s (state_of s entries) input
turn-is_due s i entries input is = (is.next, is.in_time)

-- ---- the event is the step

-- by the place
event-at : (s : Scenario) (w : World) (c : ℕ) (f : Follower) (place : FollowerPlace) (input : Input)
    → follower_input c (turn_tick s f) place ≡ Some input → tick_of input ≤ s.options.duration
    → follower_step s w c f place ≡ Some (Event (follower_event s w c input))
event-at s w c f Turns input is in_time =
    let same = same_Some (Turn c (turn_tick s f)) input is in
    let due : leb (turn_tick s f) s.options.duration ≡ true =
    le-leb (turn_tick s f) s.options.duration (subst (λ (x : Input). tick_of x ≤ s.options.duration) (sym same) in_time) in
    ap (λ (b : Bool). cond b (Some (Event (follower_event s w c (Turn c (turn_tick s f))))) None) due
    ∙ ap (λ (x : Input). Some (Event (follower_event s w c x))) same
event-at s w c f (ReadsTheirs tick lead) input is in_time = absurd (cc)
event-at s w c f (ReadsOwn tick lead theirs) input is in_time = absurd (cc)
event-at s w c f (Exchanges tick lead theirs own action) input is in_time = absurd (cc)
event-at s w c f (Samples tick lead theirs own action outcome) input is in_time =
    ap (λ (x : Input). Some (Event (follower_event s w c x))) (same_Some (Sampled c tick lead theirs own action outcome) input is)

-- no reading comes with an input of a place
reading-none : (hub : HubState) (place : Place) (input : Input) → IsInputAt place input → reading_at hub input ≡ None
reading-none hub place (Turn clock tick) at = refl
reading-none hub place (Sampled clock tick lead theirs own action outcome) at = refl
reading-none hub place (Frame port tick octets) at = absurd at
reading-none hub place (Timed port tick timer) at = absurd at
reading-none hub place (Down port tick) at = absurd at
reading-none hub place (Up port tick) at = absurd at
reading-none hub place (Report port tick gener action outcome) at = absurd at
reading-none hub place (Query tick text) at = absurd at

-- an entry more in the World is one more in the hub
event-alike : (w : World) (hub new : HubState) (c : ℕ) (input : Input) → w.entries ≡ hub.entries → w.logs ≡ hub.logs
    → reading_at hub input ≡ None → new ≡ with_entry hub (entry_by hub input (reading_at hub input))
    → follower_event hub.scenario w c input ≡ with_job w c new.entries new.logs (follower_place_by_entries c new.entries)
event-alike w hub new c input entries logs none made =
    let s = hub.scenario in
    let e : List Entry → Entry = λ es. entry_after s es input None in
    let world : List Entry → List (List LogEntry) → World = λ es ls.
    with_job w c (e es ∷ es) (with_orders ls (e es).effects.orders) (follower_place_by_entries c (e es ∷ es)) in
    ap (λ (es : List Entry). world es w.logs) entries ∙ (ap (λ (ls : List (List LogEntry)). world hub.entries ls) logs
    ∙ ap (λ (h : HubState). with_job w c h.entries h.logs (follower_place_by_entries c h.entries))
    (sym (made ∙ ap (λ (x : Option Seen). with_entry hub (entry_by hub input x)) none)))

-- the event of the follower is its step
pub turn-step : (i : Inside) (w : World) (hub new : HubState) (input : Input) → IsDueTurn hub.scenario i hub.entries input
    → IsIn w hub (follower_actor_view i) → new ≡ with_entry hub (entry_by hub input (reading_at hub input))
    → step_of hub.scenario w (A_follower i.clock)
    ≡ Some (Event (with_job w i.clock new.entries new.logs (follower_place_by_entries i.clock new.entries)))
turn-step i w hub new input is in_world made =
    let s = hub.scenario in
    own-step s w i.clock hub.entries i.place is.own.follower in_world.entries in_world.place is.own.there
    ∙ (event-at s w i.clock is.own.follower i.place input is.takes is.in_time
    ∙ ap (λ (x : World). Some (Event x))
    (event-alike w hub new i.clock input in_world.entries in_world.logs (reading-none hub (Of_follower i.place) input is.at) made))

-- a follower that is inside has an input
pub has-turn : (c turn : ℕ) (place : FollowerPlace) → is_inside (Of_follower place) ≡ true → follower_input c turn place ≢ None
has-turn c turn Turns inside none = cc
has-turn c turn (ReadsTheirs tick lead) inside none = cc
has-turn c turn (ReadsOwn tick lead theirs) inside none = cc
has-turn c turn (Exchanges tick lead theirs own action) inside none = cc
has-turn c turn (Samples tick lead theirs own action outcome) inside none = cc

-- ---- a reading is the step

-- of the clock that is copied
pub theirs-step : (i : Inside) (w : World) (hub : HubState) (tick : ℕ) (lead : Lead) → IsFollowerActor i → IsLevel hub (follower_actor_view i)
    → i.place ≡ ReadsTheirs tick lead → IsIn w hub (follower_actor_view i)
    → step_of hub.scenario w (A_follower i.clock)
    ≡ Some (Free (with_job w i.clock hub.entries hub.logs (ReadsOwn tick lead (seen_at tick (clock_reading hub lead.source)))))
theirs-step i w hub tick lead is level place in_world =
    let s = hub.scenario in
    let own = own-follower s i.clock hub.entries (subst (λ (x : Scenario). i.clock < follower_count x) level.scenario is.there) in
    let at = in_world.place ∙ ap (λ (p : FollowerPlace). Some (Of_follower p)) place in
    let world : List Entry → List (List LogEntry) → World = λ es ls.
    with_job w i.clock es ls (ReadsOwn tick lead (seen_at tick (whole_reading (clock_at s.clocks lead.source) (log_at ls lead.source)))) in
    own-step s w i.clock hub.entries (ReadsTheirs tick lead) own.follower in_world.entries at own.there
    ∙ (ap (λ (es : List Entry). Some (Free (world es w.logs))) in_world.entries
    ∙ ap (λ (ls : List (List LogEntry)). Some (Free (world hub.entries ls))) in_world.logs)

-- of its own
pub own_clock-step : (i : Inside) (w : World) (hub : HubState) (tick : ℕ) (lead : Lead) (theirs : Seen) → IsFollowerActor i
    → IsLevel hub (follower_actor_view i) → i.place ≡ ReadsOwn tick lead theirs → IsIn w hub (follower_actor_view i)
    → step_of hub.scenario w (A_follower i.clock)
    ≡ Some (Free (with_job w i.clock hub.entries hub.logs (after_follower_reading hub.scenario.options (follower_samples i.clock hub.entries)
    (seen_at tick (clock_reading hub i.clock)) (ReadsOwn tick lead theirs))))
own_clock-step i w hub tick lead theirs is level place in_world =
    let s = hub.scenario in
    let own = own-follower s i.clock hub.entries (subst (λ (x : Scenario). i.clock < follower_count x) level.scenario is.there) in
    let at = in_world.place ∙ ap (λ (p : FollowerPlace). Some (Of_follower p)) place in
    let world : List Entry → List (List LogEntry) → World = λ es ls.
    with_job w i.clock es ls (after_follower_reading s.options (follower_samples i.clock es)
    (seen_at tick (whole_reading (clock_at s.clocks i.clock) (log_at ls i.clock))) (ReadsOwn tick lead theirs)) in
    own-step s w i.clock hub.entries (ReadsOwn tick lead theirs) own.follower in_world.entries at own.there
    ∙ (ap (λ (es : List Entry). Some (Free (world es w.logs))) in_world.entries
    ∙ ap (λ (ls : List (List LogEntry)). Some (Free (world hub.entries ls))) in_world.logs)

-- ---- its exchange is the step

pub swap-step : (i : Inside) (w : World) (hub : HubState) (tick : ℕ) (lead : Lead) (theirs own : Seen) (action : Action) → IsFollowerActor i
    → IsLevel hub (follower_actor_view i) → i.place ≡ Exchanges tick lead theirs own action → IsIn w hub (follower_actor_view i)
    → step_of hub.scenario w (A_follower i.clock)
    ≡ Some (Free (with_job w i.clock hub.entries (with_exchange hub (held_by i.clock lead) tick action).logs
    (Samples tick lead theirs own action (outcome_at hub (held_by i.clock lead) tick action))))
swap-step i w hub tick lead theirs own action is level place in_world =
    let s = hub.scenario in
    let f = own-follower s i.clock hub.entries (subst (λ (x : Scenario). i.clock < follower_count x) level.scenario is.there) in
    let at = in_world.place ∙ ap (λ (p : FollowerPlace). Some (Of_follower p)) place in
    let gives : List (List LogEntry) → Outcome × List LogEntry = λ ls.
    exchange_result s.options.seat_rows (held_by i.clock lead) tick action (log_at ls i.clock) in
    let world : List Entry → List (List LogEntry) → World = λ es ls.
    with_job w i.clock es (slice_set ls i.clock (gives ls).1) (Samples tick lead theirs own action (gives ls).0) in
    own-step s w i.clock hub.entries (Exchanges tick lead theirs own action) f.follower in_world.entries at f.there
    ∙ (ap (λ (es : List Entry). Some (Free (world es w.logs))) in_world.entries
    ∙ ap (λ (ls : List (List LogEntry)). Some (Free (world hub.entries ls))) in_world.logs)

-- ---- what its exchange asks

-- a follower at its exchange holds its clock
pub holds-follower : (i : Inside) (hub : HubState) (tick : ℕ) (lead : Lead) (theirs own : Seen) (action : Action) → IsFollowerActor i
    → IsLevel hub (follower_actor_view i) → IsScenario hub.scenario → Continues hub.scenario hub.entries
    → AreLawful (state_of hub.scenario hub.entries).roles.orders hub.logs → length hub.logs ≡ length hub.scenario.clocks
    → i.place ≡ Exchanges tick lead theirs own action → HoldsClock hub.scenario hub tick (held_by i.clock lead) action
holds-follower i hub tick lead theirs own action is level rules continues lawful long place =
    let s = hub.scenario in
    let led = subst (IsAtLead (leading_by i.clock hub.entries)) place (lead-own i hub.entries is level.entries) in
    let at = subst (IsAtLead (leading_by i.clock (follower_history i))) place (lead-history i is) in
    let can = can-read-beside i hub tick lead is level at.0 in
    let ordered = leading-ordered s rules hub.entries i.clock (record { tick = tick; lead = lead }) continues led.0 in
    record {
      asks = led.1;
      there = can.own;
      somebody = λ none. omega (arith, none);
      ordered =
          log-has_order i.clock lead.gener (128 + lead.source) (state_of s hub.entries).roles.orders hub.logs lawful
          (subst (λ n. i.clock < n) (sym long) can.own) ordered.ordered;
      tick_is = can.tick_is;
    }

-- ---- at each place

-- a place as contracts see it is the code's
place-inside : (i : Inside) (a : ActorState) (place : FollowerPlace) → follower_actor_view i ≡ a → a.place ≡ Of_follower place
    → i.place ≡ place
place-inside i a place view at =
    let same : Of_follower i.place ≡ Of_follower place = ap (λ (x : ActorState). x.place) view ∙ at in cc

-- a follower at the reading of the clock that it copies
pub record ReadsTheirClock (i : Inside) (hub : HubState) (tick : ℕ) (lead : Lead) : Type 0 where
  pub level : IsLevel hub (follower_actor_view i)
  pub place : i.place ≡ ReadsTheirs tick lead
  pub can : CanRead hub.scenario i.clock tick lead

pub reads-theirs : (i : Inside) (a : ActorState) (hub : HubState) (tick : ℕ) (lead : Lead) → IsFollowerActor i → follower_actor_view i ≡ a
    → IsLevel hub a → a.place ≡ Of_follower (ReadsTheirs tick lead) → ReadsTheirClock i hub tick lead
reads-theirs i a hub tick lead is view level at =
    let level_of : IsLevel hub (follower_actor_view i) = subst (IsLevel hub) (sym view) level in
    let place = place-inside i a (ReadsTheirs tick lead) view at in
    let told = subst (IsAtLead (leading_by i.clock (follower_history i))) place (lead-history i is) in
    record { level = level_of; place = place; can = can-read-beside i hub tick lead is level_of told }

-- a follower at the reading of its own
pub record ReadsOwnClock (i : Inside) (hub : HubState) (tick : ℕ) (lead : Lead) (theirs : Seen) : Type 0 where
  pub level : IsLevel hub (follower_actor_view i)
  pub place : i.place ≡ ReadsOwn tick lead theirs
  pub can : CanRead hub.scenario i.clock tick lead
  pub kept : IsSomeAnd i.theirs (Shows tick theirs)
  pub servo : SteererRepresents i.follower.steerer (servo_of i.scenario.value.options) (follower_samples i.clock (follower_history i))

pub reads-own : (i : Inside) (a : ActorState) (hub : HubState) (tick : ℕ) (lead : Lead) (theirs : Seen) → IsFollowerActor i
    → follower_actor_view i ≡ a → IsLevel hub a → a.place ≡ Of_follower (ReadsOwn tick lead theirs) → ReadsOwnClock i hub tick lead theirs
reads-own i a hub tick lead theirs is view level at =
    let level_of : IsLevel hub (follower_actor_view i) = subst (IsLevel hub) (sym view) level in
    let place = place-inside i a (ReadsOwn tick lead theirs) view at in
    let told = subst (IsAtLead (leading_by i.clock (follower_history i))) place (lead-history i is) in
    record {
      level = level_of;
      place = place;
      can = can-read-beside i hub tick lead is level_of told;
      kept = subst (λ (p : FollowerPlace). IsKept p i.theirs) place is.kept;
      servo =
          subst (λ (p : FollowerPlace). SteererRepresents i.follower.steerer (servo_of i.scenario.value.options)
          (samples_taken p (follower_samples i.clock (follower_history i)))) place is.servo;
    }

-- a follower at its exchange
pub record ExchangesOwn (i : Inside) (hub : HubState) (tick : ℕ) (lead : Lead) (theirs own : Seen) (action : Action) : Type 0 where
  pub level : IsLevel hub (follower_actor_view i)
  pub place : i.place ≡ Exchanges tick lead theirs own action
  pub can : CanRead hub.scenario i.clock tick lead
  pub askable : IsAskable action

pub exchanges-own : (i : Inside) (a : ActorState) (hub : HubState) (tick : ℕ) (lead : Lead) (theirs own : Seen) (action : Action)
    → IsFollowerActor i → follower_actor_view i ≡ a → IsLevel hub a → a.place ≡ Of_follower (Exchanges tick lead theirs own action)
    → ExchangesOwn i hub tick lead theirs own action
exchanges-own i a hub tick lead theirs own action is view level at =
    let level_of : IsLevel hub (follower_actor_view i) = subst (IsLevel hub) (sym view) level in
    let place = place-inside i a (Exchanges tick lead theirs own action) view at in
    let told = subst (IsAtLead (leading_by i.clock (follower_history i))) place (lead-history i is) in
    record {
      level = level_of;
      place = place;
      can = can-read-beside i hub tick lead is level_of told.0;
      askable = subst IsJobAskable place is.askable;
    }

-- the reading that is kept
pub kept-some : (i : Inside) (hub : HubState) (tick : ℕ) (lead : Lead) (theirs : Seen) (read : Reading) → ReadsOwnClock i hub tick lead theirs
    → i.theirs ≡ Some read → Shows tick theirs read
kept-some i hub tick lead theirs read reads some = subst (λ (o : Option Reading). IsSomeAnd o (Shows tick theirs)) some reads.kept

-- ---- as contracts see it

-- the World where the follower is at a place is that with the follower as it then is
pub world-same : (i : Inside) (a new : ActorState) (hub : HubState) (w : World) (place : FollowerPlace) → follower_actor_view i ≡ a
    → new ≡ record a { place = Of_follower place } → with_job w i.clock hub.entries hub.logs place ≡ world_with w hub new
world-same i a new hub w place view made =
    ap (λ (x : Who). with_place x (Of_follower place) (record w { entries = hub.entries; logs = hub.logs })) (ap (λ (x : ActorState). x.who) view)
    ∙ ap (λ (x : ActorState). world_with w hub x) (sym made)

-- another place leaves it level
pub level-placed : (a new : ActorState) (hub : HubState) (place : FollowerPlace) → IsLevel hub a → new ≡ record a { place = Of_follower place }
    → IsLevel hub new
level-placed a new hub place level made =
    subst (IsLevel hub) (sym made) (record { scenario = level.scenario; entries = level.entries })

-- and the same actor
pub same-placed : (a new : ActorState) (place : FollowerPlace) → new ≡ record a { place = Of_follower place } → IsSameActor a new
same-placed a new place made = subst (λ (x : ActorState). IsSameActor a x) (sym made) (record { scenario = refl; who = refl })

-- with its servo's action at most an exchange is left
job-steps : (tick : ℕ) (lead : Lead) (theirs own : Seen) (action : Action)
    → free_steps (Of_follower (follower_job tick lead theirs own action)) < 2
job-steps tick lead theirs own Unlocked = omega arith
job-steps tick lead theirs own (Jump step freq) = omega arith
job-steps tick lead theirs own (Locked freq) = omega arith

-- so fewer are left behind the reading of its own clock
pub fewer-own : (i : Inside) (a new : ActorState) (tick : ℕ) (lead : Lead) (theirs own : Seen) (o : Options) (samples : List Sample)
    → follower_actor_view i ≡ a → i.place ≡ ReadsOwn tick lead theirs
    → new ≡ record a { place = Of_follower (after_follower_reading o samples own (ReadsOwn tick lead theirs)) }
    → free_steps new.place < free_steps a.place
fewer-own i a new tick lead theirs own o samples view place made =
    let left = job-steps tick lead theirs own (newest_action (servo_of o) (sample_of lead theirs own ∷ samples)) in
    let old : Of_follower (ReadsOwn tick lead theirs) ≡ a.place =
    ap (λ (p : FollowerPlace). Of_follower p) (sym place) ∙ ap (λ (x : ActorState). x.place) view in
    subst (λ (p : Place). free_steps new.place < free_steps p) old
    (subst (λ (x : ActorState). free_steps x.place < 2) (sym made) left)

-- and behind its exchange
pub fewer-exchanged : (i : Inside) (a new : ActorState) (tick : ℕ) (lead : Lead) (theirs own : Seen) (action : Action) (outcome : Outcome)
    → follower_actor_view i ≡ a → i.place ≡ Exchanges tick lead theirs own action
    → new ≡ record a { place = Of_follower (Samples tick lead theirs own action outcome) } → free_steps new.place < free_steps a.place
fewer-exchanged i a new tick lead theirs own action outcome view place made =
    let left : free_steps (Of_follower (Samples tick lead theirs own action outcome)) < 1 = omega arith in
    let old : Of_follower (Exchanges tick lead theirs own action) ≡ a.place =
    ap (λ (p : FollowerPlace). Of_follower p) (sym place) ∙ ap (λ (x : ActorState). x.place) view in
    subst (λ (p : Place). free_steps new.place < free_steps p) old
    (subst (λ (x : ActorState). free_steps x.place < 1) (sym made) left)

-- the follower once it read its own clock
pub own-read-view : (i : Inside) (a : ActorState) (hub : HubState) (tick : ℕ) (lead : Lead) (theirs : Seen) (place : FollowerPlace) (c : ℕ)
    → follower_actor_view i ≡ a → IsLevel hub (follower_actor_view i) → a.who ≡ A_follower c
    → place ≡ after_follower_reading i.scenario.value.options (follower_samples i.clock (follower_history i)) (seen_at tick (clock_reading hub i.clock))
    (ReadsOwn tick lead theirs)
    → record (follower_actor_view i) { place = Of_follower place }
    ≡ record a { place = Of_follower (after_follower_reading a.scenario.options (follower_samples c hub.entries) (seen_at tick (clock_reading hub c)) (ReadsOwn tick lead theirs)) }
own-read-view i a hub tick lead theirs place c view level who is =
    let whose : A_follower i.clock ≡ A_follower c = ap (λ (x : ActorState). x.who) view ∙ who in
    let clock : i.clock ≡ c = cc in
    let at : ℕ → List Sample → FollowerPlace = λ n xs.
    after_follower_reading i.scenario.value.options xs (seen_at tick (clock_reading hub n)) (ReadsOwn tick lead theirs) in
    let read = is ∙ (ap (at i.clock) (samples-alike i hub.entries level.entries) ∙ ap (λ n. at n (follower_samples n hub.entries)) clock) in
    ap (λ (p : FollowerPlace). record (follower_actor_view i) { place = Of_follower p }) read
    ∙ ap (λ (x : ActorState). record x { place = Of_follower (after_follower_reading x.scenario.options (follower_samples c hub.entries) (seen_at tick (clock_reading hub c)) (ReadsOwn tick lead theirs)) }) view

-- when its next step is due
pub due-told-follower : (i : Inside) (a : ActorState) (hub : HubState) (turn t : ℕ) → IsFollowerActor i → follower_actor_view i ≡ a → IsLevel hub a
    → turn ≡ turn_after i.turns i.interval → t ≡ follower_tick turn i.place → by_end i.duration (Some t) ≡ due_tick hub a
due-told-follower i a hub turn t is view level turn_is t_is =
    let level_of : IsLevel hub (follower_actor_view i) = subst (IsLevel hub) (sym view) level in
    ap (λ n. by_end i.duration (Some n)) (t_is ∙ ap (λ n. follower_tick n i.place) turn_is)
    ∙ (due-beside i hub is level_of ∙ ap (λ (x : ActorState). due_tick hub x) view)

-- what an action asks for is within what a clock takes
pub limits-askable : (conf : ServoConf) (a : Action) → IsWithinClock conf → IsWithinLimits conf a → IsAskable a
limits-askable conf Unlocked few within = tt
limits-askable conf (Jump s f) few within = (within.0, within-more (pos (limit conf)) FREQ_MAX f few within.1)
limits-askable conf (Locked f) few within = within-more (pos (limit conf)) FREQ_MAX f few within

-- the World once its exchange changed the hub
pub world-swapped : (i : Inside) (a after : ActorState) (hub new : HubState) (w : World) (tick : ℕ) (lead : Lead) (action : Action) (place : FollowerPlace)
    → follower_actor_view i ≡ a → new ≡ with_exchange hub (held_by i.clock lead) tick action → after ≡ record a { place = Of_follower place }
    → with_job w i.clock hub.entries (with_exchange hub (held_by i.clock lead) tick action).logs place ≡ world_with w new after
world-swapped i a after hub new w tick lead action place view changed made =
    ap (λ (h : HubState). with_job w i.clock h.entries h.logs place) (sym changed) ∙ world-same i a after new w place view made

-- it is level with that hub
pub level-exchanged : (a after : ActorState) (hub new : HubState) (held : Held) (tick : ℕ) (action : Action) (place : FollowerPlace)
    → IsLevel hub a → new ≡ with_exchange hub held tick action → after ≡ record a { place = Of_follower place } → IsLevel new after
level-exchanged a after hub new held tick action place level changed made =
    subst (λ (h : HubState). IsLevel h after) (sym changed)
    (subst (IsLevel (with_exchange hub held tick action)) (sym made) (record { scenario = level.scenario; entries = level.entries }))
