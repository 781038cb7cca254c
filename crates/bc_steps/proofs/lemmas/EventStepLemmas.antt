-- An event of an actor is its step of the World.
use Rattle.std.proofs.Common.{◌≡◌, ◌≤◌, ℕ, Bool, true, false, cond, refl, sym, ap, subst, ◌∙◌, List, ◌∷◌, Option, Some, None, option_map, option_and_then, leb, leb-true, le-leb, arith}
use Rattle.std.specs.Prelude.{IfSome}
use Rattle.std.proofs.lemmas.Option.{same_Some}
use Rattle.ptp_base.specs.declared.port_conf.PortConf.{PortConf}
use Rattle.model_clock.specs.Clock.{clock_at}
use Rattle.ptp_profile.specs.declared.port_event.Timer.{Timer}
use Rattle.ptp_profile.specs.declared.seats.LogEntry.{LogEntry}
use Rattle.ptp_profile.specs.Port.PortTimers.{due_of}
use Rattle.ptp_profile.specs.Roles.SeatLogs.{log_at, whole_reading, with_orders}
use Rattle.bc_history.specs.declared.entry.Entry.{Entry}
use Rattle.bc_history.specs.declared.entry.Input.{Input}
use Rattle.bc_history.specs.declared.entry.Input.TheVariants.{Report}
use Rattle.bc_history.specs.declared.entry.Seen.{Seen}
use Rattle.bc_history.specs.declared.entry.Who.{Who}
use Rattle.bc_history.specs.declared.entry.Who.TheVariants.{Port}
use Rattle.bc_history.specs.declared.place.PortPlace.{PortPlace}
use Rattle.bc_history.specs.declared.place.PortPlace.TheVariants.{Waits, Exchanges, Reports}
use Rattle.bc_history.specs.declared.scenario.Record.{Record}
use Rattle.bc_history.specs.declared.scenario.Scenario.{Scenario}
use Rattle.bc_history.specs.Phases.EntryEffects.{entry_after}
use Rattle.bc_history.specs.Phases.HubPort.{HubPort}
use Rattle.bc_history.specs.Phases.Inputs.{at_port, holds, is_read, port_at, port_of, tick_of}
use Rattle.bc_history.specs.Phases.Step.{state_of}
use Rattle.bc_history.specs.Run.Actors.{actor_of, is_same_actor}
use Rattle.bc_history.specs.Run.History.{Continues}
use Rattle.bc_history.specs.Run.NextInputs.{next_input, record_or_timer, IsDue}
use Rattle.bc_history.specs.Run.PortPlace.{place_by_entries}
use Rattle.bc_history.specs.Run.World.{Event, is_inside, Place, World, port_event, port_reading, port_step, seen_at, step_from, step_of}
use Rattle.bc_history.proofs.lemmas.PortEntriesLemmas.{port_of-by}
use Rattle.hub_core.specs.HubView.{HubState, IsInWindow, draft_entry, entry_by, reading_at, with_entry}
use Rattle.bc_steps.specs.PortActors.{IsPortActor, port_actor_view}
use Rattle.bc_windows.specs.Windows.{bound_of}
use Rattle.bc_steps.specs.ActorView.{ActorState, AddsOwn, due_tick, IsIn, IsLevel, last_tick, up_to_bound}
use Rattle.bc_steps.specs.RecordQueue.{input_at, last_of, tick_at}
use Rattle.bc_steps.specs.declared.port.actor.PortActor.TheInside.{Inside}
use Rattle.bc_steps.proofs.lemmas.PortEventLemmas.{IsNextEvent, has-input, next-event}
use Rattle.bc_steps.proofs.lemmas.OwnPortLemmas.{AreSameOwn, OwnPort, by_end, due-own, next-own, own-port, timer-own, timer_of}

-- ---- the event is due

-- the event of an actor after these entries: it is its port's next, and comes before the run ends
pub record IsDueEvent (s : Scenario) (i : Inside) (entries : List Entry) (input : Input) (tick : ℕ) : Type 0 where
  pub own : OwnPort s i.number entries
  pub next : next_input s own.port ≡ record_or_timer i.number (last_of i.records) (due_of own.port.port.timers)
  pub takes : input_at i.number i.place (last_of i.records) (due_of own.port.port.timers) ≡ Some input
  pub event : IsNextEvent s (state_of s entries) i.number tick input
  pub in_time : tick ≤ s.options.duration

-- what is due before the run ends
pub by_end-some : (duration : ℕ) (o : Option ℕ) (tick : ℕ) → by_end duration o ≡ Some tick → (o ≡ Some tick) × (tick ≤ duration)
by_end-some duration None tick is = absurd (cc)
by_end-some duration (Some t) tick is = by (leb t duration) refl is
  where
    by : (b : Bool) → leb t duration ≡ b → cond b (Some t) None ≡ Some tick → (Some t ≡ Some tick) × (tick ≤ duration)
    by true le one = (one, subst (λ n. n ≤ duration) (same_Some t tick one) (leb-true t duration le))
    by false late none = absurd (cc)

-- in the actor's own scenario
event-own : (i : Inside) (entries : List Entry) (input : Input) (tick : ℕ) → IsPortActor i
    → AreSameOwn i entries → Continues i.scenario.value entries
    → input_at i.number i.place (last_of i.records) (timer_of i.scenario.value entries i.number) ≡ Some input
    → by_end i.duration (tick_at i.number i.place (last_of i.records) (timer_of i.scenario.value entries i.number)) ≡ Some tick
    → IsDueEvent i.scenario.value i entries input tick
event-own i entries input tick is same continues takes at =
    let s = i.scenario.value in
    let own = own-port s i.number entries is.first is.there in
    let timer = timer-own s i.number entries own in
    let ends = by_end-some i.duration (tick_at i.number i.place (last_of i.records) (timer_of s entries i.number)) tick at in
    let taken = sym (ap (λ (t : Option (ℕ × Timer)). input_at i.number i.place (last_of i.records) t) timer) ∙ takes in
    let ticks = sym (ap (λ (t : Option (ℕ × Timer)). tick_at i.number i.place (last_of i.records) t) timer) ∙ ends.0 in
    record {
      own = own;
      next = next-own i entries is same own;
      takes = taken;
      event = next-event i entries is same continues own input tick taken ticks;
      in_time = subst (λ n. tick ≤ n) is.duration_is ends.1;
    }

-- what the code found, in the hub's scenario
pub event-due : (i : Inside) (a : ActorState) (hub : HubState) (queue : List Record) (timer : Option (ℕ × Timer)) (input : Input) (tick : ℕ)
    → IsPortActor i → port_actor_view i ≡ a → IsLevel hub a → Continues hub.scenario hub.entries → queue ≡ i.records
    → timer ≡ timer_of hub.scenario hub.entries i.number → input_at i.number i.place (last_of queue) timer ≡ Some input
    → due_tick hub a ≡ Some tick → IsDueEvent hub.scenario i hub.entries input tick
event-due i a hub queue timer input tick is view level continues queued told takes at =
    let level_of : IsLevel hub (port_actor_view i) = subst (IsLevel hub) (sym view) level in
    let s = i.scenario.value in
    let entries = hub.entries in
    let same = level_of.entries in
    let timers = told ∙ ap (λ (x : Scenario). timer_of x entries i.number) (sym level_of.scenario) in
    let taken =
    sym (ap (λ (q : List Record). input_at i.number i.place (last_of q) timer) queued
    ∙ ap (λ (t : Option (ℕ × Timer)). input_at i.number i.place (last_of i.records) t) timers) ∙ takes in
    let ticks =
    sym (due-own i entries is same)
    ∙ ap (λ (x : Scenario). due_tick (record { scenario = x; entries = hub.entries; logs = hub.logs; windows = hub.windows }) (port_actor_view i)) level_of.scenario
    ∙ ap (λ (x : ActorState). due_tick hub x) view ∙ at in
    subst (λ (x : Scenario). IsDueEvent x i entries input tick) level_of.scenario
    (event-own i entries input tick is same (subst (λ (x : Scenario). Continues x entries) (sym level_of.scenario) continues) taken ticks)

-- as the hub wants it
pub event-is_due : (s : Scenario) (i : Inside) (entries : List Entry) (input : Input) (tick : ℕ) → IsDueEvent s i entries input tick
    → IsDue s (state_of s entries) input
event-is_due s i entries input tick is = (is.event.next, subst (λ n. n ≤ s.options.duration) (sym is.event.tick_is) is.in_time)

-- ---- the step

-- by the place
step-at : (s : Scenario) (w : World) (p : ℕ) (port : HubPort) (place : PortPlace) (next : Option Record) (timer : Option (ℕ × Timer))
    (input : Input) → next_input s port ≡ record_or_timer p next timer → input_at p place next timer ≡ Some input
    → tick_of input ≤ s.options.duration
    → port_step s w p port place ≡ Some (Event (port_event s w p input (port_reading s w port input)))
step-at s w p port Waits next timer input takes is in_time =
    let due : leb (tick_of input) s.options.duration ≡ true = le-leb (tick_of input) s.options.duration in_time in
    ap (λ (o : Option Input). option_and_then (λ (x : Input). cond (leb (tick_of x) s.options.duration)
    (Some (Event (port_event s w p x (port_reading s w port x)))) None) o) (takes ∙ is)
    ∙ ap (λ (b : Bool). cond b (Some (Event (port_event s w p input (port_reading s w port input)))) None) due
step-at s w p port (Exchanges tick held action) next timer input takes is in_time = absurd (cc)
step-at s w p port (Reports tick gener action outcome) next timer input takes is in_time =
    ap (λ (x : Input). Some (Event (port_event s w p x (port_reading s w port x))))
    (same_Some (Report p tick gener action outcome) input is)

-- an input of port p names it
names-port : (p : ℕ) (input : Input) → is_same_actor (Port p) (actor_of input) ≡ true → port_of input ≡ Some p
names-port p input own = port_of-by p (record { input = input; moment = 0; seen = None; effects = draft_entry.effects }) own

-- the reading of the World is that of the hub
reading-at : (w : World) (hub : HubState) (p : ℕ) (port : HubPort) (input : Input) → w.logs ≡ hub.logs → port_of input ≡ Some p
    → port_at hub.scenario.ports p ≡ Some port.port.conf → port_reading hub.scenario w port input ≡ reading_at hub input
reading-at w hub p port input logs number conf =
    let s = hub.scenario in
    let read : List (List LogEntry) → PortConf → Seen = λ ls c. seen_at (tick_of input) (whole_reading (clock_at s.clocks c.clock) (log_at ls c.clock)) in
    let found : option_and_then (port_at s.ports) (port_of input) ≡ Some port.port.conf =
    ap (λ (o : Option ℕ). option_and_then (port_at s.ports) o) number ∙ conf in
    ap (λ (ls : List (List LogEntry)). cond (is_read input) (Some (read ls port.port.conf)) None) logs
    ∙ ap (λ (o : Option PortConf). cond (is_read input) (option_map (read hub.logs) o) None) (sym found)

-- the World with a history and logs, where port p is by its entries
abbrev after_entries : Scenario → World → ℕ → List Entry → List (List LogEntry) → World
after_entries s w p entries logs = record {
  entries = entries;
  logs = logs;
  ports = at_port (λ former. place_by_entries s.options p entries) p w.ports;
  followers = w.followers;
}

-- an entry more in the World is one more in the hub
event-alike : (w : World) (hub new : HubState) (p : ℕ) (input : Input) (seen : Option Seen) → w.entries ≡ hub.entries → w.logs ≡ hub.logs
    → seen ≡ reading_at hub input → new ≡ with_entry hub (entry_by hub input (reading_at hub input))
    → port_event hub.scenario w p input seen ≡ after_entries hub.scenario w p new.entries new.logs
event-alike w hub new p input seen entries logs reading made =
    let s = hub.scenario in
    let e : List Entry → Option Seen → Entry = λ es x. entry_after s es input x in
    let world : List Entry → List (List LogEntry) → Option Seen → World = λ es ls x.
    after_entries s w p (e es x ∷ es) (with_orders ls (e es x).effects.orders) in
    ap (λ (es : List Entry). world es w.logs seen) entries ∙ ap (λ (ls : List (List LogEntry)). world hub.entries ls seen) logs
    ∙ ap (λ (x : Option Seen). world hub.entries hub.logs x) reading
    ∙ ap (λ (h : HubState). after_entries s w p h.entries h.logs) (sym made)

-- the event of the actor is its step
pub event-step : (i : Inside) (w : World) (hub new : HubState) (input : Input) (tick : ℕ) → IsDueEvent hub.scenario i hub.entries input tick
    → IsIn w hub (port_actor_view i) → new ≡ with_entry hub (entry_by hub input (reading_at hub input))
    → step_of hub.scenario w (Port i.number) ≡ Some (Event (after_entries hub.scenario w i.number new.entries new.logs))
event-step i w hub new input tick is in_world made =
    let s = hub.scenario in
    let port = is.own.port in
    let in_time = subst (λ n. n ≤ s.options.duration) (sym is.event.tick_is) is.in_time in
    let number = names-port i.number input is.event.own in
    ap (λ (o : Option Place). option_and_then (λ place. step_from s w (Port i.number) place) o) in_world.place
    ∙ ap (λ (es : List Entry). option_and_then (λ (h : HubPort). port_step s w i.number h i.place) (port_at (state_of s es).core.ports i.number))
    in_world.entries
    ∙ ap (λ (o : Option HubPort). option_and_then (λ (h : HubPort). port_step s w i.number h i.place) o) is.own.there
    ∙ step-at s w i.number port i.place (last_of i.records) (due_of port.port.timers) input is.next is.takes in_time
    ∙ ap (λ (x : World). Some (Event x))
    (event-alike w hub new i.number input (port_reading s w port input) in_world.entries in_world.logs
    (reading-at w hub i.number port input in_world.logs number is.own.conf) made)

-- ---- what it adds

entry-input : (s : Scenario) (before : List Entry) (input : Input) (seen : Option Seen) → (entry_after s before input seen).input ≡ input
unfolding entry_after
entry-input s before input seen = refl

-- the entry is the actor's
pub event-adds : (who : Who) (hub new : HubState) (input : Input) → is_same_actor who (actor_of input) ≡ true
    → new ≡ with_entry hub (entry_by hub input (reading_at hub input)) → AddsOwn who hub new
event-adds who hub new input own made =
    let e = entry_by hub input (reading_at hub input) in
    record {
      entry = e;
      more = ap (λ (h : HubState). h.entries) made;
      own = ap (λ (x : Input). is_same_actor who (actor_of x)) (entry-input hub.scenario hub.entries input (reading_at hub input)) ∙ own;
      scenario = ap (λ (h : HubState). h.scenario) made;
      windows = ap (λ (h : HubState). h.windows) made;
    }

-- ---- readiness

-- what is up to the last tick is in the window
in-bound : (bound : Option ℕ) (until tick : ℕ) → tick ≤ up_to_bound bound until → IfSome bound (λ end. tick ≤ end)
in-bound None until tick le = tt
in-bound (Some end) until tick le = omega (arith, le)

-- and so is an input of that tick
pub input-in : (hub : HubState) (until tick : ℕ) (input : Input) → tick ≤ last_tick hub until → tick_of input ≡ tick → IsInWindow hub input
input-in hub until tick input le at = in-bound (bound_of hub.windows) until (tick_of input) (rw at le)

-- a tick up to another
pub ready-by : (until tick : ℕ) (o : Option ℕ) → o ≡ Some tick → tick ≤ until → holds (λ t. leb t until) o ≡ true
ready-by until tick o is le = ap (λ (x : Option ℕ). holds (λ t. leb t until) x) is ∙ le-leb tick until le

-- an actor inside that is due has an input
pub some-input : (i : Inside) (a : ActorState) (hub : HubState) (queue : List Record) (timer : Option (ℕ × Timer)) (tick : ℕ)
    → IsPortActor i → port_actor_view i ≡ a → IsLevel hub a → is_inside a.place ≡ true → queue ≡ i.records
    → timer ≡ timer_of hub.scenario hub.entries i.number → due_tick hub a ≡ Some tick
    → input_at i.number i.place (last_of queue) timer ≡ None → ⊥
some-input i a hub queue timer tick is view level inside queued told at none =
    let level_of : IsLevel hub (port_actor_view i) = subst (IsLevel hub) (sym view) level in
    let timers = told ∙ ap (λ (x : Scenario). timer_of x hub.entries i.number) (sym level_of.scenario) in
    let found = λ (t : Option (ℕ × Timer)). tick_at i.number i.place (last_of i.records) t in
    let ticks =
    sym (due-own i hub.entries is level_of.entries)
    ∙ ap (λ (x : Scenario). due_tick (record { scenario = x; entries = hub.entries; logs = hub.logs; windows = hub.windows }) (port_actor_view i)) level_of.scenario
    ∙ ap (λ (x : ActorState). due_tick hub x) view ∙ at in
    let ends = by_end-some i.duration (found (timer_of i.scenario.value hub.entries i.number)) tick ticks in
    let no =
    sym (ap (λ (q : List Record). input_at i.number i.place (last_of q) timer) queued
    ∙ ap (λ (t : Option (ℕ × Timer)). input_at i.number i.place (last_of i.records) t) timers) ∙ none in
    has-input i.number i.place (last_of i.records) (timer_of i.scenario.value hub.entries i.number) tick
    (subst (λ (x : ActorState). is_inside x.place ≡ true) (sym view) inside) ends.0 no
