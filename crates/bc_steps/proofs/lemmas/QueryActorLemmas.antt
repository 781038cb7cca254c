-- The queries that act: the next one, its step in a World, and the hub after it.
use Rattle.std.proofs.Common.{◌≡◌, ◌∙◌, ◌≤◌, ℕ, true, cond, leb, le-leb, refl, sym, ap, subst, List, ◌∷◌, Option, Some, None, Bool}
use Rattle.std.proofs.lemmas.Option.{same_Some}
use Rattle.ptp_profile.specs.declared.seats.LogEntry.{LogEntry}
use Rattle.ptp_profile.specs.Roles.SeatLogs.{with_orders}
use Rattle.std.specs.Prelude.{slice_get, option_map}
use Rattle.bc_history.specs.declared.entry.Entry.{Entry}
use Rattle.bc_history.specs.declared.entry.Input.{Input}
use Rattle.bc_history.specs.declared.entry.Who.{Who}
use Rattle.bc_history.specs.declared.entry.Who.TheVariants.{Queries}
use Rattle.bc_history.specs.declared.scenario.Asked.{Asked}
use Rattle.bc_history.specs.declared.scenario.Scenario.{Scenario}
use Rattle.bc_history.specs.Phases.EntryEffects.{entry_after}
use Rattle.bc_history.specs.Phases.State.{State}
use Rattle.bc_history.specs.Phases.Step.{state_of}
use Rattle.bc_history.specs.Run.Actors.{actor_of, is_same_actor}
use Rattle.bc_history.specs.Run.NextInputs.{IsDue, query_input}
use Rattle.bc_history.specs.Phases.Inputs.{tick_of}
use Rattle.bc_history.specs.Run.World.{Event, Of_queries, Place, World, due_by_end, query_step, step_of, with_entry as with_world_entry, with_place}
use Rattle.hub_core.specs.HubView.{HubState, entry_by, reading_at, with_entry}
use Rattle.bc_steps.specs.ActorView.{ActorState, IsLevel, due_tick, world_with}
use Rattle.bc_steps.specs.QueryActors.{IsQueryActor, asked_input, query_actor_view}
use Rattle.bc_steps.specs.declared.queries.QueryActor.TheInside.{Inside}
use Rattle.bc_steps.proofs.lemmas.EventStepLemmas.{by_end-some}
use Rattle.bc_steps.proofs.lemmas.OwnPortLemmas.{by_end}

-- ---- the next query

-- the query of the hub's count is the next one of the history
pub next-own : (i : Inside) (a : ActorState) (hub : HubState) (asked : ℕ) → IsQueryActor i → query_actor_view i ≡ a → IsLevel hub a → asked ≡ (state_of hub.scenario hub.entries).queries
    → slice_get i.queries.items asked ≡ query_input hub.scenario (state_of hub.scenario hub.entries)
next-own i a hub asked is view level count =
    let same : i.scenario.value ≡ hub.scenario = ap (λ (x : ActorState). x.scenario) view ∙ level.scenario in
    ap (λ (qs : List Asked). slice_get qs asked) (is.queries_are ∙ ap (λ (s : Scenario). s.queries) same)
    ∙ ap (λ (n : ℕ). slice_get hub.scenario.queries n) count

-- so its tick is that of the actor's next step
pub due-told-query : (i : Inside) (a : ActorState) (hub : HubState) (asked : ℕ) → IsQueryActor i → query_actor_view i ≡ a → IsLevel hub a → asked ≡ (state_of hub.scenario hub.entries).queries
    → by_end i.duration (option_map (λ (x : Asked). x.tick) (slice_get i.queries.items asked)) ≡ due_tick hub a
due-told-query i a hub asked is view level count =
    let same : i.scenario.value ≡ hub.scenario = ap (λ (x : ActorState). x.scenario) view ∙ level.scenario in
    let tick : Option Asked → Option ℕ = λ o. option_map (λ (x : Asked). x.tick) o in
    ap (λ (o : Option Asked). by_end i.duration (tick o)) (next-own i a hub asked is view level count)
    ∙ ap (λ (d : ℕ). by_end d (tick (query_input hub.scenario (state_of hub.scenario hub.entries)))) (is.duration_is ∙ ap (λ (s : Scenario). s.options.duration) same)
    ∙ ap (λ (x : ActorState). due_tick hub x) view

-- the next query of a history, as an input of a tick up to the end of the run
pub record IsNextQuery (s : Scenario) (h : State) (input : Input) (tick : ℕ) : Type 0 where
  pub asked : Asked
  pub found : query_input s h ≡ Some asked
  pub input_is : input ≡ asked_input asked
  pub tick_is : asked.tick ≡ tick
  pub in_time : tick ≤ s.options.duration

-- it comes at that tick
pub query-tick : {s : Scenario} {h : State} {input : Input} {tick : ℕ} → IsNextQuery s h input tick → tick_of input ≡ tick
query-tick is = ap tick_of is.input_is ∙ is.tick_is

next-found : (s : Scenario) (h : State) (found : Option Asked) (input : Input) (tick : ℕ) → query_input s h ≡ found → option_map asked_input found ≡ Some input
    → by_end s.options.duration (option_map (λ (x : Asked). x.tick) found) ≡ Some tick → IsNextQuery s h input tick
next-found s h None input tick found input_is at = absurd (cc)
next-found s h (Some asked) input tick found input_is at =
    let ends = by_end-some s.options.duration (Some asked.tick) tick at in
    record { asked = asked; found = found; input_is = sym (same_Some (asked_input asked) input input_is); tick_is = same_Some asked.tick tick ends.0; in_time = ends.1 }

pub next-query : (a : ActorState) (hub : HubState) (input : Input) (tick : ℕ) → a.who ≡ Queries → a.place ≡ Of_queries → due_tick hub a ≡ Some tick
    → option_map asked_input (query_input hub.scenario (state_of hub.scenario hub.entries)) ≡ Some input
    → IsNextQuery hub.scenario (state_of hub.scenario hub.entries) input tick
next-query a hub input tick who place at next =
    let h = state_of hub.scenario hub.entries in
    next-found hub.scenario h (query_input hub.scenario h) input tick refl next
    (ap (λ (p : Place). due_by_end hub.scenario h Queries p) (sym place) ∙ ap (λ (w : Who). due_by_end hub.scenario h w a.place) (sym who) ∙ at)

-- there is one, where a tick is due
pub some-query : (a : ActorState) (hub : HubState) (tick : ℕ) → a.who ≡ Queries → a.place ≡ Of_queries → due_tick hub a ≡ Some tick
    → option_map asked_input (query_input hub.scenario (state_of hub.scenario hub.entries)) ≡ None → ⊥
some-query a hub tick who place at none =
    let h = state_of hub.scenario hub.entries in
    no-tick (query_input hub.scenario h) none
    (ap (λ (p : Place). due_by_end hub.scenario h Queries p) (sym place) ∙ ap (λ (w : Who). due_by_end hub.scenario h w a.place) (sym who) ∙ at)
  where
    no-tick : (found : Option Asked) → option_map asked_input found ≡ None → by_end hub.scenario.options.duration (option_map (λ (x : Asked). x.tick) found) ≡ Some tick → ⊥
    no-tick None none at = cc
    no-tick (Some asked) none at = cc

-- it is due
pub query-is_due : (s : Scenario) (h : State) (input : Input) (tick : ℕ) → IsNextQuery s h input tick → IsDue s h input
query-is_due s h input tick is =
    subst (λ (x : Input). IsDue s h x) (sym is.input_is)
    (is.found, subst (λ (n : ℕ). n ≤ s.options.duration) (sym is.tick_is) is.in_time)

pub query-own : (s : Scenario) (h : State) (input : Input) (tick : ℕ) → IsNextQuery s h input tick → is_same_actor Queries (actor_of input) ≡ true
query-own s h input tick is = ap (λ (x : Input). is_same_actor Queries (actor_of x)) is.input_is

-- ---- its step

-- the query of a World whose history is the hub's
stepped : (s : Scenario) (w : World) (found : Option Asked) (asked : Asked) (tick : ℕ) → found ≡ Some asked → asked.tick ≡ tick → tick ≤ s.options.duration
    → query_step s w found ≡ Some (Event (with_world_entry w (entry_after s w.entries (asked_input asked) None)))
stepped s w found asked tick is same in_time =
    ap (λ (o : Option Asked). query_step s w o) is
    ∙ ap (λ (b : Bool). cond b (Some (Event (with_world_entry w (entry_after s w.entries (asked_input asked) None)))) None)
    (ap (λ (n : ℕ). leb n s.options.duration) same ∙ le-leb tick s.options.duration in_time)

abbrev world_by : World → List Entry → List (List LogEntry) → World
world_by w entries logs = record { entries = entries; logs = logs; ports = w.ports; followers = w.followers }

pub query-step : (w : World) (hub new : HubState) (input : Input) (tick : ℕ) → w.entries ≡ hub.entries → w.logs ≡ hub.logs → IsNextQuery hub.scenario (state_of hub.scenario hub.entries) input tick
    → new ≡ with_entry hub (entry_by hub input (reading_at hub input)) → step_of hub.scenario w Queries ≡ Some (Event (world_by w new.entries new.logs))
query-step w hub new input tick entries logs is made =
    let s = hub.scenario in
    let h = state_of s hub.entries in
    let query = asked_input is.asked in
    let found = ap (λ (es : List Entry). query_input s (state_of s es)) entries ∙ is.found in
    let e : List Entry → Entry = λ es. entry_after s es query None in
    let to : List Entry → List (List LogEntry) → World = λ es ls. world_by w (e es ∷ es) (with_orders ls (e es).effects.orders) in
    let made_by = made ∙ ap (λ (x : Input). with_entry hub (entry_by hub x (reading_at hub x))) is.input_is in
    stepped s w (query_input s (state_of s w.entries)) is.asked tick found is.tick_is is.in_time
    ∙ ap (λ (es : List Entry). Some (Event (to es w.logs))) entries
    ∙ ap (λ (ls : List (List LogEntry)). Some (Event (to hub.entries ls))) logs
    ∙ ap (λ (x : HubState). Some (Event (world_by w x.entries x.logs))) (sym made_by)

-- the World with the hub after a query: the actor's place is as before
pub world-queried : (w : World) (hub : HubState) (a : ActorState) → a.who ≡ Queries → world_with w hub a ≡ world_by w hub.entries hub.logs
world-queried w hub a who = ap (λ (x : Who). with_place x a.place (world_by w hub.entries hub.logs)) who
