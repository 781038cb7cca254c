-- Each event leaves the World right: by whose it is, and where that one was.
use Rattle.std.proofs.Common.{◌≡◌, ◌<◌, ℕ, cond, leb-true, refl, sym, ap, ◌∙◌, subst, List, length, Option, Some, None}
use Rattle.std.specs.Prelude.{slice_get}
use Rattle.std.proofs.lemmas.Option.{cond_some, same_Some}
use Rattle.ptp_base.specs.declared.limits.TheConstants.{ENTRIES_MAX}
use Rattle.bc_history.specs.declared.entry.Entry.{Entry}
use Rattle.bc_history.specs.declared.entry.Input.{Input}
use Rattle.bc_history.specs.declared.entry.Input.TheVariants.{Report, Turn, Sampled, Query}
use Rattle.bc_history.specs.declared.entry.Seen.{Seen}
use Rattle.bc_history.specs.declared.entry.Who.{Who}
use Rattle.bc_history.specs.declared.entry.Who.TheVariants.{Port as A_port, Follower as A_follower, Queries as The_queries}
use Rattle.bc_history.specs.declared.place.FollowerPlace.{FollowerPlace}
use Rattle.bc_history.specs.declared.place.FollowerPlace.TheVariants.{Turns as Turns_next, ReadsTheirs as Reads_theirs, ReadsOwn as Reads_own, Exchanges as Exchanges_own, Samples}
use Rattle.bc_history.specs.declared.place.PortPlace.{PortPlace}
use Rattle.bc_history.specs.declared.place.PortPlace.TheVariants.{Waits, Exchanges, Reports}
use Rattle.bc_history.specs.declared.scenario.Asked.{Asked}
use Rattle.bc_history.specs.declared.scenario.Scenario.{Scenario}
use Rattle.bc_history.specs.Phases.EntryEffects.{entry_after}
use Rattle.bc_history.specs.Phases.HubPort.{HubPort}
use Rattle.bc_history.specs.Phases.Inputs.{port_at, tick_of}
use Rattle.bc_history.specs.Phases.State.{Follower}
use Rattle.bc_history.specs.Phases.Step.{state_of}
use Rattle.bc_history.specs.Run.Actors.{actor_of}
use Rattle.bc_history.specs.Run.NextInputs.{next_input, query_input, turn_tick}
use Rattle.bc_history.specs.Run.PortEntries.{measured_by}
use Rattle.bc_history.specs.Run.World.{Event, Of_follower, Of_port, Of_queries, Place, World, follower_event, follower_step, is_due, place_of, port_event, port_reading, port_step, query_step, step_from, step_of}
use Rattle.bc_history.specs.Scenario.ScenarioRules.{IsScenario}
use Rattle.bc_history.proofs.lemmas.CoreInvariantLemmas.{option_map-some}
use Rattle.bc_history.proofs.lemmas.EntryPhaseLemmas.{option_and_then-some}
use Rattle.bc_history.proofs.lemmas.MeasureLemmas.{measured-state_of}
use Rattle.run_legal.specs.Runs.RightEntries.{IsRightEntry}
use Rattle.run_legal.specs.Runs.WorldInvariant.{IsRight}
use Rattle.run_legal.proofs.lemmas.EnteredPlaceLemmas.{entered}
use Rattle.run_legal.proofs.lemmas.EnteredWorldLemmas.{follower-entered, port-entered, query-entered}
use Rattle.run_legal.proofs.lemmas.EventEntryLemmas.{query-entry, report-entry, sample-entry, turn-entry}
use Rattle.run_legal.proofs.lemmas.EventPlaceLemmas.{IsAtJob, asked_of, job-entries}
use Rattle.run_legal.proofs.lemmas.EventPortLemmas.{taken-entry, taken-own}

-- an entry has the input that made it
made-input : (s : Scenario) (before : List Entry) (input : Input) (seen : Option Seen) → (entry_after s before input seen).input ≡ input
unfolding entry_after
made-input s before input seen = refl

-- what is an event is that event
one_event : (a b : World) → Event a ≡ Event b → a ≡ b
one_event a b is = cc

module _ (s : Scenario) (is : IsScenario s) (w : World) (right : IsRight s w) (room : length w.entries < ENTRIES_MAX) where
  -- an event of a port
  event-port : (p : ℕ) (input : Input) (seen : Option Seen) → actor_of input ≡ A_port p → IsRightEntry s w.entries w.logs (entry_after s w.entries input seen) → IsRight s (port_event s w p input seen)
  event-port p input seen of entry =
      port-entered s is w right room (entry_after s w.entries input seen) entry p (ap actor_of (made-input s w.entries input seen) ∙ of)

  -- an event of a follower
  event-follower : (c : ℕ) (input : Input) → actor_of input ≡ A_follower c → IsRightEntry s w.entries w.logs (entry_after s w.entries input None) → IsRight s (follower_event s w c input)
  event-follower c input of entry =
      follower-entered s is w right room (entry_after s w.entries input None) entry c (ap actor_of (made-input s w.entries input None) ∙ of)

  -- a port that waits measured nothing
  unmeasured : (p : ℕ) (h : HubPort) → port_at (state_of s w.entries).core.ports p ≡ Some h → port_at w.ports p ≡ Some Waits → h.measured ≡ None
  unmeasured p h there at =
      measured-state_of s w.entries right.course.history p h there
      ∙ subst (IsAtJob (asked_of s.options p w.entries) (measured_by p w.entries)) (right.ports p Waits at) (job-entries s.options p w.entries)

  -- a port's event, by its place
  port-next : (next : World) (p : ℕ) (h : HubPort) (place : PortPlace) → port_at (state_of s w.entries).core.ports p ≡ Some h → port_at w.ports p ≡ Some place
      → port_step s w p h place ≡ Some (Event next) → IsRight s next
  port-next next p h Waits there at steps =
      let took = option_and_then-some
      (λ (input : Input). cond (is_due s (tick_of input)) (Some (Event (port_event s w p input (port_reading s w h input)))) None)
      (next_input s h) (Event next) steps in
      let input = took.0 in
      let due = cond_some (is_due s (tick_of input)) (Event (port_event s w p input (port_reading s w h input))) (Event next) took.2 in
      let in_time = leb-true (tick_of input) s.options.duration due.0 in
      let taken = taken-own s w.entries p h input there took.1 in
      subst (IsRight s) (one_event (port_event s w p input (port_reading s w h input)) next due.1)
      (event-port p input (port_reading s w h input) taken.actor (taken-entry s w right.course p h there input (unmeasured p h there at) took.1 in_time))
  port-next next p h (Exchanges tick held action) there at steps = absurd (cc)
  port-next next p h (Reports tick gener action outcome) there at steps =
      subst (IsRight s) (one_event (port_event s w p (Report p tick gener action outcome) None) next (same_Some (Event (port_event s w p (Report p tick gener action outcome) None)) (Event next) steps))
      (event-port p (Report p tick gener action outcome) None refl
      (report-entry s w right.course p tick gener action outcome h there (right.ports p (Reports tick gener action outcome) at)))

  -- a follower's event, by its place
  follower-next : (next : World) (c : ℕ) (f : Follower) (place : FollowerPlace) → slice_get (state_of s w.entries).followers c ≡ Some f → slice_get w.followers c ≡ Some place
      → follower_step s w c f place ≡ Some (Event next) → IsRight s next
  follower-next next c f Turns_next there at steps =
      let due = cond_some (is_due s (turn_tick s f)) (Event (follower_event s w c (Turn c (turn_tick s f)))) (Event next) steps in
      let in_time = leb-true (turn_tick s f) s.options.duration due.0 in
      subst (IsRight s) (one_event (follower_event s w c (Turn c (turn_tick s f))) next due.1)
      (event-follower c (Turn c (turn_tick s f)) refl (turn-entry s w right.course c f there (right.followers c f Turns_next there at) in_time))
  follower-next next c f (Reads_theirs tick lead) there at steps = absurd (cc)
  follower-next next c f (Reads_own tick lead theirs) there at steps = absurd (cc)
  follower-next next c f (Exchanges_own tick lead theirs own action) there at steps = absurd (cc)
  follower-next next c f (Samples tick lead theirs own action outcome) there at steps =
      let placed = right.followers c f (Samples tick lead theirs own action outcome) there at in
      subst (IsRight s) (one_event (follower_event s w c (Sampled c tick lead theirs own action outcome)) next
      (same_Some (Event (follower_event s w c (Sampled c tick lead theirs own action outcome))) (Event next) steps))
      (event-follower c (Sampled c tick lead theirs own action outcome) refl
      (sample-entry s w right.course c tick lead theirs own action outcome f there placed.0 placed.1))

  -- a query, where there is a next one
  query-next : (next : World) (o : Option Asked) → query_input s (state_of s w.entries) ≡ o → query_step s w o ≡ Some (Event next) → IsRight s next
  query-next next None at steps = absurd (cc)
  query-next next (Some asked) at steps =
      let input = Query asked.tick asked.text in
      let due = cond_some (is_due s asked.tick) (Event (entered w (entry_after s w.entries input None) w.ports w.followers)) (Event next) steps in
      let in_time = leb-true asked.tick s.options.duration due.0 in
      subst (IsRight s) (one_event (entered w (entry_after s w.entries input None) w.ports w.followers) next due.1)
      (query-entered s is w right room (entry_after s w.entries input None) (query-entry s w right.course asked at in_time) (ap actor_of (made-input s w.entries input None)))

  -- of an actor at its place
  event-next : (next : World) (who : Who) (place : Place) → place_of w who ≡ Some place → step_from s w who place ≡ Some (Event next) → IsRight s next
  event-next next (A_port p) place at steps =
      let there = option_map-some (λ (own : PortPlace). Of_port own) (port_at w.ports p) place at in
      let from = subst (λ (x : Place). step_from s w (A_port p) x ≡ Some (Event next)) (sym there.2) steps in
      let port = option_and_then-some (λ (h : HubPort). port_step s w p h there.0) (port_at (state_of s w.entries).core.ports p) (Event next) from in
      port-next next p port.0 there.0 port.1 there.1 port.2
  event-next next (A_follower c) place at steps =
      let there = option_map-some (λ (own : FollowerPlace). Of_follower own) (slice_get w.followers c) place at in
      let from = subst (λ (x : Place). step_from s w (A_follower c) x ≡ Some (Event next)) (sym there.2) steps in
      let follower = option_and_then-some (λ (f : Follower). follower_step s w c f there.0) (slice_get (state_of s w.entries).followers c) (Event next) from in
      follower-next next c follower.0 there.0 follower.1 there.1 follower.2
  event-next next The_queries place at steps =
      let from = subst (λ (x : Place). step_from s w The_queries x ≡ Some (Event next)) (sym (same_Some Of_queries place at)) steps in
      query-next next (query_input s (state_of s w.entries)) refl from

-- an event leaves the World right, where there is room for its entry
pub event-stays-right : (s : Scenario) → IsScenario s → (w next : World) (who : Who) → IsRight s w → step_of s w who ≡ Some (Event next) → length w.entries < ENTRIES_MAX → IsRight s next
event-stays-right s is w next who right steps room =
    let at = option_and_then-some (λ (place : Place). step_from s w who place) (place_of w who) (Event next) steps in
    event-next s is w right room next who at.0 at.1 at.2
