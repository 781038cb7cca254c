-- A step of an actor that is no event leaves the World right.
use Rattle.std.proofs.Common.{◌≡◌, ℕ, Bool, true, false, cond, refl, subst, Option, Some, None}
use Rattle.std.specs.Prelude.{option_and_then, option_map, slice_get}
use Rattle.ptp_profile.specs.declared.roles.Lead.{Lead}
use Rattle.ptp_profile.specs.declared.seats.Held.{Held}
use Rattle.ptp_profile.specs.declared.timing.Action.{Action}
use Rattle.bc_history.specs.declared.entry.Seen.{Seen}
use Rattle.bc_history.specs.declared.entry.Who.{Who}
use Rattle.bc_history.specs.declared.entry.Who.TheVariants.{Port as A_port, Follower as A_follower, Queries as The_queries}
use Rattle.bc_history.specs.declared.place.FollowerPlace.{FollowerPlace}
use Rattle.bc_history.specs.declared.place.FollowerPlace.TheVariants.{Turns as Turns_next, ReadsTheirs as Reads_theirs, ReadsOwn as Reads_own, Exchanges as Exchanges_own, Samples}
use Rattle.bc_history.specs.declared.place.PortPlace.{PortPlace}
use Rattle.bc_history.specs.declared.place.PortPlace.TheVariants.{Waits, Exchanges, Reports}
use Rattle.bc_history.specs.declared.scenario.Asked.{Asked}
use Rattle.bc_history.specs.declared.scenario.Scenario.{Scenario}
use Rattle.bc_history.specs.Phases.HubPort.{HubPort}
use Rattle.bc_history.specs.Phases.Inputs.{port_at, tick_of}
use Rattle.bc_history.specs.Phases.State.{Follower}
use Rattle.bc_history.specs.Phases.Step.{state_of}
use Rattle.bc_history.specs.Run.NextInputs.{next_input, query_input, turn_tick}
use Rattle.bc_history.specs.Run.World.{Event, Free, follower_reading, seen_of, Of_follower, Of_port, World, follower_step, is_due, port_step, query_step, step_from, step_of}
use Rattle.bc_history.specs.Scenario.ScenarioRules.{IsScenario}
use Rattle.bc_history.proofs.lemmas.EntryPhaseLemmas.{option_and_then-some}
use Rattle.run_legal.specs.Runs.WorldInvariant.{IsRight}
use Rattle.run_legal.proofs.lemmas.FreeFollowerLemmas.{after_own_exchange, own-exchange-right}
use Rattle.run_legal.proofs.lemmas.FreePortLemmas.{after_exchange_of, exchange-right}
use Rattle.run_legal.proofs.lemmas.ReadingLemmas.{own-reading-right, their-reading-right}

-- an event, or nothing, is no other step
event-if : (b : Bool) (event next : World) → cond b (Some (Event event)) None ≡ Some (Free next) → ⊥
event-if true event next is = cc
event-if false event next is = cc

-- what is so of each reading and each exchange that there may be
pub record IsOfEachFree (s : Scenario) (w : World) (P : Who → World → Type 0) : Type 0 where
  pub port_exchange : (p tick : ℕ) (held : Held) (action : Action) → port_at w.ports p ≡ Some (Exchanges tick held action)
      → P (A_port p) (after_exchange_of s w p tick held action)
  pub their_reading : (c tick : ℕ) (lead : Lead) → slice_get w.followers c ≡ Some (Reads_theirs tick lead)
      → P (A_follower c) (follower_reading s w c (seen_of s w lead.source tick) (Reads_theirs tick lead))
  pub own_reading : (c tick : ℕ) (lead : Lead) (theirs : Seen) → slice_get w.followers c ≡ Some (Reads_own tick lead theirs)
      → P (A_follower c) (follower_reading s w c (seen_of s w c tick) (Reads_own tick lead theirs))
  pub own_exchange : (c tick : ℕ) (lead : Lead) (theirs own : Seen) (action : Action) (f : Follower) → slice_get (state_of s w.entries).followers c ≡ Some f
      → slice_get w.followers c ≡ Some (Exchanges_own tick lead theirs own action)
      → P (A_follower c) (after_own_exchange s w c tick lead theirs own action)

module _ (s : Scenario) (w next : World) (P : Who → World → Type 0) (each : IsOfEachFree s w P) where
  -- a port's step
  free-port : (p : ℕ) (h : HubPort) (place : PortPlace) → port_at w.ports p ≡ Some place → port_step s w p h place ≡ Some (Free next) → P (A_port p) next
  free-port p h Waits there step =
      let some = option_and_then-some _ (next_input s h) (Free next) step in absurd (event-if (is_due s (tick_of some.0)) _ next some.2)
  free-port p h (Exchanges tick held action) there step = subst (P (A_port p)) (cc) (each.port_exchange p tick held action there)
  free-port p h (Reports tick gener action outcome) there step = absurd (cc)

  -- a follower's
  free-follower : (c : ℕ) (f : Follower) (place : FollowerPlace) → slice_get (state_of s w.entries).followers c ≡ Some f → slice_get w.followers c ≡ Some place
      → follower_step s w c f place ≡ Some (Free next) → P (A_follower c) next
  free-follower c f Turns_next is_f there step = absurd (event-if (is_due s (turn_tick s f)) _ next step)
  free-follower c f (Reads_theirs tick lead) is_f there step = subst (P (A_follower c)) (cc) (each.their_reading c tick lead there)
  free-follower c f (Reads_own tick lead theirs) is_f there step = subst (P (A_follower c)) (cc) (each.own_reading c tick lead theirs there)
  free-follower c f (Exchanges_own tick lead theirs own action) is_f there step =
      subst (P (A_follower c)) (cc) (each.own_exchange c tick lead theirs own action f is_f there)
  free-follower c f (Samples tick lead theirs own action outcome) is_f there step = absurd (cc)

  -- a query's is none
  free-queries : (o : Option Asked) → query_step s w o ≡ Some (Free next) → P The_queries next
  free-queries None step = absurd (cc)
  free-queries (Some asked) step = absurd (event-if (is_due s asked.tick) _ next step)

  -- by the place of the port
  port-by : (p : ℕ) (o : Option PortPlace) → port_at w.ports p ≡ o
      → option_and_then (λ place. step_from s w (A_port p) place) (option_map (λ place. Of_port place) o) ≡ Some (Free next) → P (A_port p) next
  port-by p None there step = absurd (cc)
  port-by p (Some place) there step =
      let some = option_and_then-some (λ (h : HubPort). port_step s w p h place) (port_at (state_of s w.entries).core.ports p) (Free next) step in
      free-port p some.0 place there some.2

  -- by that of the follower
  follower-by : (c : ℕ) (o : Option FollowerPlace) → slice_get w.followers c ≡ o
      → option_and_then (λ place. step_from s w (A_follower c) place) (option_map (λ place. Of_follower place) o) ≡ Some (Free next) → P (A_follower c) next
  follower-by c None there step = absurd (cc)
  follower-by c (Some place) there step =
      let some = option_and_then-some (λ (f : Follower). follower_step s w c f place) (slice_get (state_of s w.entries).followers c) (Free next) step in
      free-follower c some.0 place some.1 there some.2

  -- is so of each step that is no event
  pub so-free : (who : Who) → step_of s w who ≡ Some (Free next) → P who next
  so-free (A_port p) step = port-by p (port_at w.ports p) refl step
  so-free (A_follower c) step = follower-by c (slice_get w.followers c) refl step
  so-free The_queries step = free-queries (query_input s (state_of s w.entries)) step

-- each step that is no event leaves the World right
pub free-stays-right : (s : Scenario) → IsScenario s → (w next : World) (who : Who) → IsRight s w → step_of s w who ≡ Some (Free next) → IsRight s next
free-stays-right s is w next who right step =
    so-free s w next (λ (actor : Who) (later : World). IsRight s later)
    (record {
      port_exchange = λ p tick held action there. exchange-right s is w p tick held action right there;
      their_reading = λ c tick lead there. their-reading-right s w c tick lead right there;
      own_reading = λ c tick lead theirs there. own-reading-right s w c tick lead theirs right there;
      own_exchange = λ c tick lead theirs own action f is_f there. own-exchange-right s w c tick lead theirs own action f right is_f there;
    }) who step
