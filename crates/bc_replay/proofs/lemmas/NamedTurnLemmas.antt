-- The actor that a line of the schedule names, by its place among those who act.
use Rattle.std.proofs.Common.{◌≡◌, ℕ, zero, suc, ◌+◌, ◌-◌, ◌<◌, ◌≤◌, refl, sym, ap, ◌∙◌, subst, arith, List, length, Option, Some, None, slice_get}
use Rattle.std.specs.Prelude.{MatchOption, map}
use Rattle.std.proofs.lemmas.List.{length-map}
use Rattle.std.proofs.lemmas.Option.{same_Some}
use Rattle.bc_history.specs.declared.entry.Who.{Who}
use Rattle.bc_history.specs.declared.entry.Who.TheVariants.{Port, Follower, Queries}
use Rattle.bc_history.specs.declared.scenario.Scenario.{Scenario}
use Rattle.bc_history.specs.declared.scenario.Turner.{Turner}
use Rattle.bc_history.specs.declared.scenario.Turner.TheVariants.{Port as Port_turn, Clock as Clock_turn, Queries as Queries_turn}
use Rattle.bc_history.specs.Phases.OpeningState.{follower_count}
use Rattle.bc_history.specs.Scenario.ScenarioRules.{IsTurnerOf}
use Rattle.hub_core.specs.HubView.{HubState}
use Rattle.bc_steps.specs.ActorView.{ActorState, due_tick}
use Rattle.bc_history.specs.Run.Actors.{actors_of}
use Rattle.bc_replay.specs.ActorTurns.{HasNoTurn, IsDueAt, IsTurnOf}
use Rattle.bc_replay.proofs.lemmas.ActorsAfterLemmas.{who-at}
use Rattle.bc_replay.proofs.lemmas.ActorPlaceLemmas.{acting-at, acting-follower, acting-length, acting-port, acting-queries, follower-index, follower-many, port-index, queries-index}

abbrev who_of : ActorState → Who
who_of a = a.who

-- there are as many actors as act
actors-length : (s : Scenario) (actors : List ActorState) → map who_of actors ≡ actors_of s → length actors ≡ length s.ports + follower_count s + 1
actors-length s actors acting = sym (length-map actors who_of) ∙ (ap length acting ∙ acting-length s)

-- what was found of the actor of index i
pub record IsFound (hub : HubState) (actors : List ActorState) (i : ℕ) (result : Option ℕ) : Type 0 where
  pub idle : result ≡ None → (a : ActorState) → slice_get actors i ≡ Some a → due_tick hub a ≡ None
  pub due : (j : ℕ) → result ≡ Some j → j ≡ i
  pub at : (j : ℕ) → result ≡ Some j → IsDueAt hub actors j

-- the actor of an index is who acts there
acts-as : (s : Scenario) (actors : List ActorState) (i : ℕ) (who : Who) (a : ActorState) → map who_of actors ≡ actors_of s → slice_get (actors_of s) i ≡ Some who → slice_get actors i ≡ Some a → a.who ≡ who
acts-as s actors i who a acting there at = same_Some a.who who (sym (who-at s actors i a acting at) ∙ there)

due-there : (s : Scenario) (hub : HubState) (actors : List ActorState) (i j : ℕ) (who : Who) (at : IsDueAt hub actors j) → map who_of actors ≡ actors_of s → slice_get (actors_of s) i ≡ Some who → j ≡ i → at.actor.who ≡ who
due-there s hub actors i j who at acting there same =
    acts-as s actors i who at.actor acting there (ap (slice_get actors) (sym same) ∙ at.there)

-- a port
pub port-within : (s : Scenario) (actors : List ActorState) (p : ℕ) (who : Turner) → map who_of actors ≡ actors_of s → who ≡ Port_turn p → IsTurnerOf (length s.clocks) (length s.ports) who → p - 1 < length actors
port-within s actors p who acting is there =
    let from : (1 ≤ p) × (p ≤ length s.ports) = subst (IsTurnerOf (length s.clocks) (length s.ports)) is there in
    let all = actors-length s actors acting in
    let first = from.0 in
    let last = from.1 in
    omega (arith, all, first, last)

port-by : (s : Scenario) (hub : HubState) (actors : List ActorState) (i : ℕ) (result : Option ℕ) → map who_of actors ≡ actors_of s → i < length s.ports → IsFound hub actors i result
    → MatchOption result (HasNoTurn hub actors (Port_turn (suc i))) (IsTurnOf hub actors (Port_turn (suc i)))
port-by s hub actors i None acting lt found = λ k a there is.
    let here = port-index s k (suc i) a.who (acting-at s k a.who (who-at s actors k a acting there)) is in
    let same : k ≡ i = omega (arith, here) in
    found.idle refl a (ap (slice_get actors) (sym same) ∙ there)
port-by s hub actors i (Some j) acting lt found = record {
  at = found.at j refl;
  named = due-there s hub actors i j (Port (suc i)) (found.at j refl) acting (acting-port s i lt) (found.due j refl);
}

port-from : (s : Scenario) (hub : HubState) (actors : List ActorState) (p : ℕ) (result : Option ℕ) → map who_of actors ≡ actors_of s → 1 ≤ p → p ≤ length s.ports → IsFound hub actors (p - 1) result
    → MatchOption result (HasNoTurn hub actors (Port_turn p)) (IsTurnOf hub actors (Port_turn p))
port-from s hub actors zero result acting first last found = absurd (omega (arith, first))
port-from s hub actors (suc i) result acting first last found =
    let same : suc i - 1 ≡ i = omega arith in
    port-by s hub actors i result acting (omega (arith, last)) (subst (λ (k : ℕ). IsFound hub actors k result) same found)

pub port-turn : (s : Scenario) (hub : HubState) (actors : List ActorState) (p : ℕ) (who : Turner) (result : Option ℕ) → map who_of actors ≡ actors_of s → who ≡ Port_turn p → IsTurnerOf (length s.clocks) (length s.ports) who
    → IsFound hub actors (p - 1) result → MatchOption result (HasNoTurn hub actors who) (IsTurnOf hub actors who)
port-turn s hub actors p who result acting is there found =
    let from : (1 ≤ p) × (p ≤ length s.ports) = subst (IsTurnerOf (length s.clocks) (length s.ports)) is there in
    rw is (port-from s hub actors p result acting from.0 from.1 found)

-- a follower
pub follower-within : (s : Scenario) (actors : List ActorState) (c at : ℕ) (who : Turner) → map who_of actors ≡ actors_of s → who ≡ Clock_turn c → IsTurnerOf (length s.clocks) (length s.ports) who → at ≡ length s.ports + c → at < length actors
follower-within s actors c at who acting is there at_is =
    let from : (2 ≤ length s.clocks) × (c < length s.clocks) = subst (IsTurnerOf (length s.clocks) (length s.ports)) is there in
    let all = actors-length s actors acting in
    let many = follower-many s from.0 in
    let last = from.1 in
    omega (arith, all, many, last, at_is)

follower-by : (s : Scenario) (hub : HubState) (actors : List ActorState) (c i : ℕ) (result : Option ℕ) → map who_of actors ≡ actors_of s → (2 ≤ length s.clocks) × (c < length s.clocks) → i ≡ length s.ports + c → IsFound hub actors i result
    → MatchOption result (HasNoTurn hub actors (Clock_turn c)) (IsTurnOf hub actors (Clock_turn c))
follower-by s hub actors c i None acting there at found = λ k a here is.
    let index = follower-index s k c a.who (acting-at s k a.who (who-at s actors k a acting here)) is in
    let same : k ≡ i = index ∙ sym at in
    found.idle refl a (ap (slice_get actors) (sym same) ∙ here)
follower-by s hub actors c i (Some j) acting there at found = record {
  at = found.at j refl;
  named = due-there s hub actors (length s.ports + c) j (Follower c) (found.at j refl) acting (acting-follower s c there) (found.due j refl ∙ at);
}

pub follower-turn : (s : Scenario) (hub : HubState) (actors : List ActorState) (c i : ℕ) (who : Turner) (result : Option ℕ) → map who_of actors ≡ actors_of s → who ≡ Clock_turn c → IsTurnerOf (length s.clocks) (length s.ports) who
    → i ≡ length s.ports + c → IsFound hub actors i result → MatchOption result (HasNoTurn hub actors who) (IsTurnOf hub actors who)
follower-turn s hub actors c i who result acting is there at found =
    let from : (2 ≤ length s.clocks) × (c < length s.clocks) = subst (IsTurnerOf (length s.clocks) (length s.ports)) is there in
    rw is (follower-by s hub actors c i result acting from at found)

-- the queries
pub sum-is : (a b ports followers : ℕ) → a ≡ ports → b ≡ followers → a + b ≡ ports + followers
sum-is a b ports followers first second = omega (arith, first, second)

pub queries-within : (s : Scenario) (actors : List ActorState) (at : ℕ) → map who_of actors ≡ actors_of s → at ≡ length s.ports + follower_count s → at < length actors
queries-within s actors at acting at_is =
    let all = actors-length s actors acting in
    omega (arith, all, at_is)

queries-by : (s : Scenario) (hub : HubState) (actors : List ActorState) (i : ℕ) (result : Option ℕ) → map who_of actors ≡ actors_of s → i ≡ length s.ports + follower_count s → IsFound hub actors i result
    → MatchOption result (HasNoTurn hub actors Queries_turn) (IsTurnOf hub actors Queries_turn)
queries-by s hub actors i None acting at found = λ k a here is.
    let index = queries-index s k a.who (acting-at s k a.who (who-at s actors k a acting here)) is in
    let same : k ≡ i = index ∙ sym at in
    found.idle refl a (ap (slice_get actors) (sym same) ∙ here)
queries-by s hub actors i (Some j) acting at found = record {
  at = found.at j refl;
  named = due-there s hub actors (length s.ports + follower_count s) j Queries (found.at j refl) acting (acting-queries s) (found.due j refl ∙ at);
}

pub queries-turn : (s : Scenario) (hub : HubState) (actors : List ActorState) (i : ℕ) (who : Turner) (result : Option ℕ) → map who_of actors ≡ actors_of s → who ≡ Queries_turn
    → i ≡ length s.ports + follower_count s → IsFound hub actors i result → MatchOption result (HasNoTurn hub actors who) (IsTurnOf hub actors who)
queries-turn s hub actors i who result acting is at found = rw is (queries-by s hub actors i result acting at found)
