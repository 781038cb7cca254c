-- An actor before its first entry.
use Rattle.std.proofs.Common.{◌≡◌, ◌<◌, ◌≤◌, ℕ, zero, suc, ◌+◌, sym, ap, subst, arith, inl, inr, List, [], ◌∷◌, ◌++◌, length, map, reverse, filter}
use Rattle.std.specs.Prelude.{slice_index_or, Contains, ◌==◌}
use Rattle.std.specs.List.{range_with_len}
use Rattle.std.proofs.lemmas.List.Elements.{Contains-append_cases}
use Rattle.pi_servo.specs.SteererView.{SteererRepresents}
use Rattle.bc_history.specs.declared.entry.Entry.{Entry}
use Rattle.bc_history.specs.declared.entry.Who.TheVariants.{Port, Follower, Queries}
use Rattle.bc_history.specs.declared.place.PortPlace.TheVariants.{Waits}
use Rattle.bc_history.specs.declared.scenario.Record.{Record}
use Rattle.bc_history.specs.declared.scenario.Scenario.{Scenario}
use Rattle.bc_history.specs.Phases.OpeningState.{follower_count, servo_of}
use Rattle.bc_history.specs.Run.Actors.{actors_of}
use Rattle.bc_history.specs.Run.History.{Continues}
use Rattle.bc_history.specs.Run.PortPlace.{place_by_entries}
use Rattle.bc_history.specs.Run.Samples.{port_samples}
use Rattle.bc_history.specs.Scenario.ScenarioRules.{IsScenario}
use Rattle.bc_steps.specs.PortActors.{IsPortActor, history_of}
use Rattle.bc_steps.specs.ExchangeBounds.{IsPlaceAskable}
use Rattle.bc_steps.specs.RecordQueue.{QueueRepresents, records_left}
use Rattle.bc_steps.specs.declared.port.actor.PortActor.TheInside.{Inside}

-- no follower is a port
no_follower : (cs : List ℕ) (p k : ℕ) → k < length (map (λ c. Follower c) cs)
    → slice_index_or (map (λ c. Follower c) cs) k (Port p) ≡ Port p → ⊥
no_follower [] p k there is = omega (arith, there)
no_follower (c ∷ cs) p zero there is = cc
no_follower (c ∷ cs) p (suc k) there is = no_follower cs p k (omega (arith, there)) is

-- a port among so many has a number among theirs
port-among : (n a p k : ℕ) → k < length (map (λ q. Port q) (range_with_len a n))
    → slice_index_or (map (λ q. Port q) (range_with_len a n)) k (Port p) ≡ Port p → (a ≤ p) × (p < a + n)
port-among zero a p k there is = absurd (omega (arith, there))
port-among (suc n) a p zero there is = let same : a ≡ p = cc in (omega (arith, same), omega (arith, same))
port-among (suc n) a p (suc k) there is =
    let rest = port-among n (a + 1) p k (omega (arith, there)) is in (omega (arith, rest.0), omega (arith, rest.1))

-- a port that acts in a scenario has a number of the scenario's
pub port-there : (s : Scenario) (p : ℕ) → Contains (actors_of s) (Port p) → (1 ≤ p) × (p ≤ length s.ports)
port-there s p all =
    let ports = map (λ q. Port q) (range_with_len 1 (length s.ports)) in
    let followers = map (λ c. Follower c) (range_with_len 0 (follower_count s)) in
    elim (Contains-append_cases (ports ++ followers) (Queries ∷ []) (Port p) all) [
      | inl acting ↦ elim (Contains-append_cases ports followers (Port p) acting) [
        | inl port ↦ let among = port-among (length s.ports) 1 p port.0 port.1 port.2 in (among.0, omega (arith, among.1))
        | inr other ↦ absurd (no_follower (range_with_len 0 (follower_count s)) p other.0 other.1 other.2)
      ]
      | inr asking ↦ absurd (no_query p asking.0 asking.1 asking.2)
    ]
  where
    no_query : (q k : ℕ) → k < length (Queries ∷ []) → slice_index_or (Queries ∷ []) k (Port q) ≡ Port q → ⊥
    no_query q zero there is = cc
    no_query q (suc k) there is = omega (arith, there)

-- before the first entry an actor waits, with all records of its port to come
pub actor-opened : (i : Inside) (s : Scenario) → i.scenario.value ≡ s → IsScenario s → Contains (actors_of s) (Port i.number)
    → i.history.value ≡ [] → i.place ≡ Waits → i.duration ≡ s.options.duration
    → SteererRepresents i.steerer (servo_of s.options) []
    → QueueRepresents i.records (filter (λ (r : Record). r.port == i.number) s.records) → IsPortActor i
actor-opened i s made rules all none waits duration servo records =
    let of : (P : Scenario → Type 0) → P s → P i.scenario.value = λ P x. subst P (sym made) x in
    let empty : [] ≡ history_of i = ap (λ (es : List Entry). reverse es) (sym none) in
    let number = port-there s i.number all in
    record {
      rules = of IsScenario rules;
      first = number.0;
      there = of (λ x. i.number ≤ length x.ports) number.1;
      history = subst (Continues i.scenario.value) empty tt;
      exchanges = [];
      place_is = subst (λ (es : List Entry). i.place ≡ place_by_entries i.scenario.value.options i.number es) empty waits;
      askable = subst IsPlaceAskable (sym waits) tt;
      servo =
          subst (λ (es : List Entry). SteererRepresents i.steerer (servo_of i.scenario.value.options) (port_samples i.number es)) empty
          (of (λ x. SteererRepresents i.steerer (servo_of x.options) []) servo);
      records =
          subst (λ (es : List Entry). QueueRepresents i.records (records_left i.scenario.value i.number es)) empty
          (of (λ x. QueueRepresents i.records (filter (λ (r : Record). r.port == i.number) x.records)) records);
      duration_is = of (λ x. i.duration ≡ x.options.duration) duration;
    }
