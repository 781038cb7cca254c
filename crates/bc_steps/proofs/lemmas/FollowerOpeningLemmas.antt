-- A follower that acts before its first entry.
use Rattle.std.proofs.Common.{◌≡◌, ◌<◌, ℕ, zero, suc, ◌+◌, sym, ap, subst, arith, inl, inr, List, [], ◌∷◌, ◌++◌, length, map, reverse}
use Rattle.std.specs.Prelude.{slice_index_or, Contains}
use Rattle.std.specs.List.{range_with_len}
use Rattle.std.proofs.lemmas.List.Elements.{Contains-append_cases, Contains-append_left, Contains-append_right}
use Rattle.std.proofs.lemmas.List.FromFn.{get_or-map-range_with_len, length-map-range_with_len}
use Rattle.pi_servo.specs.SteererView.{SteererRepresents}
use Rattle.bc_history.specs.declared.entry.Entry.{Entry}
use Rattle.bc_history.specs.declared.entry.Who.TheVariants.{Port, Follower, Queries}
use Rattle.bc_history.specs.declared.place.FollowerPlace.{FollowerPlace}
use Rattle.bc_history.specs.declared.place.FollowerPlace.TheVariants.{Turns}
use Rattle.bc_history.specs.declared.scenario.Scenario.{Scenario}
use Rattle.bc_history.specs.Phases.OpeningState.{follower_count, servo_of}
use Rattle.bc_history.specs.Run.Actors.{actors_of}
use Rattle.bc_history.specs.Run.FollowerEntries.{turns_by}
use Rattle.bc_history.specs.Run.FollowerPlace.{follower_place_by_entries}
use Rattle.bc_history.specs.Run.History.{IsHistory}
use Rattle.bc_history.specs.Run.Samples.{follower_samples}
use Rattle.bc_history.specs.Scenario.ScenarioRules.{IsScenario}
use Rattle.bc_steps.specs.FollowerActors.{IsFollowerActor, follower_history}
use Rattle.bc_steps.specs.FollowerJob.{IsJobAskable, IsKept, samples_taken}
use Rattle.bc_steps.specs.declared.follower.actor.FollowerActor.TheInside.{Inside}

-- no port is a follower
no_port : (ps : List ℕ) (c k : ℕ) → k < length (map (λ p. Port p) ps)
    → slice_index_or (map (λ p. Port p) ps) k (Follower c) ≡ Follower c → ⊥
no_port [] c k there is = omega (arith, there)
no_port (p ∷ ps) c zero there is = cc
no_port (p ∷ ps) c (suc k) there is = no_port ps c k (omega (arith, there)) is

-- a follower among so many has a number among theirs
follower-among : (n a c k : ℕ) → k < length (map (λ d. Follower d) (range_with_len a n))
    → slice_index_or (map (λ d. Follower d) (range_with_len a n)) k (Follower c) ≡ Follower c → c < a + n
follower-among zero a c k there is = absurd (omega (arith, there))
follower-among (suc n) a c zero there is = let same : a ≡ c = cc in omega (arith, same)
follower-among (suc n) a c (suc k) there is =
    let rest = follower-among n (a + 1) c k (omega (arith, there)) is in omega (arith, rest)

-- a follower that acts in a scenario is one of the scenario's
pub follower-there : (s : Scenario) (c : ℕ) → Contains (actors_of s) (Follower c) → c < follower_count s
follower-there s c all =
    let ports = map (λ p. Port p) (range_with_len 1 (length s.ports)) in
    let followers = map (λ d. Follower d) (range_with_len 0 (follower_count s)) in
    elim (Contains-append_cases (ports ++ followers) (Queries ∷ []) (Follower c) all) [
      | inl acting ↦ elim (Contains-append_cases ports followers (Follower c) acting) [
        | inl port ↦ absurd (no_port (range_with_len 1 (length s.ports)) c port.0 port.1 port.2)
        | inr other ↦
            let among = follower-among (follower_count s) 0 c other.0 other.1 other.2 in omega (arith, among)
      ]
      | inr asking ↦ absurd (no_query c asking.0 asking.1 asking.2)
    ]
  where
    no_query : (d k : ℕ) → k < length (Queries ∷ []) → slice_index_or (Queries ∷ []) k (Follower d) ≡ Follower d → ⊥
    no_query d zero there is = cc
    no_query d (suc k) there is = omega (arith, there)

-- a follower of a scenario acts in it
pub follower-acts : (s : Scenario) (c : ℕ) → c < follower_count s → Contains (actors_of s) (Follower c)
follower-acts s c lt =
    let ports = map (λ p. Port p) (range_with_len 1 (length s.ports)) in
    let followers = map (λ d. Follower d) (range_with_len 0 (follower_count s)) in
    let long : length followers ≡ follower_count s = length-map-range_with_len (λ d. Follower d) 0 (follower_count s) in
    let here : Contains followers (Follower c) =
    (c, omega (arith, long, lt), get_or-map-range_with_len (λ d. Follower d) 0 (follower_count s) c c (Follower c) lt (omega arith)) in
    Contains-append_left (ports ++ followers) (Queries ∷ []) (Follower c) (Contains-append_right ports followers (Follower c) here)

-- before the first entry a follower is at its first turn
pub follower-opened : (i : Inside) (s : Scenario) → i.scenario.value ≡ s → IsScenario s → Contains (actors_of s) (Follower i.clock)
    → i.history.value ≡ [] → i.turns ≡ 0 → i.place ≡ Turns → i.interval ≡ s.options.follow_interval → i.duration ≡ s.options.duration
    → SteererRepresents i.follower.steerer (servo_of s.options) [] → IsFollowerActor i
follower-opened i s made rules all none turns place interval duration servo =
    let of : (P : Scenario → Type 0) → P s → P i.scenario.value = λ P x. subst P (sym made) x in
    let empty : [] ≡ follower_history i = ap (λ (es : List Entry). reverse es) (sym none) in
    record {
      rules = of IsScenario rules;
      there = of (λ x. i.clock < follower_count x) (follower-there s i.clock all);
      history = subst (λ (es : List Entry). IsHistory i.scenario.value es) empty (record { few = omega arith; continues = tt });
      steps = [];
      place_is = subst (λ (es : List Entry). i.place ≡ follower_place_by_entries i.clock es) empty place;
      askable = subst IsJobAskable (sym place) tt;
      kept = subst (λ (p : FollowerPlace). IsKept p i.theirs) (sym place) tt;
      servo =
          subst (λ (p : FollowerPlace). SteererRepresents i.follower.steerer (servo_of i.scenario.value.options) (samples_taken p (follower_samples i.clock (follower_history i))))
          (sym place)
          (subst (λ (es : List Entry). SteererRepresents i.follower.steerer (servo_of i.scenario.value.options) (follower_samples i.clock es)) empty
          (of (λ x. SteererRepresents i.follower.steerer (servo_of x.options) []) servo));
      turns_are = subst (λ (es : List Entry). i.turns ≡ turns_by i.clock es) empty turns;
      interval_is = of (λ x. i.interval ≡ x.options.follow_interval) interval;
      duration_is = of (λ x. i.duration ≡ x.options.duration) duration;
    }
