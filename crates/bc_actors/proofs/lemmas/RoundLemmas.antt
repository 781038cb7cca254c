-- Who acts in a round: how many there are, and whose step is due first.
use Rattle.std.proofs.Common.{◌≡◌, ℕ, ◌+◌, ◌<◌, ◌≤◌, Bool, true, false, cond, leb, sym, ap, ◌∙◌, arith, inl, inr, List, length, map, Option, Some, None}
use Rattle.std.specs.Prelude.{slice_get}
use Rattle.std.proofs.lemmas.Bool.{cases_lt}
use Rattle.std.proofs.lemmas.List.{length-map}
use Rattle.std.proofs.lemmas.Option.{slice_get_within}
use Rattle.ptp_base.specs.declared.limits.TheConstants.{CLOCKS_MAX, PORTS_MAX}
use Rattle.bc_history.specs.declared.entry.Who.{Who}
use Rattle.bc_history.specs.declared.scenario.Scenario.{Scenario}
use Rattle.bc_history.specs.Phases.OpeningState.{follower_count}
use Rattle.bc_history.specs.Run.Actors.{actors_of}
use Rattle.hub_core.specs.HubView.{HubState}
use Rattle.bc_steps.specs.ActorView.{ActorState, due_tick}
use Rattle.bc_replay.proofs.lemmas.ActorPlaceLemmas.{acting-length}
use Rattle.bc_actors.specs.LeastDue.{IsLeastDue}

-- ---- how many act

-- no more clocks have followers than there are
followers-few : (s : Scenario) → follower_count s ≤ length s.clocks
followers-few s = by_test (leb 2 (length s.clocks))
  where
    by_test : (b : Bool) → cond b (length s.clocks) 0 ≤ length s.clocks
    by_test true = omega arith
    by_test false = omega arith

-- each number of one who acts is one byte
pub acting-few : (s : Scenario) → length s.ports ≤ PORTS_MAX → length s.clocks ≤ CLOCKS_MAX → length (actors_of s) < 256
acting-few s ports clocks = omega (arith, acting-length s, followers-few s, ports, clocks)

-- the actors of a scenario are as many as who act in it
pub acting-many : (s : Scenario) (actors : List ActorState) → map (λ (a : ActorState). a.who) actors ≡ actors_of s → length actors ≡ length (actors_of s)
acting-many s actors acting = sym (length-map actors (λ (a : ActorState). a.who)) ∙ ap (λ (all : List Who). length all) acting

-- ---- whose step is due first

-- somebody of the first n has a step at the tick, and nobody of them before it
pub record IsLeastTickOf (hub : HubState) (actors : List ActorState) (n tick : ℕ) : Type 0 where
  pub index : ℕ
  pub actor : ActorState
  pub there : slice_get actors index ≡ Some actor
  pub due : due_tick hub actor ≡ Some tick
  pub least : (i : ℕ) (a : ActorState) (t : ℕ) → i < n → slice_get actors i ≡ Some a → due_tick hub a ≡ Some t → tick ≤ t

-- the least tick of the first n, where there is one
abbrev pub IsLeastDueOf : HubState → List ActorState → ℕ → Option ℕ → Type 0
IsLeastDueOf hub actors n None = (i : ℕ) (a : ActorState) → i < n → slice_get actors i ≡ Some a → due_tick hub a ≡ None
IsLeastDueOf hub actors n (Some tick) = IsLeastTickOf hub actors n tick

-- of the first n + 1 the last one is by index n
last-of : (actors : List ActorState) (i n : ℕ) (a b : ActorState) → i ≡ n → slice_get actors i ≡ Some a → slice_get actors n ≡ Some b → b ≡ a
last-of actors i n a b same at there = let both : Some b ≡ Some a = sym there ∙ (ap (slice_get actors) (sym same) ∙ at) in cc

-- the next one has no step
pub least-passed : (hub : HubState) (actors : List ActorState) (n : ℕ) (b : ActorState) (best : Option ℕ) → slice_get actors n ≡ Some b → due_tick hub b ≡ None
    → IsLeastDueOf hub actors n best → IsLeastDueOf hub actors (n + 1) best
least-passed hub actors n b None there none was =
    λ i a below at. elim (cases_lt i n) [
      | inl earlier ↦ was i a earlier at
      | inr last ↦ ap (due_tick hub) (sym (last-of actors i n a b (omega (arith, last, below)) at there)) ∙ none
    ]
least-passed hub actors n b (Some tick) there none was = record {
  index = was.index;
  actor = was.actor;
  there = was.there;
  due = was.due;
  least = λ i a t below at due. elim (cases_lt i n) [
    | inl earlier ↦ was.least i a t earlier at due
    | inr last ↦
        let same : due_tick hub b ≡ due_tick hub a = ap (due_tick hub) (last-of actors i n a b (omega (arith, last, below)) at there) in
        let both : None ≡ Some t = sym none ∙ (same ∙ due) in cc
  ];
}

-- the next one's step is no earlier than the least of those before
pub least-kept : (hub : HubState) (actors : List ActorState) (n next tick : ℕ) (b : ActorState) → slice_get actors n ≡ Some b → due_tick hub b ≡ Some next
    → tick ≤ next → IsLeastTickOf hub actors n tick → IsLeastTickOf hub actors (n + 1) tick
least-kept hub actors n next tick b there is le was = record {
  index = was.index;
  actor = was.actor;
  there = was.there;
  due = was.due;
  least = λ i a t below at due. elim (cases_lt i n) [
    | inl earlier ↦ was.least i a t earlier at due
    | inr last ↦
        let same : due_tick hub b ≡ due_tick hub a = ap (due_tick hub) (last-of actors i n a b (omega (arith, last, below)) at there) in
        let both : Some next ≡ Some t = sym is ∙ (same ∙ due) in
        let ticks : next ≡ t = cc in
        omega (arith, ticks, le)
  ];
}

-- no tick of those before is below the next one's
abbrev pub IsBelowBest : ℕ → Option ℕ → Type 0
IsBelowBest next None = Unit {0}
IsBelowBest next (Some tick) = next ≤ tick

-- the next one's step is the earliest
pub least-taken : (hub : HubState) (actors : List ActorState) (n next : ℕ) (b : ActorState) (best : Option ℕ) → slice_get actors n ≡ Some b → due_tick hub b ≡ Some next
    → IsBelowBest next best → IsLeastDueOf hub actors n best → IsLeastTickOf hub actors (n + 1) next
least-taken hub actors n next b best there is below_best was = record {
  index = n;
  actor = b;
  there = there;
  due = is;
  least = λ i a t below at due. elim (cases_lt i n) [
    | inl earlier ↦ before best was below_best i a t earlier at due
    | inr last ↦
        let same : due_tick hub b ≡ due_tick hub a = ap (due_tick hub) (last-of actors i n a b (omega (arith, last, below)) at there) in
        let both : Some next ≡ Some t = sym is ∙ (same ∙ due) in
        let ticks : next ≡ t = cc in
        omega (arith, ticks)
  ];
}
  where
    before : (best : Option ℕ) → IsLeastDueOf hub actors n best → IsBelowBest next best → (i : ℕ) (a : ActorState) (t : ℕ) → i < n → slice_get actors i ≡ Some a → due_tick hub a ≡ Some t → next ≤ t
    before None none low i a t earlier at due = let both : None ≡ Some t = sym (none i a earlier at) ∙ due in cc
    before (Some tick) former le i a t earlier at due = omega (arith, le, former.least i a t earlier at due)

-- where all were looked at
pub least-found : (hub : HubState) (actors : List ActorState) (n : ℕ) (best : Option ℕ) → length actors ≤ n → IsLeastDueOf hub actors n best → IsLeastDue hub actors best
least-found hub actors n None all was = λ i a at. was i a (omega (arith, slice_get_within actors i a at, all)) at
least-found hub actors n (Some tick) all was = record {
  index = was.index;
  actor = was.actor;
  there = was.there;
  due = was.due;
  least = λ i a t at due. was.least i a t (omega (arith, slice_get_within actors i a at, all)) at due;
}
