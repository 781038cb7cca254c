-- Whose turn it is among the actors: by a search, and by the default rule.
use Rattle.std.proofs.Common.{◌≡◌, ℕ, ◌+◌, ◌≤◌, Bool, true, false, cond, ltb, refl, ap, ◌∙◌, subst, sym, List, [], ◌∷◌, ◌++◌, length, take, filter, Option, Some, None, slice_get}
use Rattle.std.specs.Prelude.{option_map, MatchOption}
use Rattle.std.specs.Option.{option_or}
use Rattle.std.proofs.lemmas.List.{append-nil, take_all}
use Rattle.std.proofs.lemmas.List.Elements.{filter-append, filter_map-append}
use Rattle.std.proofs.lemmas.List.Sums.{fold-append}
use Rattle.ptp_base.specs.Least.{first_least, lesser}
use Rattle.bc_history.specs.Run.World.{Candidate, is_busy}
use Rattle.hub_core.specs.HubView.{HubState}
use Rattle.bc_steps.specs.ActorView.{ActorState, due_tick}
use Rattle.bc_history.specs.declared.scenario.Turner.TheVariants.{Default}
use Rattle.bc_replay.specs.ActorTurns.{HasNoTurn, IsTurnOf, candidate_by, due_actor, due_actors}
use Rattle.bc_replay.proofs.lemmas.ActorListLemmas.{take-more}

-- the first of the least candidates
abbrev pub first_candidate : List Candidate → Option Candidate
first_candidate all = first_least (λ (c : Candidate). c.tick) all

-- those in the middle of their job
abbrev pub busy_of : List Candidate → List Candidate
busy_of all = filter (λ (c : Candidate). c.busy) all

-- an index and a tick are of the actor who is first of the candidates
pub record IsFirstActor (hub : HubState) (actors : List ActorState) (all : List Candidate) (best : ℕ × ℕ) : Type 0 where
  pub actor : ActorState
  pub there : slice_get actors best.0 ≡ Some actor
  pub due : due_tick hub actor ≡ Some best.1
  pub first : first_candidate all ≡ Some (candidate_by actor best.1)

-- the best so far is the first of the candidates so far
abbrev pub BestRepresents : HubState → List ActorState → List Candidate → Option (ℕ × ℕ) → Type 0
BestRepresents hub actors all None = first_candidate all ≡ None
BestRepresents hub actors all (Some best) = IsFirstActor hub actors all best

-- the earlier of two by their ticks
abbrev earlier : Option (ℕ × ℕ) → ℕ × ℕ → Option (ℕ × ℕ)
earlier = lesser (λ (at : ℕ × ℕ). at.1)

-- ---- one candidate more

first-more : (all : List Candidate) (c : Candidate) → first_candidate (all ++ c ∷ []) ≡ lesser (λ (d : Candidate). d.tick) (first_candidate all) c
first-more all c = fold-append (lesser (λ (d : Candidate). d.tick)) None all (c ∷ [])

-- of a former best and a new one, by the test
one_of : (less : Bool) (hub : HubState) (actors : List ActorState) (all more : List Candidate) (i t : ℕ) (a : ActorState) (best : ℕ × ℕ)
    → slice_get actors i ≡ Some a → due_tick hub a ≡ Some t → (former : IsFirstActor hub actors all best)
    → first_candidate more ≡ cond less (Some (candidate_by a t)) (Some (candidate_by former.actor best.1))
    → BestRepresents hub actors more (cond less (Some (i, t)) (Some best))
one_of true hub actors all more i t a best there due former is = record { actor = a; there = there; due = due; first = is }
one_of false hub actors all more i t a best there due former is = record { actor = former.actor; there = former.there; due = former.due; first = is }

best-taken : (hub : HubState) (actors : List ActorState) (all : List Candidate) (best : Option (ℕ × ℕ)) (i t : ℕ) (a : ActorState) → slice_get actors i ≡ Some a → due_tick hub a ≡ Some t
    → BestRepresents hub actors all best → BestRepresents hub actors (all ++ candidate_by a t ∷ []) (earlier best (i, t))
best-taken hub actors all None i t a there due none = record {
  actor = a;
  there = there;
  due = due;
  first = first-more all (candidate_by a t) ∙ ap (λ (o : Option Candidate). lesser (λ (d : Candidate). d.tick) o (candidate_by a t)) none;
}
best-taken hub actors all (Some best) i t a there due former =
    one_of (ltb t best.1) hub actors all (all ++ candidate_by a t ∷ []) i t a best there due former
    (first-more all (candidate_by a t) ∙ ap (λ (o : Option Candidate). lesser (λ (d : Candidate). d.tick) o (candidate_by a t)) former.first)

-- the search took a candidate
pub best-more : (hub : HubState) (actors : List ActorState) (all more : List Candidate) (best result : Option (ℕ × ℕ)) (i t : ℕ) (a : ActorState) → slice_get actors i ≡ Some a → due_tick hub a ≡ Some t
    → more ≡ all ++ candidate_by a t ∷ [] → result ≡ earlier best (i, t) → BestRepresents hub actors all best → BestRepresents hub actors more result
best-more hub actors all more best result i t a there due more_is is best_is = rw (more_is, is) (best-taken hub actors all best i t a there due best_is)

-- the search took none
pub best-same : (hub : HubState) (actors : List ActorState) (all more : List Candidate) (best result : Option (ℕ × ℕ)) → more ≡ all → result ≡ best → BestRepresents hub actors all best → BestRepresents hub actors more result
best-same hub actors all more best result same is best_is = rw (same, is) best_is

-- ---- one actor more

due-more : (hub : HubState) (actors : List ActorState) (i : ℕ) (a : ActorState) → slice_get actors i ≡ Some a
    → due_actors hub (take (i + 1) actors) ≡ due_actors hub (take i actors) ++ due_actors hub (a ∷ [])
due-more hub actors i a there =
    ap (due_actors hub) (take-more actors i a there) ∙ filter_map-append (due_actor hub) (take i actors) (a ∷ [])

-- an actor that has no step
pub due-none : (hub : HubState) (actors : List ActorState) (i : ℕ) (a : ActorState) → slice_get actors i ≡ Some a → due_tick hub a ≡ None
    → due_actors hub (take (i + 1) actors) ≡ due_actors hub (take i actors)
due-none hub actors i a there none = due-more hub actors i a there ∙ (rw none (append-nil (due_actors hub (take i actors))))

-- an actor that has one
pub due-some : (hub : HubState) (actors : List ActorState) (i t : ℕ) (a : ActorState) → slice_get actors i ≡ Some a → due_tick hub a ≡ Some t
    → due_actors hub (take (i + 1) actors) ≡ due_actors hub (take i actors) ++ candidate_by a t ∷ []
due-some hub actors i t a there due = due-more hub actors i a there ∙ (rw due refl)

busy-more : (all : List Candidate) (c : Candidate) (busy : Bool) → c.busy ≡ busy → busy_of (all ++ c ∷ []) ≡ busy_of all ++ cond busy (c ∷ []) []
busy-more all c busy is = filter-append (λ (d : Candidate). d.busy) all (c ∷ []) ∙ (rw is refl)

-- one in the middle of its job
pub busy-taken : (hub : HubState) (actors : List ActorState) (i t : ℕ) (a : ActorState) → slice_get actors i ≡ Some a → due_tick hub a ≡ Some t → is_busy a.place ≡ true
    → busy_of (due_actors hub (take (i + 1) actors)) ≡ busy_of (due_actors hub (take i actors)) ++ candidate_by a t ∷ []
busy-taken hub actors i t a there due busy = ap busy_of (due-some hub actors i t a there due) ∙ busy-more (due_actors hub (take i actors)) (candidate_by a t) true busy

-- one that is not
pub busy-passed : (hub : HubState) (actors : List ActorState) (i t : ℕ) (a : ActorState) → slice_get actors i ≡ Some a → due_tick hub a ≡ Some t → is_busy a.place ≡ false
    → busy_of (due_actors hub (take (i + 1) actors)) ≡ busy_of (due_actors hub (take i actors))
busy-passed hub actors i t a there due idle =
    ap busy_of (due-some hub actors i t a there due) ∙ (busy-more (due_actors hub (take i actors)) (candidate_by a t) false idle ∙ append-nil (busy_of (due_actors hub (take i actors))))

-- ---- the turn

-- the turn by the best of those in the middle of their job and the best of all
abbrev TurnRepresents : HubState → List ActorState → Option (ℕ × ℕ) → Type 0
TurnRepresents hub actors best =
    MatchOption (option_map (λ (at : ℕ × ℕ). at.0) best) (HasNoTurn hub actors Default) (IsTurnOf hub actors Default)

turn-by : (hub : HubState) (actors : List ActorState) (busy first : Option (ℕ × ℕ)) → BestRepresents hub actors (busy_of (due_actors hub actors)) busy
    → BestRepresents hub actors (due_actors hub actors) first → TurnRepresents hub actors (option_or busy first)
turn-by hub actors (Some b) first busy_is first_is = record {
  at = record { actor = busy_is.actor; there = busy_is.there; tick = b.1; due = busy_is.due };
  named = rw busy_is.first refl;
}
turn-by hub actors None None none_busy none = rw (none_busy, none) refl
turn-by hub actors None (Some b) none_busy first_is = record {
  at = record { actor = first_is.actor; there = first_is.there; tick = b.1; due = first_is.due };
  named = rw (none_busy, first_is.first) refl;
}

-- where all actors were looked at
pub turn-found : (hub : HubState) (actors : List ActorState) (n : ℕ) (busy first : Option (ℕ × ℕ)) → length actors ≤ n → BestRepresents hub actors (busy_of (due_actors hub (take n actors))) busy
    → BestRepresents hub actors (due_actors hub (take n actors)) first → TurnRepresents hub actors (option_or busy first)
turn-found hub actors n busy first all busy_is first_is =
    let whole : take n actors ≡ actors = take_all n actors all in
    turn-by hub actors busy first
    (subst (λ (seen : List ActorState). BestRepresents hub actors (busy_of (due_actors hub seen)) busy) whole busy_is)
    (subst (λ (seen : List ActorState). BestRepresents hub actors (due_actors hub seen) first) whole first_is)

-- and one was found
pub turn-some : (hub : HubState) (actors : List ActorState) (n i t : ℕ) (busy first best : Option (ℕ × ℕ)) → length actors ≤ n → BestRepresents hub actors (busy_of (due_actors hub (take n actors))) busy
    → BestRepresents hub actors (due_actors hub (take n actors)) first → best ≡ option_or busy first → best ≡ Some (i, t) → IsTurnOf hub actors Default i
turn-some hub actors n i t busy first best all busy_is first_is best_is some =
    subst (λ (o : Option (ℕ × ℕ)). TurnRepresents hub actors o) (sym best_is ∙ some) (turn-found hub actors n busy first all busy_is first_is)
