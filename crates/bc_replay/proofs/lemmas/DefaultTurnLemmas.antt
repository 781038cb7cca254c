-- Only actors of the loop are due: the default rule goes by theirs alone.
use Rattle.std.proofs.Common.{◌≡◌, ℕ, suc, refl, ap, subst, ◌∙◌, List, [], ◌∷◌, map, Option, Some, option_and_then}
use Rattle.std.specs.Prelude.{filter_map, slice_get}
use Rattle.bc_history.specs.declared.entry.Who.{Who}
use Rattle.bc_history.specs.declared.scenario.Scenario.{Scenario}
use Rattle.bc_history.specs.Phases.State.{State}
use Rattle.bc_history.specs.Phases.Step.{state_of}
use Rattle.bc_history.specs.Run.Actors.{actors_of}
use Rattle.bc_history.specs.Run.World.{Candidate, Place, World, candidate_at, candidate_of, candidates, default_turn, place_of}
use Rattle.hub_core.specs.HubView.{HubState}
use Rattle.bc_steps.specs.ActorView.{ActorState}
use Rattle.bc_replay.specs.ActorLoop.{AreIn}
use Rattle.bc_replay.specs.ActorTurns.{due_actor, due_actors, turn_among}

-- ---- actors of the loop

-- each is a candidate of the World as it is by itself
candidates-same : (f : Who → Option Candidate) (hub : HubState) (actors : List ActorState) → ((i : ℕ) (a : ActorState) → slice_get actors i ≡ Some a → f a.who ≡ due_actor hub a)
    → filter_map f (map (λ (a : ActorState). a.who) actors) ≡ due_actors hub actors
candidates-same f hub [] same = refl
candidates-same f hub (a ∷ actors) same =
    rw (same 0 a refl, candidates-same f hub actors (λ i b there. same (suc i) b there)) refl

candidate-place : (s : Scenario) (h : State) (w : World) (who : Who) (place : Place) → place_of w who ≡ Some place → candidate_of s h w who ≡ candidate_at s h who place
candidate-place s h w who place there = ap (λ (at : Option Place). option_and_then (λ (x : Place). candidate_at s h who x) at) there

candidate-same : (hub : HubState) (w : World) (a : ActorState) → w.entries ≡ hub.entries → place_of w a.who ≡ Some a.place
    → candidate_of hub.scenario (state_of hub.scenario w.entries) w a.who ≡ due_actor hub a
candidate-same hub w a entries there =
    candidate-place hub.scenario (state_of hub.scenario w.entries) w a.who a.place there
    ∙ ap (λ es. candidate_at hub.scenario (state_of hub.scenario es) a.who a.place) entries

-- ---- all

-- all candidates are actors of the loop
pub candidates-all : (hub : HubState) (w : World) (actors : List ActorState) → AreIn w hub actors
    → map (λ (a : ActorState). a.who) actors ≡ actors_of hub.scenario → candidates hub.scenario w ≡ due_actors hub actors
candidates-all hub w actors stand acting =
    let s = hub.scenario in
    let h = state_of s w.entries in
    let f : Who → Option Candidate = candidate_of s h w in
    subst (λ (whos : List Who). filter_map f whos ≡ due_actors hub actors) acting
    (candidates-same f hub actors (λ i a there. candidate-same hub w a stand.entries (stand.places i a there)))

-- the default rule
pub turn-all : (hub : HubState) (w : World) (actors : List ActorState) → AreIn w hub actors
    → map (λ (a : ActorState). a.who) actors ≡ actors_of hub.scenario → default_turn hub.scenario w ≡ turn_among (due_actors hub actors)
turn-all hub w actors stand acting = ap turn_among (candidates-all hub w actors stand acting)
