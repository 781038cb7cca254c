-- What one step of an actor makes of it and of its hub.
use Rattle.std.specs.Prelude.{◌≡◌, ℕ, ◌⊎◌, ◌<◌, ◌≤◌, List, length, slice_get, slice_set, Some}
use Rattle.ptp_base.specs.declared.limits.TheConstants.{ENTRIES_MAX}
use Rattle.bc_history.specs.Run.World.{End, Ended, Events as Too_many, Going, Status, World, free_steps, step_of, take_step}
use Rattle.hub_core.specs.HubView.{HubState}
use Rattle.hub_core.specs.declared.hub.HubError.{HubError}
use Rattle.hub_core.specs.declared.hub.HubError.TheVariants.{NoMemory, Events}
use Rattle.bc_steps.specs.ActorView.{ActorState, AddsOwn, IsIn, IsLevel, IsJobDue, IsPlaceOf, IsSameActor, IsSameHistory, world_with}
use Rattle.bc_replay.specs.ActorLoop.{steps_left}

-- in each World in which hub and actor stand the actor's next step leads there, however the scenario
-- would end without one
abbrev pub StepLeadsTo : HubState → ActorState → (World → Status) → Type 0
StepLeadsTo hub a next =
    (w : World) (end : End) → IsIn w hub a
    → take_step w end (step_of hub.scenario w a.who) ≡ next w

-- a step of an actor makes this of both
pub record StepYields (hub : HubState) (a : ActorState) (new : HubState) (b : ActorState) : Type 0 where
  pub going : StepLeadsTo hub a (λ w. Going (world_with w new b))
  pub history : AddsOwn a.who hub new ⊎ IsSameHistory hub new
  pub few : length new.entries ≤ ENTRIES_MAX
  pub level : IsLevel new b
  pub actor : IsSameActor a b
  pub kind : IsPlaceOf b.who b.place
  pub job : IsJobDue b.scenario b.place
  pub fewer : steps_left new (free_steps b.place) < steps_left hub (free_steps a.place)

-- why an actor took no step; want of memory has no cause that is told
abbrev pub IsStepError : HubState → ActorState → HubError → Type 0
IsStepError hub a NoMemory = Unit {0}
IsStepError hub a Events = StepLeadsTo hub a (λ w. Ended Too_many)

-- the actor of index i took its next step, which made this of all
pub record TurnYields (hub : HubState) (actors : List ActorState) (i : ℕ) (new : HubState) (actors_after : List ActorState) : Type 0 where
  pub actor : ActorState
  pub there : slice_get actors i ≡ Some actor
  pub after : ActorState
  pub step : StepYields hub actor new after
  pub others : actors_after ≡ slice_set actors i after

-- why the actor of index i took no step
abbrev pub IsTurnError : HubState → List ActorState → ℕ → HubError → Type 0
IsTurnError hub actors i error =
    (a : ActorState) → slice_get actors i ≡ Some a → IsStepError hub a error
