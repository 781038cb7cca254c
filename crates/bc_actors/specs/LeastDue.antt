-- The least tick at which somebody has a step that is due before the run ends.
use Rattle.std.specs.Prelude.{◌≡◌, ◌≤◌, ℕ, List, Option, None, Some, slice_get}
use Rattle.hub_core.specs.HubView.{HubState}
use Rattle.bc_steps.specs.ActorView.{ActorState, due_tick}

-- nobody has a step that is due before the run ends
abbrev pub AreIdle : HubState → List ActorState → Type 0
AreIdle hub actors =
    (i : ℕ) (a : ActorState) → slice_get actors i ≡ Some a → due_tick hub a ≡ None

-- somebody's step is due at the tick, and nobody's before it
pub record IsLeastTick (hub : HubState) (actors : List ActorState) (tick : ℕ) : Type 0 where
  pub index : ℕ
  pub actor : ActorState
  pub there : slice_get actors index ≡ Some actor
  pub due : due_tick hub actor ≡ Some tick
  pub least : (i : ℕ) (a : ActorState) (t : ℕ) → slice_get actors i ≡ Some a
      → due_tick hub a ≡ Some t → tick ≤ t

-- the least tick, where there is one
abbrev pub IsLeastDue : HubState → List ActorState → Option ℕ → Type 0
IsLeastDue hub actors None = AreIdle hub actors
IsLeastDue hub actors (Some tick) = IsLeastTick hub actors tick

-- somebody has a step that is due before the run ends
pub record IsSomebodyDue (hub : HubState) (actors : List ActorState) : Type 0 where
  pub tick : ℕ
  pub least : IsLeastTick hub actors tick
