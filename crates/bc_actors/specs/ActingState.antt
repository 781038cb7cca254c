-- A hub and all who act in its scenario, between the steps of a run by threads.
use Rattle.std.specs.Prelude.{◌≡◌, ◌<◌, ◌≤◌, ℕ, ◌+◌, List, All, length, Result, Ok, Err}
use Rattle.bc_history.specs.declared.scenario.Scenario.{Scenario}
use Rattle.bc_history.specs.Run.Actors.{actors_of}
use Rattle.bc_history.specs.Run.World.{World}
use Rattle.bc_history.specs.Scenario.ScenarioRules.{IsScenario}
use Rattle.run_legal.specs.Runs.NamedChanges.{AreNamedSoFar}
use Rattle.run_legal.specs.Runs.WorldInvariant.{IsRight}
use Rattle.bc_windows.specs.Windows.{BeganEmpty}
use Rattle.hub_core.specs.HubView.{HubState}
use Rattle.hub_core.specs.declared.hub.HubError.{HubError}
use Rattle.bc_steps.specs.ActorView.{ActorState, IsSameHistory}
use Rattle.bc_replay.specs.ActorLoop.{AllStandIn}
use Rattle.bc_actors.specs.OptionWindows.{IsOneWindow}
use Rattle.bc_actors.specs.declared.acting.Turn.{Turn}
use Rattle.bc_actors.specs.declared.acting.Turn.TheVariants.{Event, Free, Idle}

-- the hub and all who act
pub record ActingState : Type 0 where
  pub hub : HubState
  pub actors : List ActorState

-- the hub was given windows of the option, from no entries on
pub record HasOptionWindows (s : Scenario) (hub : HubState) : Type 0 where
  pub some : 0 < length hub.windows
  pub one : All (IsOneWindow s) hub.windows
  pub began : BeganEmpty hub.windows

-- the run so far is open and lies in windows of the option, and each actor is at the place that its
-- entries and free steps give
pub record IsActing (s : Scenario) (a : ActingState) : Type 0 where
  pub rules : IsScenario s
  pub world : World
  pub all : AllStandIn s world a.hub a.actors
  pub right : IsRight s world
  pub named : AreNamedSoFar s world
  pub windows : HasOptionWindows s a.hub

-- the number of one who acts, from 1
abbrev pub IsNumberOf : Scenario → ℕ → Type 0
IsNumberOf s number = (1 ≤ number) × (number ≤ length (actors_of s))

-- what a turn made of the hub
abbrev pub TurnMakes : HubState → HubState → Turn → Type 0
TurnMakes old new (Event entry) =
    (entry ≡ length new.entries) × (entry ≡ length old.entries + 1)
TurnMakes old new Free = IsSameHistory old new
TurnMakes old new Idle = new ≡ old

-- the index of the entry that a turn added, 0 where it added none
abbrev pub entry_of : Result Turn HubError → ℕ
entry_of (Ok (Event entry)) = entry
entry_of (Ok Free) = 0
entry_of (Ok Idle) = 0
entry_of (Err error) = 0
