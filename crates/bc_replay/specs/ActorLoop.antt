-- Where a loop over the actors beside a hub stands: where the World is after some number of turns.
use Rattle.std.specs.Prelude.{◌≡◌, ℕ, ◌+◌, ◌-◌, ◌*◌, ◌≤◌, List, [], length, map, slice_get, Some, None}
use Rattle.std.specs.List.{sum_by}
use Rattle.ptp_base.specs.declared.limits.TheConstants.{ENTRIES_MAX}
use Rattle.bc_history.specs.declared.entry.Who.{Who}
use Rattle.bc_history.specs.declared.scenario.Scenario.{Scenario}
use Rattle.bc_history.specs.Run.Actors.{actors_of}
use Rattle.bc_history.specs.Run.World.{Going, World, free_steps, place_of, status_after, turner_at}
use Rattle.hub_core.specs.HubView.{HubState}
use Rattle.bc_steps.specs.ActorView.{ActorState, IsJobDue, IsLevel, place_at_opening}

-- an actor of a scenario before its first step
abbrev pub actor_at_opening : Scenario → Who → ActorState
actor_at_opening s who =
    record { scenario = s; who = who; entries = []; place = place_at_opening who }

-- each actor has its entries in the hub
abbrev pub AreLevel : HubState → List ActorState → Type 0
AreLevel hub actors = (i : ℕ) (a : ActorState) → slice_get actors i ≡ Some a → IsLevel hub a

-- each actor in the middle of its job goes on with it before the run ends
abbrev pub AreJobsDue : Scenario → List ActorState → Type 0
AreJobsDue s actors =
    (i : ℕ) (a : ActorState) → slice_get actors i ≡ Some a → IsJobDue s a.place

-- the World has the hub's entries and logs, and each actor where it is
pub record AreIn (w : World) (hub : HubState) (actors : List ActorState) : Type 0 where
  pub entries : w.entries ≡ hub.entries
  pub logs : w.logs ≡ hub.logs
  pub places : (i : ℕ) (a : ActorState) → slice_get actors i ≡ Some a
      → place_of w a.who ≡ Some a.place

-- the readings and exchanges that the actors make before their next events
abbrev pub free_steps_of : List ActorState → ℕ
free_steps_of actors = sum_by (λ (a : ActorState). free_steps a.place) actors

-- at most so many steps are left, where so many readings and exchanges come before the next events:
-- behind each event there are at most three
abbrev pub steps_left : HubState → ℕ → ℕ
steps_left hub free = 4 * (ENTRIES_MAX - length hub.entries) + free

-- hub and actors, who are all that act in the scenario, stand in a World
pub record AllStandIn (s : Scenario) (w : World) (hub : HubState) (actors : List ActorState) : Type 0 where
  pub scenario : hub.scenario ≡ s
  pub few : length hub.entries ≤ ENTRIES_MAX
  pub acting : map (λ (a : ActorState). a.who) actors ≡ actors_of s
  pub level : AreLevel hub actors
  pub jobs : AreJobsDue s actors
  pub stand : AreIn w hub actors

-- hub and actors stand where the World of the scenario does after so many turns; no window was
-- given
pub record LoopRepresents (s : Scenario) (taken : ℕ) (hub : HubState) (actors : List ActorState) : Type 0 where
  pub world : World
  pub all : AllStandIn s world hub actors
  pub unbounded : hub.windows ≡ []
  pub bound : taken + steps_left hub (free_steps_of actors) ≤ 4 * ENTRIES_MAX
  pub going : status_after s taken ≡ Going world

-- no line of the schedule is behind so many turns
abbrev pub IsPastSchedule : Scenario → ℕ → Type 0
IsPastSchedule s taken = (n : ℕ) → taken ≤ n → turner_at s.turns n ≡ None

-- hub and actors stand so after all turns of the schedule and some of the default rule
pub record IsUnscheduledLoop (s : Scenario) (hub : HubState) (actors : List ActorState) : Type 0 where
  pub taken : ℕ
  pub loop : LoopRepresents s taken hub actors
  pub past : IsPastSchedule s taken
