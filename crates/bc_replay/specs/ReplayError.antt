-- Why a scenario was not replayed.
use Rattle.bc_history.specs.declared.scenario.Scenario.{Scenario}
use Rattle.bc_history.specs.Run.World.{IsEnd, Events as Too_many, Not_due}
use Rattle.hub_core.specs.declared.hub.HubError.{HubError}
use Rattle.hub_core.specs.declared.hub.HubError.TheVariants.{NoMemory as Hub_no_memory, Events as Hub_events}
use Rattle.bc_replay.specs.declared.run.ReplayError.{ReplayError}
use Rattle.bc_replay.specs.declared.run.ReplayError.TheVariants.{NoMemory, Events, NotDue}

-- the hub took no event
abbrev pub by_hub : HubError → ReplayError
by_hub Hub_no_memory = NoMemory
by_hub Hub_events = Events

-- want of memory has no cause that is told
abbrev pub IsReplayError : Scenario → ReplayError → Type 0
IsReplayError s NoMemory = Unit {0}
IsReplayError s Events = IsEnd s Too_many
IsReplayError s (NotDue turn) = IsEnd s (Not_due turn)
