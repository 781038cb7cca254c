-- The decisions of a history: which entries raise one, and what the last one saw.
use Rattle.std.specs.Prelude.{Bool, false, List, [], ◌∷◌, Option, Some, None}
use Rattle.ptp_base.specs.declared.announcement.Announcement.{Announcement}
use Rattle.bc_history.specs.declared.entry.Entry.{Entry}
use Rattle.bc_history.specs.declared.port_input.PortEntry.{PortEntry}
use Rattle.bc_history.specs.declared.scenario.Options.{Options}
use Rattle.bc_history.specs.declared.scenario.Scenario.{Scenario}
use Rattle.bc_history.specs.Phases.Inputs.{event_of}
use Rattle.bc_history.specs.Phases.State.{Core, Event, State}
use Rattle.bc_history.specs.Phases.Step.{core_between, port_entry, state_of}
use Rattle.bc_ports.specs.ClockYield.{raises_at}
use Rattle.bc_ports.specs.DecisionCost.{last_bests, no_bests}

-- an entry of a port raises a decision where its phase says so; no other entry raises one
abbrev pub is_deciding_at : Options → Core → Option PortEntry → Bool
is_deciding_at o c None = false
is_deciding_at o c (Some e) = raises_at o e c

-- an entry raises a decision, after a history that gave h
abbrev pub is_deciding : Options → State → Event → Bool
is_deciding o h e = is_deciding_at o h.core (port_entry h e)

-- each port's Erbest at the last decision once the entry is taken, where former are those before it
abbrev pub bests_after : Options → State → Event → (former : List (Option Announcement)) → List (Option Announcement)
bests_after o h e former =
    last_bests (is_deciding o h e) (core_between o h e).moment (core_between o h e).ports former

-- each port's Erbest at the last decision of a history, the newest entry first; no port has one
-- before the first decision
unfoldable pub decided_bests : Scenario → List Entry → List (Option Announcement)
decided_bests s [] = no_bests s.ports
decided_bests s (e ∷ before) =
    bests_after s.options (state_of s before) (event_of e) (decided_bests s before)
