-- How many comparisons of announcements an event of a hub takes at most.
use Rattle.std.specs.Prelude.{ℕ, Bool, List, Option}
use Rattle.ptp_base.specs.declared.announcement.Announcement.{Announcement}
use Rattle.bc_history.specs.declared.entry.Input.{Input}
use Rattle.bc_history.specs.declared.scenario.Scenario.{Scenario}
use Rattle.bc_history.specs.declared.entry.Entry.{Entry}
use Rattle.bc_history.specs.Phases.State.{Core, Event}
use Rattle.bc_history.specs.Phases.Step.{core_between, state_of}
use Rattle.bc_ports.specs.DecisionCost.{IsCounted, bests_at, hearing_cost}
use Rattle.hub_core.specs.DecisionHistory.{decided_bests, is_deciding}
use Rattle.hub_core.specs.HubView.{HubState, reading_at}

-- an input with the reading that comes with it
abbrev pub event_at : HubState → Input → Event
event_at h input = record { input = input; seen = reading_at h input }

-- the input raises a decision
abbrev pub decides : HubState → Input → Bool
decides h input = is_deciding h.scenario.options (state_of h.scenario h.entries) (event_at h input)

-- ports and data sets once the input's own port took it, before a decision
abbrev pub core_deciding : HubState → Input → Core
core_deciding h input =
    core_between h.scenario.options (state_of h.scenario h.entries) (event_at h input)

-- each port's Erbest when the input's own port took it
abbrev pub present_bests : HubState → Input → List (Option Announcement)
present_bests h input = bests_at (core_deciding h input).moment (core_deciding h input).ports

-- each port's Erbest at the hub's last decision
abbrev pub former_bests : HubState → List (Option Announcement)
former_bests h = decided_bests h.scenario h.entries

-- 15 comparisons and 15 more for each port whose Erbest takes a pass
abbrev pub few_comparisons : HubState → Input → ℕ
few_comparisons h input = hearing_cost (core_deciding h input).moment (core_deciding h input).ports

-- the count of comparisons of an entry after a history, from before it to after it
abbrev pub IsCountedAt : Scenario → List Entry → Event → ℕ → ℕ → Type 0
IsCountedAt s entries e before after =
    IsCounted (is_deciding s.options (state_of s entries) e)
    (core_between s.options (state_of s entries) e).moment
    (core_between s.options (state_of s entries) e).ports
    (decided_bests s entries) before after
