-- A hub: its scenario, its history and the clocks' logs; and what an event adds to it.
use Rattle.std.specs.Prelude.{◌≡◌, ℕ, ◌≤◌, ◌%◌, true, List, [], ◌∷◌, length, reverse, is_some, All, IfSome, Option, None, Result, Ok, Err}
use Rattle.model_clock.specs.Clock.{clock_at}
use Rattle.ptp_profile.specs.declared.seats.LogEntry.{LogEntry}
use Rattle.ptp_profile.specs.declared.seats.Reading.{Reading}
use Rattle.ptp_profile.specs.declared.seats.Receipt.{Receipt}
use Rattle.ptp_profile.specs.declared.seats.Refused.{Refused}
use Rattle.ptp_profile.specs.Roles.SeatLogs.{AreLawful, log_at, no_logs, whole_reading, with_log_entry, with_orders}
use Rattle.ptp_profile.specs.declared.seats.Held.{Held}
use Rattle.ptp_profile.specs.declared.timing.Measure.{Measure}
use Rattle.bc_history.specs.declared.entry.Effects.{Effects}
use Rattle.bc_history.specs.declared.entry.Entry.{Entry}
use Rattle.bc_history.specs.declared.entry.Input.{Input}
use Rattle.bc_history.specs.declared.entry.Input.TheVariants.{Down}
use Rattle.bc_history.specs.declared.entry.Seen.{Seen}
use Rattle.bc_history.specs.declared.scenario.Scenario.{Scenario}
use Rattle.bc_history.specs.Phases.EntryEffects.{entry_after}
use Rattle.bc_history.specs.Run.History.{IsHistory}
use Rattle.bc_history.specs.Phases.Inputs.{IsReadTime, IsTime, port_of, tick_of}
use Rattle.bc_history.specs.Scenario.ScenarioRules.{IsScenario}
use Rattle.bc_history.specs.Phases.Step.{state_of}
use Rattle.bc_windows.specs.Windows.{IsInBound, IsMadeBy, Window}
use Rattle.ptp_profile.specs.Best.StateDecision.{bests_of}
use Rattle.hub_core.specs.DecisionHistory.{decided_bests}
use Rattle.hub_core.specs.GivenWindows.{windows_of}
use Rattle.hub_core.specs.HubParts.{PartsRepresent}
use Rattle.hub_core.specs.PortReading.{input_seen}
use Rattle.hub_core.specs.declared.adjust.PlainRefused.{PlainRefused}
use Rattle.hub_core.specs.declared.adjust.PlainRefused.TheVariants.{NoMemory as Lacks, Refused as Is_refused}
use Rattle.hub_core.specs.declared.hub.Hub.TheInside.{Inside}

-- entries, logs and the windows that it was given have the newest first; the logs are by rising clock
pub record HubState : Type 0 where
  pub scenario : Scenario
  pub entries : List Entry
  pub logs : List (List LogEntry)
  pub windows : List Window

-- before the first entry
abbrev pub hub_at_opening : Scenario → HubState
hub_at_opening s = record { scenario = s; entries = []; logs = no_logs s.clocks; windows = [] }

-- the input is a port's own
abbrev pub IsPortInput : Input → Type 0
IsPortInput input = is_some (port_of input) ≡ true

-- the entry that an input makes with a reading
abbrev pub entry_by : HubState → Input → Option Seen → Entry
entry_by h input seen = entry_after h.scenario h.entries input seen

-- the hub after an entry: it is the newest, and its orders are the newest of the logs
abbrev pub with_entry : HubState → Entry → HubState
with_entry h e = record h { entries = e ∷ h.entries; logs = with_orders h.logs e.effects.orders }

-- the reading of the newest entry, if there is one
abbrev pub newest_seen : List Entry → Option Seen
newest_seen [] = None
newest_seen (e ∷ before) = e.seen

-- the reading that comes with an input: that of its port's clock, after all entries of the clock's
-- log
abbrev pub reading_at : HubState → Input → Option Seen
reading_at h input = input_seen h.scenario h.logs input

-- the orders of each clock's log are the history's, all and in order, and each change bears the
-- stamp in force before it
abbrev pub AreLawfulLogs : HubState → Type 0
AreLawfulLogs h = AreLawful (state_of h.scenario h.entries).roles.orders h.logs

-- a clock of a hub after all entries of its log, with the stamp in force
abbrev pub clock_reading : HubState → ℕ → Reading
clock_reading h clock =
    whole_reading (clock_at h.scenario.clocks clock) (log_at h.logs clock)

-- the hub once a change was taken: it is the newest entry of its clock's log
abbrev pub with_change : HubState → ℕ → LogEntry → HubState
with_change h clock change = record h { logs = with_log_entry h.logs clock change }

-- the hub once another window was given, which begins with its history
abbrev pub with_window : HubState → ℕ → HubState
with_window h end =
    record h { windows = record { end = end; begun = h.entries } ∷ h.windows }

-- the hub takes an input up to the end of its present window
abbrev pub IsInWindow : HubState → Input → Type 0
IsInWindow h input = IsInBound h.windows (tick_of input)

-- what an exchange is answered, where there is memory for it
abbrev pub IsAnswerOf : Result Receipt Refused → Result Receipt PlainRefused → Type 0
IsAnswerOf due (Ok receipt) = due ≡ Ok receipt
IsAnswerOf due (Err (Is_refused refused)) = due ≡ Err refused
IsAnswerOf due (Err Lacks) = Unit {0}

-- what stands in the place of an entry while it is made
abbrev pub draft_entry : Entry
draft_entry = record {
  input = Down 0 0;
  moment = 0;
  seen = None;
  effects =
      record
      { fate = None; states = []; parent = None; orders = []; measure = None; frames = []; told = None; asked = None; answers = [] };
}

-- the history, the newest entry first: the code keeps the oldest first
abbrev pub history_of : Inside → List Entry
history_of i = reverse i.entries

-- what an event measured, if anything, bears a time that a clock read
abbrev pub IsMeasuredTime : Effects → Type 0
IsMeasuredTime effects =
    IfSome effects.measure (λ (m : Measure × Held). IsTime m.0.local)

-- what an event made of a hub, and what it told: the history has the entry of the input with the
-- reading of the port's clock, and what was measured bears a time that a clock read
pub record HubYields (old : HubState) (input : Input) (new : HubState) (result : Effects) : Type 0 where
  pub entry : new ≡ with_entry old (entry_by old input (newest_seen new.entries))
  pub reading : newest_seen new.entries ≡ reading_at old input
  pub told : result ≡ (entry_by old input (newest_seen new.entries)).effects
  pub measured : IsMeasuredTime result

-- what always holds of a hub
pub record IsHub (i : Inside) : Type 0 where
  pub rules : IsScenario i.scenario.value
  pub history : IsHistory i.scenario.value (history_of i)
  pub times : All IsReadTime (history_of i)
  pub windows : IsMadeBy i.scenario.value (windows_of i.windows) (history_of i)
  pub machine : PartsRepresent i.scenario.value i.machine (state_of i.scenario.value (history_of i))
  pub gener : i.machine.roles.generation.gener ≤ length i.entries
  pub few_asked : i.asked ≤ length i.entries
  pub asked : i.asked ≡ (state_of i.scenario.value (history_of i)).queries
  pub sequence : i.sequence ≡ (state_of i.scenario.value (history_of i)).requests % 65536
  pub decided : bests_of i.machine.core.decider.bests ≡ decided_bests i.scenario.value (history_of i)
