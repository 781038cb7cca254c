-- Which runs are open, legal and windowed (project).
use Rattle.std.specs.Prelude.{ℕ, ◌+◌, ◌-◌, ◌/◌, ◌≤◌, ◌≡◌, true, false, List, map, reverse, AllPairs, Contains, IsSomeAnd}
use Rattle.ptp_profile.specs.declared.seats.Log.{Log}
use Rattle.ptp_profile.specs.declared.seats.LogEntry.{LogEntry}
use Rattle.ptp_profile.specs.Roles.SeatLogs.{entry_at, is_order, log_at, logs_from}
use Rattle.bc_history.specs.declared.entry.Entry.{Entry}
use Rattle.bc_history.specs.declared.entry.Run.{Run}
use Rattle.bc_history.specs.declared.scenario.Scenario.{Scenario}
use Rattle.bc_history.specs.Phases.Inputs.{tick_of}
use Rattle.bc_history.specs.Run.History.{IsFinished}
use Rattle.run_legal.specs.Numbers.Marks.{changes_in}
use Rattle.run_legal.specs.Runs.Courses.{IsCourse}

-- the logs of a run with the newest entry first
abbrev pub newest_first : List Log → List (List LogEntry)
newest_first logs = map (λ (log : Log). reverse log.entries) logs

-- an open run: its logs are those of the clocks in their order, each opened by the scenario, and
-- its entries and logs belong together
pub record IsOpen (s : Scenario) (run : Run) : Type 0 where
  pub opened : run.logs ≡ logs_from 0 s.clocks (newest_first run.logs)
  pub course : IsCourse s (reverse run.entries) (newest_first run.logs)

-- the entry of a log with this number is a change
abbrev pub IsChangeAt : List LogEntry → ℕ → Type 0
IsChangeAt log number = IsSomeAnd (entry_at number log) (λ entry. is_order entry ≡ false)

-- each change of a log is named by an outcome
abbrev pub AreNamed : Scenario → List Entry → List (List LogEntry) → Type 0
AreNamed s entries logs =
    (clock number : ℕ) → IsChangeAt (log_at logs clock) number
    → Contains (changes_in s entries)
    (record { clock = clock; number = number; is_change = true })

-- a legal run: an open one in which each change is named, and no actor has an input that is due
pub record IsLegal (s : Scenario) (run : Run) : Type 0 where
  pub is_open : IsOpen s run
  pub named : AreNamed s (reverse run.entries) (newest_first run.logs)
  pub finished : IsFinished s (reverse run.entries)

-- the window of a tick: windows end at the multiples of the option, and window 0 is tick 0 alone
abbrev pub window_at : Scenario → ℕ → ℕ
window_at s tick = (tick + (s.options.window - 1)) / s.options.window

-- the window of an entry
abbrev pub window_of : Scenario → Entry → ℕ
window_of s e = window_at s (tick_of e.input)

-- a windowed run: windows never fall along the entries
abbrev pub IsWindowed : Scenario → Run → Type 0
IsWindowed s run =
    AllPairs (λ (earlier later : Entry). window_of s earlier ≤ window_of s later) run.entries
