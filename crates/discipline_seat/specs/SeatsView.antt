-- The clocks of a run with their logs, and what orders and changes add to these (project).
use Rattle.std.specs.Prelude.{ℕ, ◌-◌, List, map, slice_set}
use Rattle.model_clock.specs.declared.state.ClockState.{ClockState}
use Rattle.model_clock.specs.Clock.{clock_at}
use Rattle.ptp_profile.specs.declared.roles.Stamp.{Stamp}
use Rattle.ptp_profile.specs.declared.seats.LogEntry.{LogEntry}
use Rattle.ptp_profile.specs.declared.seats.Reading.{Reading}
use Rattle.ptp_profile.specs.Roles.SeatLogs.{log_at, no_logs, stamp_after, whole_reading, with_log_entry}

-- the clocks' openings and logs, the newest entry first; how many entries a change leaves a log
-- with at most; how many more entries are taken without allocating
pub record Seats : Type 0 where
  pub rows : ℕ
  pub spare : ℕ
  pub openings : List ClockState
  pub logs : List (List LogEntry)

-- clocks of which nothing was ordered or changed
abbrev pub seats_at_opening : ℕ → List ClockState → Seats
seats_at_opening rows clocks =
    record { rows = rows; spare = 0; openings = clocks; logs = no_logs clocks }

-- the log of a clock
abbrev pub log_of : Seats → ℕ → List LogEntry
log_of seats clock = log_at seats.logs clock

-- the stamp of a clock in force
abbrev pub stamp_in : Seats → ℕ → Stamp
stamp_in seats clock = stamp_after (log_of seats clock)

-- a reading after the whole log
abbrev pub reading_of : Seats → ℕ → Reading
reading_of seats clock = whole_reading (clock_at seats.openings clock) (log_of seats clock)

-- the log of a clock has one more entry, in a place that was reserved
abbrev pub with_entry : Seats → ℕ → LogEntry → Seats
with_entry seats clock entry =
    record seats { spare = seats.spare - 1; logs = with_log_entry seats.logs clock entry }

-- the controllers of the clocks once an order gave one of them another
abbrev pub ctrls_with : Seats → ℕ → ℕ → List ℕ
ctrls_with seats clock ctrl = slice_set (map (λ log. (stamp_after log).ctrl) seats.logs) clock ctrl
