-- Logs after readings and exchanges alone: none has an order more (project).
use Rattle.std.specs.Prelude.{ℕ, ◌≡◌, ◌⊎◌, false, List, ◌∷◌, slice_set}
use Rattle.ptp_profile.specs.declared.seats.Held.{Held}
use Rattle.ptp_profile.specs.declared.seats.LogEntry.{LogEntry}
use Rattle.ptp_profile.specs.declared.timing.Action.{Action}
use Rattle.ptp_profile.specs.Roles.SeatLogs.{is_order, log_at}
use Rattle.bc_history.specs.declared.entry.Outcome.{Outcome}
use Rattle.bc_history.specs.declared.scenario.Scenario.{Scenario}
use Rattle.bc_history.specs.Run.ExchangeOutcomes.{exchange_result}

-- a log is as it was, or has one change more
abbrev pub IsSameOrChanged : List LogEntry → List LogEntry → Type 0
IsSameOrChanged log later =
    (later ≡ log) ⊎ ((change : LogEntry) × (is_order change ≡ false) × (later ≡ change ∷ log))

-- so is the log of each clock
abbrev pub AreSameOrChanged : List (List LogEntry) → List (List LogEntry) → Type 0
AreSameOrChanged logs later =
    (clock : ℕ) → IsSameOrChanged (log_at logs clock) (log_at later clock)

-- what an exchange under a held stamp gives, by the log of the stamp's clock
abbrev pub outcome_of_exchange : Scenario → List (List LogEntry) → Held → ℕ → Action → Outcome
outcome_of_exchange s logs held tick action =
    (exchange_result s.options.seat_rows held tick action (log_at logs held.clock)).0

-- the logs after it
abbrev pub logs_after_exchange : Scenario → List (List LogEntry) → Held → ℕ → Action → List (List LogEntry)
logs_after_exchange s logs held tick action =
    slice_set logs held.clock
    (exchange_result s.options.seat_rows held tick action (log_at logs held.clock)).1
