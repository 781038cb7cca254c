-- When the outcome of an exchange agrees with the clock's log (project).
use Rattle.std.specs.Prelude.{ℕ, pos, ◌≢◌, ◌≡◌, ◌≤◌, List, Result, Ok, Err}
use Rattle.ptp_profile.specs.declared.timing.Action.{Action}
use Rattle.ptp_profile.specs.declared.timing.Action.TheVariants.{Unlocked as Unlocked_action, Jump, Locked}
use Rattle.ptp_profile.specs.declared.seats.Held.{Held}
use Rattle.ptp_profile.specs.declared.seats.LogEntry.{LogEntry}
use Rattle.ptp_profile.specs.declared.seats.Receipt.{Receipt}
use Rattle.ptp_profile.specs.declared.seats.Refused.{Refused}
use Rattle.ptp_profile.specs.declared.seats.Refused.TheVariants.{Superseded as Is_superseded, Spent as Is_spent}
use Rattle.ptp_profile.specs.Roles.SeatLogs.{IsChanged, IsSuperseded, IsSpent, after_answer, change_of, exchange_answer, stamp_after}
use Rattle.bc_history.specs.declared.entry.Outcome.{Outcome}
use Rattle.bc_history.specs.declared.entry.Outcome.TheVariants.{Unlocked, Changed, Superseded, Spent}

-- the change of this number is the one that the action asks for
abbrev pub IsChangeBy : List LogEntry → Held → ℕ → Action → ℕ → Type 0
IsChangeBy log held tick Unlocked_action number = ⊥
IsChangeBy log held tick (Jump step freq) number = IsChanged log held tick step freq number
IsChangeBy log held tick (Locked freq) number = IsChanged log held tick (pos 0) freq number

-- the outcome of an action under the held stamp, at a tick, of a clock with this log, which may
-- have so many rows
abbrev pub Agrees : ℕ → List LogEntry → Held → ℕ → Action → Outcome → Type 0
Agrees rows log held tick action Unlocked = action ≡ Unlocked_action
Agrees rows log held tick action (Changed number) = IsChangeBy log held tick action number
Agrees rows log held tick action (Superseded newer at) =
    (action ≢ Unlocked_action) × IsSuperseded log held newer at
Agrees rows log held tick action (Spent at) = (action ≢ Unlocked_action) × IsSpent log held rows at

-- the holder's stamp is not newer than the one in force, and a generation names one controller of a
-- clock
pub record IsHolder (log : List LogEntry) (held : Held) : Type 0 where
  pub granted : held.gener ≤ (stamp_after log).gener
  pub one : held.gener ≡ (stamp_after log).gener → held.ctrl ≡ (stamp_after log).ctrl

-- the outcome of an exchange that was answered so
abbrev pub refusal_outcome : Refused → Outcome
refusal_outcome (Is_superseded newer at) = Superseded newer at
refusal_outcome (Is_spent at) = Spent at

-- the outcome of an exchange that was answered so, where it may have been taken
abbrev pub answer_outcome : Result Receipt Refused → Outcome
answer_outcome (Ok receipt) = Changed receipt.number
answer_outcome (Err refused) = refusal_outcome refused

-- the log after the answer to the change that an action asks for
abbrev pub after_exchange :
    Result Receipt Refused → Held → ℕ → Action → List LogEntry → List LogEntry
after_exchange answer held tick Unlocked_action log = log
after_exchange answer held tick (Jump step freq) log =
    after_answer answer (change_of held tick step freq) log
after_exchange answer held tick (Locked freq) log =
    after_answer answer (change_of held tick (pos 0) freq) log

-- an exchange under the held stamp, of a clock with this log, which may have so many rows: what it
-- gives, and the log after it
abbrev pub exchange_result : ℕ → Held → ℕ → Action → List LogEntry → Outcome × List LogEntry
exchange_result rows held tick action log = (
  answer_outcome (exchange_answer rows held log),
  after_exchange (exchange_answer rows held log)
      held tick action log,
)
