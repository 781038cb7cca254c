-- What may be asked of a clock, and what an exchange with the hub gives.
use Rattle.std.specs.Prelude.{ℕ, pos, ◌≤ℤ◌, slice_set}
use Rattle.ptp_base.specs.Floor.{IsWithin}
use Rattle.ptp_base.specs.declared.time.TheConstants.{FREQ_MAX, TIME_MAX}
use Rattle.ptp_profile.specs.declared.timing.Action.{Action}
use Rattle.ptp_profile.specs.declared.timing.Action.TheVariants.{Unlocked, Jump, Locked}
use Rattle.ptp_profile.specs.declared.timing.ServoConf.{ServoConf}
use Rattle.ptp_profile.specs.declared.seats.Held.{Held}
use Rattle.ptp_profile.specs.Timing.Servo.{limit}
use Rattle.ptp_profile.specs.Roles.SeatLogs.{log_at}
use Rattle.bc_history.specs.declared.entry.Outcome.{Outcome}
use Rattle.bc_history.specs.declared.place.PortPlace.{PortPlace}
use Rattle.bc_history.specs.declared.place.PortPlace.TheVariants.{Waits, Exchanges, Reports}
use Rattle.bc_history.specs.Run.ExchangeOutcomes.{exchange_result}
use Rattle.hub_core.specs.HubView.{HubState}

-- the step and the frequency that an action asks for are within what a clock takes
abbrev pub IsAskable : Action → Type 0
IsAskable Unlocked = Unit {0}
IsAskable (Jump step freq) = IsWithin TIME_MAX step × IsWithin FREQ_MAX freq
IsAskable (Locked freq) = IsWithin FREQ_MAX freq

-- what the servo asks of the clock is within what a clock takes
abbrev pub IsPlaceAskable : PortPlace → Type 0
IsPlaceAskable Waits = Unit {0}
IsPlaceAskable (Exchanges tick held action) = IsAskable action
IsPlaceAskable (Reports tick gener action outcome) = Unit {0}

-- the servo asks for no frequency beyond what a clock takes
abbrev pub IsWithinClock : ServoConf → Type 0
IsWithinClock conf = pos (limit conf) ≤ℤ FREQ_MAX

-- what the exchange of an action under a held stamp at a tick gives
abbrev pub outcome_at : HubState → Held → ℕ → Action → Outcome
outcome_at h held tick action =
    (exchange_result h.scenario.options.seat_rows held tick action (log_at h.logs held.clock)).0

-- the hub after it: the log of the held clock has what it gave
abbrev pub with_exchange : HubState → Held → ℕ → Action → HubState
with_exchange h held tick action =
    record h {
      logs = slice_set h.logs held.clock
          (exchange_result h.scenario.options.seat_rows held tick action (log_at h.logs held.clock)).1;
    }
