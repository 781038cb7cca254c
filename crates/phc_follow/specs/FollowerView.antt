-- What contracts see of a follower, what it samples, and what it asks of its clock (project).
use Rattle.std.specs.Prelude.{ℕ, pos, ◌-ℤ◌, ⊤}
use Rattle.ptp_base.specs.Floor.{IsWithin}
use Rattle.ptp_base.specs.declared.time.TheConstants.{TIME_MAX}
use Rattle.model_clock.specs.Clock.{reading}
use Rattle.ptp_profile.specs.declared.roles.Lead.{Lead}
use Rattle.ptp_profile.specs.declared.seats.Reading.{Reading}
use Rattle.ptp_profile.specs.declared.timing.Action.{Action}
use Rattle.ptp_profile.specs.declared.timing.Action.TheVariants.{Unlocked, Jump, Locked}
use Rattle.ptp_profile.specs.declared.timing.ServoConf.{ServoConf}
use Rattle.ptp_profile.specs.Timing.Servo.{Sample, limit}
use Rattle.pi_servo.specs.SteererView.{SteererView}

-- the clock that follows, and its steerer
pub record FollowerView : Type 0 where
  pub clock : ℕ
  pub steerer : SteererView

-- the sample that the two readings make at a tick, under a lead: the offset is the own reading less
-- the source's
abbrev pub follower_sample : Lead → Reading → Reading → ℕ → Sample
follower_sample lead theirs own tick = record {
  gener = lead.gener;
  freq = own.state.freq;
  offset = reading own.state tick -ℤ reading theirs.state tick;
  local = reading own.state tick;
}

-- an action asks for no step beyond what a clock counts, and for no frequency beyond the limit
abbrev pub IsWithinLimits : ServoConf → Action → Type 0
IsWithinLimits conf Unlocked = ⊤
IsWithinLimits conf (Jump step freq) = IsWithin TIME_MAX step × IsWithin (pos (limit conf)) freq
IsWithinLimits conf (Locked freq) = IsWithin (pos (limit conf)) freq
