-- What contracts see of a servo, and of which run it is the servo (project)
use Rattle.std.specs.Prelude.{ℕ, ℤ, pos, ◌≡◌, Bool, ◌||◌, List}
use Rattle.ptp_base.specs.Floor.{IsWithin}
use Rattle.ptp_profile.specs.declared.timing.Action.{Action}
use Rattle.ptp_profile.specs.declared.timing.ServoConf.{ServoConf}
use Rattle.ptp_profile.specs.Timing.Servo.{Sample, Phase, NoSample, OneSample, Running, limit, next_phase, makes_estimate, next_drift, action_at, phase_after, locked_after, drift_after}
use Rattle.pi_servo.specs.declared.servo.Phase as code
use Rattle.pi_servo.specs.declared.servo.Phase.TheVariants as code_phase

-- its configuration, where it is in its run, whether it has locked, and its drift in ppb times
-- 65,536
pub record ServoView : Type 0 where
  pub conf : ServoConf
  pub phase : Phase
  pub locked : Bool
  pub drift : ℤ

-- the phase that the code keeps
abbrev pub phase_of : code.Phase → Phase
phase_of code_phase.NoSample = NoSample
phase_of (code_phase.OneSample point) = OneSample point.offset (pos point.local)
phase_of code_phase.Running = Running

-- the drift of a servo is within the limit of its frequency
abbrev pub IsDrift : ServoConf → ℤ → Type 0
IsDrift conf drift = IsWithin (pos (limit conf)) drift

-- a sample at a local time that a clock read, and so not below 0
abbrev pub sample_at : ℕ → ℤ → ℤ → ℕ → Sample
sample_at gener freq offset local =
    record { gener = gener; freq = freq; offset = offset; local = pos local }

-- the servo is that of the run of these samples, the newest first, which began at the frequency
pub record ServoRepresents (servo : ServoView) (conf : ServoConf) (freq : ℤ) (before : List Sample) : Type 0 where
  pub configured : servo.conf ≡ conf
  pub phase : servo.phase ≡ phase_after conf before
  pub locked : servo.locked ≡ locked_after conf before
  pub drift : servo.drift ≡ drift_after conf freq before

-- what a servo makes of a sample: its next state, and an action
pub record ServoYields (x : Sample) (old new : ServoView) (action : Action) : Type 0 where
  pub configured : new.conf ≡ old.conf
  pub phase : new.phase ≡ next_phase old.conf x old.phase
  pub locked : new.locked ≡ (makes_estimate x old.phase || old.locked)
  pub drift : new.drift ≡ next_drift old.conf x old.phase old.drift
  pub acts : action ≡ action_at old.conf x old.phase old.locked old.drift
