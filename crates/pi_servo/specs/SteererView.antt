-- What contracts see of a steerer, and of which samples it is the steerer (project)
use Rattle.std.specs.Prelude.{ℕ, ◌≡◌, List, [], ◌∷◌, Option, Some, None}
use Rattle.ptp_profile.specs.declared.timing.ServoConf.{ServoConf}
use Rattle.ptp_profile.specs.Timing.Servo.{Sample, run_before, first_sample}
use Rattle.pi_servo.specs.ServoView.{ServoView, ServoRepresents}

-- the configuration of its servos, the generation of the last sample, and that generation's servo
pub record SteererView : Type 0 where
  pub conf : ServoConf
  pub generation : Option ℕ
  pub servo : ServoView

-- the steerer is that of samples of which this is the newest: its servo is that of the newest run
pub record RunRepresents (steerer : SteererView) (conf : ServoConf) (x : Sample) (before : List Sample) : Type 0 where
  pub configured : steerer.conf ≡ conf
  pub generation : steerer.generation ≡ Some x.gener
  pub runs : ServoRepresents steerer.servo conf (first_sample x (run_before x before)).freq (x ∷ run_before x before)

-- the steerer is that of the samples, the newest first; before the first of them no run has begun
abbrev pub SteererRepresents : SteererView → ServoConf → List Sample → Type 0
SteererRepresents steerer conf [] = (steerer.conf ≡ conf) × (steerer.generation ≡ None)
SteererRepresents steerer conf (x ∷ before) = RunRepresents steerer conf x before
