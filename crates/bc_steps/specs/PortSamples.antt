-- The samples of a port with one more entry.
use Rattle.std.specs.Prelude.{List, ◌∷◌, Option, Some, None}
use Rattle.ptp_profile.specs.declared.seats.Held.{Held}
use Rattle.ptp_profile.specs.declared.timing.Measure.{Measure}
use Rattle.ptp_profile.specs.Timing.Servo.{Sample}
use Rattle.bc_history.specs.declared.entry.Seen.{Seen}
use Rattle.bc_history.specs.Run.Samples.{measure_sample}

-- with the sample of a measure and the reading of its entry, where something was measured
abbrev pub with_sample : Option Seen → Option (Measure × Held) → List Sample → List Sample
with_sample seen None samples = samples
with_sample seen (Some m) samples = measure_sample seen m ∷ samples
