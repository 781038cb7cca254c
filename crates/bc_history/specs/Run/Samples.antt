-- What the servos of ports and followers sample, the newest sample first.
use Rattle.std.specs.Prelude.{ℕ, ℤ, pos, ◌-ℤ◌, ◌==◌, if◌then◌else◌, List, filter_map, Option, Some, None, option_map}
use Rattle.ptp_base.specs.Floor.{ns_of}
use Rattle.ptp_profile.specs.declared.timing.Measure.{Measure}
use Rattle.ptp_profile.specs.declared.roles.Lead.{Lead}
use Rattle.ptp_profile.specs.declared.seats.Held.{Held}
use Rattle.ptp_profile.specs.Timing.Servo.{Sample}
use Rattle.bc_history.specs.declared.entry.Entry.{Entry}
use Rattle.bc_history.specs.declared.entry.Input.{Input}
use Rattle.bc_history.specs.declared.entry.Input.TheVariants.{Sampled}
use Rattle.bc_history.specs.declared.entry.Seen.{Seen}
use Rattle.bc_history.specs.declared.entry.Who.TheVariants.{Port}
use Rattle.bc_history.specs.Run.Actors.{is_by}

-- the frequency that was read
abbrev pub freq_of : Option Seen → ℤ
freq_of None = pos 0
freq_of (Some seen) = seen.freq

-- the sample of a measure under a stamp, with the reading of its entry
abbrev pub measure_sample : Option Seen → Measure × Held → Sample
measure_sample seen m =
    record {
      gener = m.1.gener;
      freq = freq_of seen;
      offset = ns_of m.0.offset;
      local = m.0.local;
    }

-- the sample of an entry of port p, where it gave a measure
abbrev pub port_sample : ℕ → Entry → Option Sample
port_sample p e =
    if is_by (Port p) e then option_map (measure_sample e.seen) e.effects.measure else None

-- the samples of a port
abbrev pub port_samples : ℕ → List Entry → List Sample
port_samples p entries = filter_map (port_sample p) entries

-- the sample that a follower's two readings make
abbrev pub sample_of : Lead → Seen → Seen → Sample
sample_of lead theirs own =
    record {
      gener = lead.gener;
      freq = own.freq;
      offset = own.value -ℤ theirs.value;
      local = own.value;
    }

-- the sample of a follower's entry
abbrev pub follower_sample : ℕ → Input → Option Sample
follower_sample c (Sampled clock tick lead theirs own action outcome) =
    if clock == c then Some (sample_of lead theirs own) else None
follower_sample c _ = None

-- the samples of a follower
abbrev pub follower_samples : ℕ → List Entry → List Sample
follower_samples c entries = filter_map (λ (e : Entry). follower_sample c e.input) entries
