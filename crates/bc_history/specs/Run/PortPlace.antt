-- Where a port is in its job.
use Rattle.std.specs.Prelude.{ℕ, if◌then◌else◌, List, [], ◌∷◌, Option, Some, None}
use Rattle.ptp_profile.specs.declared.timing.Action.{Action}
use Rattle.ptp_profile.specs.declared.timing.Action.TheVariants.{Unlocked as Unlocked_action}
use Rattle.ptp_profile.specs.declared.timing.Measure.{Measure}
use Rattle.ptp_profile.specs.declared.seats.Held.{Held}
use Rattle.ptp_profile.specs.Timing.Servo.{Sample, newest_action}
use Rattle.bc_history.specs.declared.entry.Entry.{Entry}
use Rattle.bc_history.specs.declared.entry.Outcome.{Outcome}
use Rattle.bc_history.specs.declared.entry.Outcome.TheVariants.{Unlocked}
use Rattle.bc_history.specs.declared.entry.Who.TheVariants.{Port}
use Rattle.bc_history.specs.declared.place.PortPlace.{PortPlace}
use Rattle.bc_history.specs.declared.place.PortPlace.TheVariants.{Waits, Exchanges, Reports}
use Rattle.bc_history.specs.declared.scenario.Options.{Options}
use Rattle.bc_history.specs.Phases.Inputs.{tick_of}
use Rattle.bc_history.specs.Phases.OpeningState.{servo_of}
use Rattle.bc_history.specs.Run.Actors.{is_by}
use Rattle.bc_history.specs.Run.Samples.{port_samples}

-- an action that asks for nothing needs no exchange
abbrev pub port_job : ℕ → Held → Action → PortPlace
port_job tick held Unlocked_action = Reports tick held.gener Unlocked_action Unlocked
port_job tick held action = Exchanges tick held action

-- after an entry of a tick: a measure is sampled, and the port goes to the job of its servo's
-- action
abbrev pub place_by_measure : Options → List Sample → ℕ → Option (Measure × Held) → PortPlace
place_by_measure o samples tick None = Waits
place_by_measure o samples tick (Some m) =
    port_job tick m.1 (newest_action (servo_of o) samples)

-- where port p is by its own last entry, before any step of its own that is no event. The newest
-- entry is first
abbrev pub place_by_entries : Options → ℕ → List Entry → PortPlace
place_by_entries o p [] = Waits
place_by_entries o p (e ∷ before) =
    if is_by (Port p) e then
    place_by_measure o (port_samples p (e ∷ before)) (tick_of e.input) e.effects.measure
    else
    place_by_entries o p before

-- after an exchange that had this outcome
abbrev pub after_port_exchange : Outcome → PortPlace → PortPlace
after_port_exchange outcome Waits = Waits
after_port_exchange outcome (Exchanges tick held action) = Reports tick held.gener action outcome
after_port_exchange outcome (Reports tick gener action former) = Reports tick gener action former

-- where port p is by its own entries and its own exchanges since the last of them, of which these
-- are the outcomes. The newest is first in both
abbrev pub port_place : Options → ℕ → List Entry → List Outcome → PortPlace
port_place o p entries [] = place_by_entries o p entries
port_place o p entries (outcome ∷ exchanges) =
    after_port_exchange outcome (port_place o p entries exchanges)
