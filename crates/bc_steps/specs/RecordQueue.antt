-- The records of a port that are still to come.
use Rattle.std.specs.Prelude.{◌≡◌, ℕ, ◌-◌, if◌then◌else◌, Bool, true, nat_le, List, drop, length, reverse, slice_get, None, Option, Some, option_map}
use Rattle.ptp_profile.specs.declared.port_event.Timer.{Timer}
use Rattle.bc_history.specs.declared.entry.Entry.{Entry}
use Rattle.bc_history.specs.declared.scenario.Record.{Record}
use Rattle.bc_history.specs.declared.scenario.Scenario.{Scenario}
use Rattle.bc_history.specs.declared.entry.Input.{Input}
use Rattle.bc_history.specs.declared.entry.Input.TheVariants.{Report}
use Rattle.bc_history.specs.Phases.Inputs.{tick_of}
use Rattle.bc_history.specs.Run.NextInputs.{record_or_timer, records_of}
use Rattle.bc_history.specs.declared.place.PortPlace.{PortPlace}
use Rattle.bc_history.specs.declared.place.PortPlace.TheVariants.{Waits, Exchanges, Reports}
use Rattle.bc_history.specs.Run.PortEntries.{taken_by}

-- the records of port p that none of the entries took, in their order
abbrev pub records_left : Scenario → ℕ → List Entry → List Record
records_left s p entries = drop (taken_by p entries) (records_of s p)

-- they are queued with the next one at the end
abbrev pub QueueRepresents : List Record → List Record → Type 0
QueueRepresents queue records = queue ≡ reverse records

-- the records that are left once the next one was taken, or not
abbrev pub left_after : Bool → List Record → List Record
left_after is_taken left = if is_taken then drop 1 left else left

-- the element at the end of a queue, if there is one
abbrev pub last_of : List Record → Option Record
last_of queue = slice_get queue (length queue - 1)

-- the tick of the record at the end of a queue, if there is one
abbrev pub upcoming_of : List Record → Option ℕ
upcoming_of queue = option_map (λ (r : Record). r.tick) (last_of queue)

-- a record of a tick comes before the timer that is set, if one is: the record is first at one tick
abbrev pub is_first : ℕ → Option (ℕ × Timer) → Bool
is_first tick None = true
is_first tick (Some t) = nat_le tick t.0

-- the input of the next event of port p at a place, with its next record and its timer
abbrev pub input_at : ℕ → PortPlace → Option Record → Option (ℕ × Timer) → Option Input
input_at p Waits next timer = record_or_timer p next timer
input_at p (Exchanges tick held action) next timer = None
input_at p (Reports tick gener action outcome) next timer =
    Some (Report p tick gener action outcome)

-- the tick of the next step of port p at a place
abbrev pub tick_at : ℕ → PortPlace → Option Record → Option (ℕ × Timer) → Option ℕ
tick_at p Waits next timer = option_map tick_of (record_or_timer p next timer)
tick_at p (Exchanges tick held action) next timer = Some tick
tick_at p (Reports tick gener action outcome) next timer = Some tick
