-- Which input an actor has next after a history, and whether it is due.
use Rattle.std.specs.Prelude.{ℕ, ◌+◌, ◌*◌, ◌≤◌, ◌≡◌, ◌==◌, nat_lt, if◌then◌else◌, List, filter, slice_get, Option, Some, None, IsSomeAnd}
use Rattle.ptp_profile.specs.declared.port_event.Timer.{Timer}
use Rattle.ptp_profile.specs.Port.PortTimers.{due_of}
use Rattle.bc_history.specs.declared.entry.Input.{Input}
use Rattle.bc_history.specs.declared.entry.Input.TheVariants.{Frame, Timed, Down, Up, Report, Turn, Sampled, Query}
use Rattle.bc_history.specs.declared.scenario.Scenario.{Scenario}
use Rattle.bc_history.specs.declared.scenario.Record.{Record}
use Rattle.bc_history.specs.declared.scenario.Asked.{Asked}
use Rattle.bc_history.specs.declared.scenario.Happening.{Happening}
use Rattle.bc_history.specs.declared.scenario.Happening.TheVariants.{Frame as Frame_record, Down as Down_record, Up as Up_record}
use Rattle.bc_history.specs.Phases.Inputs.{port_at, tick_of}
use Rattle.bc_history.specs.Phases.State.{Follower, State}
use Rattle.bc_history.specs.Phases.HubPort.{TickMeasure, HubPort}

-- the records of a port, in their order
abbrev pub records_of : Scenario → ℕ → List Record
records_of s p = filter (λ (r : Record). r.port == p) s.records

-- what a record brings
abbrev pub input_of : ℕ → ℕ → Happening → Input
input_of p tick (Frame_record octets) = Frame p tick octets
input_of p tick Down_record = Down p tick
input_of p tick Up_record = Up p tick

-- the earlier of a record and a timer of a port, the record first at one tick
abbrev pub record_or_timer : ℕ → Option Record → Option (ℕ × Timer) → Option Input
record_or_timer p None None = None
record_or_timer p (Some r) None = Some (input_of p r.tick r.what)
record_or_timer p None (Some t) = Some (Timed p t.0 t.1)
record_or_timer p (Some r) (Some t) =
    if nat_lt t.0 r.tick then Some (Timed p t.0 t.1) else Some (input_of p r.tick r.what)

-- the next record or timer of a port
abbrev pub next_input : Scenario → HubPort → Option Input
next_input s h =
    record_or_timer h.port.id.port (slice_get (records_of s h.port.id.port) h.taken)
    (due_of h.port.timers)

-- the tick of a follower's next turn: turns are at the multiples of the interval, from 1 on
abbrev pub turn_tick : Scenario → Follower → ℕ
turn_tick s f = (f.turns + 1) * s.options.follow_interval

-- the next line of the queries
abbrev pub query_input : Scenario → State → Option Asked
query_input s h = slice_get s.queries h.queries

-- a port whose last entry gave no measure goes on with its records and timers
abbrev pub IsNextOf : Scenario → Option HubPort → Input → Type 0
IsNextOf s port input = IsSomeAnd port (λ h. (h.measured ≡ None) × (next_input s h ≡ Some input))

-- a port whose last entry gave a measure reports: at that entry's tick, under that measure's
-- generation; the action and the outcome are open
abbrev pub IsReportOf : Option HubPort → ℕ → ℕ → Type 0
IsReportOf port tick gener =
    IsSomeAnd port
    (λ h. IsSomeAnd h.measured (λ (m : TickMeasure). (m.tick ≡ tick) × (m.held.gener ≡ gener)))

-- the input is the next one of its actor
abbrev pub IsNext : Scenario → State → Input → Type 0
IsNext s h (Frame port tick octets) =
    IsNextOf s (port_at h.core.ports port) (Frame port tick octets)
IsNext s h (Timed port tick timer) = IsNextOf s (port_at h.core.ports port) (Timed port tick timer)
IsNext s h (Down port tick) = IsNextOf s (port_at h.core.ports port) (Down port tick)
IsNext s h (Up port tick) = IsNextOf s (port_at h.core.ports port) (Up port tick)
IsNext s h (Report port tick gener action outcome) =
    IsReportOf (port_at h.core.ports port) tick gener
IsNext s h (Turn clock tick) =
    IsSomeAnd (slice_get h.followers clock) (λ f. (f.leading ≡ None) × (tick ≡ turn_tick s f))
IsNext s h (Sampled clock tick lead theirs own action outcome) =
    IsSomeAnd (slice_get h.followers clock)
    (λ f. f.leading ≡ Some (record { tick = tick; lead = lead }))
IsNext s h (Query tick text) = query_input s h ≡ Some (record { tick = tick; text = text })

-- a next input is due up to the end of the run
abbrev pub IsDue : Scenario → State → Input → Type 0
IsDue s h input = IsNext s h input × (tick_of input ≤ s.options.duration)
