-- What an input says of itself.
use Rattle.std.specs.Prelude.{ℕ, zero, suc, ℤ, pos, ◌≤ℤ◌, Bool, true, false, List, [], ◌∷◌, slice_get, Option, Some, None, IfSome}
use Rattle.ptp_base.specs.declared.time.TheConstants.{TIME_MAX}
use Rattle.bc_history.specs.declared.entry.Input.{Input}
use Rattle.bc_history.specs.declared.entry.Input.TheVariants.{Frame, Timed, Down, Up, Report, Turn, Sampled, Query}
use Rattle.bc_history.specs.declared.entry.Seen.{Seen}
use Rattle.bc_history.specs.declared.entry.Entry.{Entry}
use Rattle.bc_history.specs.declared.port_input.PortInput.{PortInput}
use Rattle.bc_history.specs.declared.port_input.PortHappening.{PortHappening}
use Rattle.bc_history.specs.declared.port_input.PortHappening.TheVariants.{Frame as Frame_arrives, Timed as Timer_fires, Down as Goes_down, Up as Comes_up, Report as Reports}
use Rattle.bc_history.specs.Phases.State.{Event}

-- the tick of an input
abbrev pub tick_of : Input → ℕ
tick_of (Frame port tick octets) = tick
tick_of (Timed port tick timer) = tick
tick_of (Down port tick) = tick
tick_of (Up port tick) = tick
tick_of (Report port tick gener action outcome) = tick
tick_of (Turn clock tick) = tick
tick_of (Sampled clock tick lead theirs own action outcome) = tick
tick_of (Query tick text) = tick

-- the port that an input is of
abbrev pub port_of : Input → Option ℕ
port_of (Frame port tick octets) = Some port
port_of (Timed port tick timer) = Some port
port_of (Down port tick) = Some port
port_of (Up port tick) = Some port
port_of (Report port tick gener action outcome) = Some port
port_of (Turn clock tick) = None
port_of (Sampled clock tick lead theirs own action outcome) = None
port_of (Query tick text) = None

-- the same as a port's own input, where it is one
abbrev pub port_input : Input → Option PortInput
port_input (Frame port tick octets) =
    Some (record { number = port; tick = tick; what = Frame_arrives octets })
port_input (Timed port tick timer) =
    Some (record { number = port; tick = tick; what = Timer_fires timer })
port_input (Down port tick) = Some (record { number = port; tick = tick; what = Goes_down })
port_input (Up port tick) = Some (record { number = port; tick = tick; what = Comes_up })
port_input (Report port tick gener action outcome) =
    Some (record { number = port; tick = tick; what = Reports gener action outcome })
port_input (Turn clock tick) = None
port_input (Sampled clock tick lead theirs own action outcome) = None
port_input (Query tick text) = None

-- what happens to a port, as an input of the history
abbrev pub input_with : ℕ → ℕ → PortHappening → Input
input_with port tick (Frame_arrives octets) = Frame port tick octets
input_with port tick (Timer_fires timer) = Timed port tick timer
input_with port tick Goes_down = Down port tick
input_with port tick Comes_up = Up port tick
input_with port tick (Reports gener action outcome) = Report port tick gener action outcome

-- a port's own input, as one of the history
abbrev pub history_input : PortInput → Input
history_input p = input_with p.number p.tick p.what

-- a frame and a timer come with a reading of the port's clock
abbrev pub is_read : Input → Bool
is_read (Frame port tick octets) = true
is_read (Timed port tick timer) = true
is_read (Down port tick) = false
is_read (Up port tick) = false
is_read (Report port tick gener action outcome) = false
is_read (Turn clock tick) = false
is_read (Sampled clock tick lead theirs own action outcome) = false
is_read (Query tick text) = false

-- the value that was read
abbrev pub value_of : Option Seen → ℤ
value_of None = pos 0
value_of (Some seen) = seen.value

-- a time that a clock reads, in ns
abbrev pub IsTime : ℤ → Type 0
IsTime t = (pos 0 ≤ℤ t) × (t ≤ℤ TIME_MAX)

-- what the entry read, if it read anything, is a time
abbrev pub IsReadTime : Entry → Type 0
IsReadTime e = IfSome e.seen (λ (seen : Seen). IsTime seen.value)

-- what an entry adds by itself
abbrev pub event_of : Entry → Event
event_of entry = record { input = entry.input; seen = entry.seen }

-- port p, counted from 1
abbrev pub port_at : {X : Type 0} → List X → ℕ → Option X
port_at ports zero = None
port_at ports (suc i) = slice_get ports i

-- the element at an index is changed, where there is one
abbrev pub changed_at : {X : Type 0} → (X → X) → ℕ → List X → List X
changed_at change i [] = []
changed_at change zero (x ∷ xs) = change x ∷ xs
changed_at change (suc i) (x ∷ xs) = x ∷ changed_at change i xs

-- port p, counted from 1, is changed, where it is there
abbrev pub at_port : {X : Type 0} → (X → X) → ℕ → List X → List X
at_port change zero ports = ports
at_port change (suc i) ports = changed_at change i ports

-- there is a value, and it passes the test
abbrev pub holds : {X : Type 0} → (X → Bool) → Option X → Bool
holds test None = false
holds test (Some x) = test x
