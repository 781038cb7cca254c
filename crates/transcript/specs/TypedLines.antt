-- Lines and runs whose numbers lie in the ranges of the types of their fields (project).
use Rattle.std.specs.Prelude.{ℕ, ℤ, pos, ◌-ℤ◌, ◌^◌, ◌<◌, ◌≤ℤ◌, List, All, Option, Some, None}
use Rattle.ptp_base.specs.declared.identity.PortId.{PortId}
use Rattle.ptp_profile.specs.declared.timing.Action.{Action}
use Rattle.ptp_profile.specs.declared.timing.Action.TheVariants.{Unlocked as Unlocked_action, Jump, Locked}
use Rattle.ptp_profile.specs.declared.timing.Measure.{Measure}
use Rattle.ptp_profile.specs.declared.roles.RoleOrder.{RoleOrder}
use Rattle.ptp_profile.specs.declared.roles.Lead.{Lead}
use Rattle.ptp_profile.specs.declared.seats.LogEntry.{LogEntry}
use Rattle.ptp_profile.specs.declared.seats.LogEntry.TheVariants.{Order as An_order, Change as A_change}
use Rattle.bc_history.specs.declared.entry.Input.{Input}
use Rattle.bc_history.specs.declared.entry.Input.TheVariants.{Frame, Timed, Down, Up, Report, Turn, Sampled, Query}
use Rattle.bc_history.specs.declared.entry.Outcome.{Outcome}
use Rattle.bc_history.specs.declared.entry.Outcome.TheVariants.{Unlocked, Changed, Superseded, Spent}
use Rattle.bc_history.specs.declared.entry.Seen.{Seen}
use Rattle.transcript.specs.declared.line.Line.{Line}
use Rattle.transcript.specs.declared.line.Line.TheVariants.{Head, Event, Fate, State, Parent, Order, Measure as A_measure, Sent as A_frame, Told as A_told, Asked, Answer, Printed, Clock, Logged, End}

-- ---- numbers

-- a number of so many bits
abbrev pub IsWithin : ℕ → ℕ → Type 0
IsWithin bits n = n < 2 ^ bits

-- a signed number whose magnitude has so many bits
abbrev pub IsWithinSigned : ℕ → ℤ → Type 0
IsWithinSigned bits n =
    ((pos 0 -ℤ pos (2 ^ bits)) ≤ℤ n) × (n ≤ℤ (pos (2 ^ bits) -ℤ pos 1))

abbrev pub AreOctets : List ℕ → Type 0
AreOctets octets = All (λ (octet : ℕ). IsWithin 8 octet) octets

-- ---- parts of lines

abbrev pub IsTypedSeen : Seen → Type 0
IsTypedSeen seen =
    IsWithin 32 seen.number × IsWithinSigned 63 seen.value × IsWithinSigned 63 seen.freq

abbrev pub IsTypedReading : Option Seen → Type 0
IsTypedReading None = Unit {0}
IsTypedReading (Some seen) = IsTypedSeen seen

abbrev pub IsTypedAction : Action → Type 0
IsTypedAction Unlocked_action = Unit {0}
IsTypedAction (Jump step freq) = IsWithinSigned 63 step × IsWithinSigned 63 freq
IsTypedAction (Locked freq) = IsWithinSigned 63 freq

abbrev pub IsTypedOutcome : Outcome → Type 0
IsTypedOutcome Unlocked = Unit {0}
IsTypedOutcome (Changed number) = IsWithin 32 number
IsTypedOutcome (Superseded newer at) = IsWithin 32 newer × IsWithin 32 at
IsTypedOutcome (Spent at) = IsWithin 32 at

abbrev pub IsTypedLead : Lead → Type 0
IsTypedLead lead = IsWithin 32 lead.gener × IsWithin 8 lead.source

abbrev pub IsTypedOptionLead : Option Lead → Type 0
IsTypedOptionLead None = Unit {0}
IsTypedOptionLead (Some lead) = IsTypedLead lead

abbrev pub IsTypedInput : Input → Type 0
IsTypedInput (Frame port tick octets) = IsWithin 16 port × IsWithin 64 tick × AreOctets octets
IsTypedInput (Timed port tick timer) = IsWithin 16 port × IsWithin 64 tick
IsTypedInput (Down port tick) = IsWithin 16 port × IsWithin 64 tick
IsTypedInput (Up port tick) = IsWithin 16 port × IsWithin 64 tick
IsTypedInput (Report port tick gener action outcome) =
    IsWithin 16 port × IsWithin 64 tick × IsWithin 32 gener × IsTypedAction action
    × IsTypedOutcome outcome
IsTypedInput (Turn clock tick) = IsWithin 8 clock × IsWithin 64 tick
IsTypedInput (Sampled clock tick lead theirs own action outcome) =
    IsWithin 8 clock × IsWithin 64 tick × IsTypedLead lead × IsTypedSeen theirs × IsTypedSeen own
    × IsTypedAction action × IsTypedOutcome outcome
IsTypedInput (Query tick text) = IsWithin 64 tick × AreOctets text

abbrev pub IsTypedPort : PortId → Type 0
IsTypedPort p = IsWithin 64 p.clock.id × IsWithin 16 p.port

abbrev pub IsTypedMeasure : Measure → Type 0
IsTypedMeasure m =
    IsWithinSigned 127 m.offset × IsWithinSigned 127 m.delay × IsWithinSigned 63 m.local

abbrev pub IsTypedOrder : RoleOrder → Type 0
IsTypedOrder order = IsWithin 8 order.clock × IsWithin 32 order.gener × IsWithin 8 order.ctrl

abbrev pub IsTypedLogEntry : LogEntry → Type 0
IsTypedLogEntry (An_order gener ctrl) = IsWithin 32 gener × IsWithin 8 ctrl
IsTypedLogEntry (A_change gener ctrl tick step freq) =
    IsWithin 32 gener × IsWithin 8 ctrl × IsWithin 64 tick × IsWithinSigned 63 step
    × IsWithinSigned 63 freq

-- ---- lines

abbrev pub IsTypedLine : Line → Type 0
IsTypedLine Head = Unit {0}
IsTypedLine (Event number moment input seen) =
    IsWithin 64 number × IsWithin 64 moment × IsTypedInput input × IsTypedReading seen
IsTypedLine (Fate fate) = Unit {0}
IsTypedLine (State m) = IsWithin 16 m.port
IsTypedLine (Parent parent) = IsTypedPort parent
IsTypedLine (Order order) = IsTypedOrder order
IsTypedLine (A_measure measure gener clock) =
    IsTypedMeasure measure × IsWithin 32 gener × IsWithin 8 clock
IsTypedLine (A_frame sent) = IsWithin 16 sent.port × AreOctets sent.octets
IsTypedLine (A_told told) = IsTypedOptionLead told.lead × IsWithin 32 told.missed
IsTypedLine (Asked error) = Unit {0}
IsTypedLine (Answer answer) = AreOctets answer
IsTypedLine (Printed text) = AreOctets text
IsTypedLine (Clock clock time drift) =
    IsWithin 8 clock × IsWithinSigned 63 time × IsWithinSigned 63 drift
IsTypedLine (Logged clock number entry) =
    IsWithin 8 clock × IsWithin 64 number × IsTypedLogEntry entry
IsTypedLine (End number) = IsWithin 64 number
