-- The lines of a transcript, each by itself, without their newlines (project).
use Rattle.std.specs.Prelude.{ℕ, pos, ◌*ℤ◌, ◌≤◌, ◌≡◌, ◌≢◌, List, codes, length, All, is_some, IsTrue, Option, Some, None}
use Rattle.std.specs.Fmt.{decimal, signed_decimal}
use Rattle.hex.specs.Hex.{encode_lower}
use Rattle.ptp_base.specs.Floor.{floor_of}
use Rattle.ptp_profile.specs.declared.seats.LogEntry.{LogEntry}
use Rattle.ptp_profile.specs.declared.seats.LogEntry.TheVariants.{Order as An_order, Change as A_change}
use Rattle.ptp_profile.specs.Port.PrintedNames.{◌<>◌, state_name, port_text}
use Rattle.ptp_management.specs.ManagementQueries.{shows}
use Rattle.bc_history.specs.Phases.Inputs.{is_read}
use Rattle.bc_history.specs.Run.FormedRuns.{IsFormedInput}
use Rattle.bc_history.specs.Run.Transcript.{fate_name, lead_text, asked_name, input_text, seen_text}
use Rattle.transcript.specs.declared.line.Line.{Line}
use Rattle.transcript.specs.declared.line.Line.TheVariants.{Head, Event, Fate, State, Parent, Order, Measure, Sent, Told, Asked, Answer, Printed, Clock, Logged, End}
use Rattle.transcript.specs.TypedLines.{IsTypedLine}

-- an entry of a log, behind its number
abbrev pub logged_text : LogEntry → List ℕ
logged_text (An_order gener ctrl) = codes " order " <> decimal gener <> codes " " <> decimal ctrl
logged_text (A_change gener ctrl tick step freq) =
    codes " change " <> decimal gener <> codes " " <> decimal ctrl <> codes " " <> decimal tick
    <> codes " " <> signed_decimal step <> codes " " <> signed_decimal freq

-- the text of a line
unfoldable pub line_text : Line → List ℕ
line_text Head = codes "bc-transcript 1"
line_text (Event number moment input seen) =
    codes "event " <> decimal number <> codes " " <> decimal moment <> codes " " <> input_text input
    <> seen_text seen
line_text (Fate fate) = codes "  fate " <> fate_name fate
line_text (State m) =
    codes "  state " <> decimal m.port <> codes " " <> state_name m.old <> codes " " <> state_name
    m.new
line_text (Parent parent) = codes "  parent " <> port_text parent
line_text (Order order) =
    codes "  order " <> decimal order.clock <> codes " " <> decimal order.gener <> codes " " <>
    decimal order.ctrl
line_text (Measure measure gener clock) =
    codes "  measure " <> decimal gener <> codes " " <> decimal clock <> codes " " <>
    signed_decimal measure.offset <> codes " " <> signed_decimal measure.delay
    <> codes " " <> signed_decimal measure.local
line_text (Sent sent) =
    codes "  send " <> decimal sent.port <> codes " " <> encode_lower sent.octets
line_text (Told told) =
    codes "  told " <> lead_text told.lead <> codes " missed " <> decimal told.missed
line_text (Asked error) = codes "  asked " <> asked_name error
line_text (Answer answer) = codes "  answer " <> encode_lower answer
line_text (Printed text) = codes "    " <> text
line_text (Clock clock time drift) =
    codes "clock " <> decimal clock <> codes " " <> signed_decimal time <> codes " " <>
    signed_decimal (floor_of drift (pos 65536))
line_text (Logged clock number entry) =
    codes "log " <> decimal clock <> codes " " <> decimal number <> logged_text entry
line_text (End number) = codes "end " <> decimal number

-- what a line can show by itself
abbrev pub IsFormedLine : Line → Type 0
IsFormedLine Head = Unit {0}
IsFormedLine (Event number moment input seen) =
    IsFormedInput input × (is_some seen ≡ is_read input)
IsFormedLine (Fate fate) = Unit {0}
IsFormedLine (State m) = Unit {0}
IsFormedLine (Parent parent) = Unit {0}
IsFormedLine (Order order) = Unit {0}
IsFormedLine (Measure measure gener clock) = Unit {0}
IsFormedLine (Sent sent) = 1 ≤ length sent.octets
IsFormedLine (Told told) = Unit {0}
IsFormedLine (Asked error) = Unit {0}
IsFormedLine (Answer answer) = IsTrue (shows answer)
IsFormedLine (Printed text) = All (λ (octet : ℕ). octet ≢ 10) text
IsFormedLine (Clock clock time drift) = drift ≡ floor_of drift (pos 65536) *ℤ pos 65536
IsFormedLine (Logged clock number entry) = Unit {0}
IsFormedLine (End number) = Unit {0}

-- ---- reading

-- octets are the text of a line
pub record IsLineOf (octets : List ℕ) (line : Line) : Type 0 where
  pub text : line_text line ≡ octets
  pub formed : IsFormedLine line
  pub typed : IsTypedLine line

-- what a reader makes of octets: the line whose text they are, where they are one's
abbrev pub IsReadOf : List ℕ → Option Line → Type 0
IsReadOf octets None = (line : Line) → IsLineOf octets line → ⊥
IsReadOf octets (Some line) = IsLineOf octets line
