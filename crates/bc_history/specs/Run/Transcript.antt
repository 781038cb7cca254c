-- The text of a run.
use Rattle.std.specs.Prelude.{ℕ, pos, ◌+◌, if◌then◌else◌, List, [], ◌∷◌, length, codes, Option, Some, None}
use Rattle.std.specs.Fmt.{decimal, signed_decimal}
use Rattle.hex.specs.Hex.{encode_lower}
use Rattle.ptp_base.specs.Floor.{floor_of}
use Rattle.ptp_base.specs.declared.identity.PortId.{PortId}
use Rattle.model_clock.specs.declared.state.ClockState.{ClockState}
use Rattle.ptp_profile.specs.declared.port_event.Timer.{Timer}
use Rattle.ptp_profile.specs.declared.port_event.Timer.TheVariants.{AnnounceReceipt, Qualification, AnnounceSend, SyncSend, DelayRequest}
use Rattle.ptp_profile.specs.declared.port_event.Fate.{Fate}
use Rattle.ptp_profile.specs.declared.port_event.Fate.TheVariants.{Asleep, Dropped, Own, Far, Alternate, Crowded, Kept, Ignored, Waiting, Paired, Matched, Unmatched, Answered}
use Rattle.ptp_profile.specs.declared.message.Reject.{Reject}
use Rattle.ptp_profile.specs.declared.message.Reject.TheVariants.{Short, Version, Domain, Type_, Length, Nanos, TimeRange}
use Rattle.ptp_profile.specs.declared.timing.Action.{Action}
use Rattle.ptp_profile.specs.declared.timing.Action.TheVariants.{Unlocked as Unlocked_action, Jump, Locked}
use Rattle.ptp_profile.specs.declared.timing.Measure.{Measure}
use Rattle.ptp_profile.specs.declared.roles.RoleOrder.{RoleOrder}
use Rattle.ptp_profile.specs.declared.roles.Lead.{Lead}
use Rattle.ptp_profile.specs.declared.seats.Held.{Held}
use Rattle.ptp_profile.specs.declared.seats.Log.{Log}
use Rattle.ptp_profile.specs.declared.seats.LogEntry.{LogEntry}
use Rattle.ptp_profile.specs.declared.seats.LogEntry.TheVariants.{Order, Change}
use Rattle.ptp_profile.specs.Port.PrintedNames.{◌<>◌, state_name, port_text}
use Rattle.ptp_management.specs.ManagementQueries.{shows, printed_lines}
use Rattle.bc_history.specs.declared.entry.Input.{Input}
use Rattle.bc_history.specs.declared.entry.Input.TheVariants.{Frame, Timed, Down, Up, Report, Turn, Sampled, Query}
use Rattle.bc_history.specs.declared.entry.Outcome.{Outcome}
use Rattle.bc_history.specs.declared.entry.Outcome.TheVariants.{Unlocked, Changed, Superseded, Spent}
use Rattle.bc_history.specs.declared.entry.Seen.{Seen}
use Rattle.bc_history.specs.declared.entry.Moved.{Moved}
use Rattle.bc_history.specs.declared.entry.Sent.{Sent}
use Rattle.bc_history.specs.declared.entry.Told.{Told}
use Rattle.ptp_management.specs.declared.query.AskError.{AskError}
use Rattle.ptp_management.specs.declared.query.AskError.TheVariants.{Action as Ask_action, Unknown as Ask_unknown, Target as Ask_target}
use Rattle.bc_history.specs.declared.entry.Effects.{Effects}
use Rattle.bc_history.specs.declared.entry.Entry.{Entry}
use Rattle.bc_history.specs.declared.entry.Run.{Run}

-- ---- words

-- a timer
abbrev pub timer_name : Timer → List ℕ
timer_name AnnounceReceipt = codes "announce_receipt"
timer_name Qualification = codes "qualification"
timer_name AnnounceSend = codes "announce_send"
timer_name SyncSend = codes "sync_send"
timer_name DelayRequest = codes "delay_request"

-- why octets were dropped
abbrev pub drop_name : Reject → List ℕ
drop_name Short = codes "short"
drop_name Version = codes "version"
drop_name Domain = codes "domain"
drop_name Type_ = codes "type"
drop_name Length = codes "length"
drop_name Nanos = codes "nanos"
drop_name TimeRange = codes "timerange"

-- what became of a frame
abbrev pub fate_name : Fate → List ℕ
fate_name Asleep = codes "asleep"
fate_name (Dropped reject) = drop_name reject
fate_name Own = codes "own"
fate_name Far = codes "far"
fate_name Alternate = codes "alternate"
fate_name Crowded = codes "crowded"
fate_name Kept = codes "kept"
fate_name Ignored = codes "ignored"
fate_name Waiting = codes "waiting"
fate_name Paired = codes "paired"
fate_name Matched = codes "matched"
fate_name Unmatched = codes "unmatched"
fate_name Answered = codes "answered"

-- ---- the input of an entry

-- a reading: how many entries the log had, the time in ns, the frequency in ppb times 65,536
abbrev pub reading_text : Seen → List ℕ
reading_text seen =
    decimal seen.number <> codes " " <> signed_decimal seen.value <> codes " " <> signed_decimal
    seen.freq

-- the reading that an input comes with, where it comes with one
abbrev pub seen_text : Option Seen → List ℕ
seen_text None = []
seen_text (Some seen) = codes " seen " <> reading_text seen

-- what a servo asks for
abbrev pub action_text : Action → List ℕ
action_text Unlocked_action = codes "unlocked"
action_text (Jump step freq) =
    codes "jump " <> signed_decimal step <> codes " " <> signed_decimal freq
action_text (Locked freq) = codes "locked " <> signed_decimal freq

-- what became of an exchange
abbrev pub outcome_text : Outcome → List ℕ
outcome_text Unlocked = codes "none"
outcome_text (Changed number) = codes "changed " <> decimal number
outcome_text (Superseded newer at) = codes "superseded " <> decimal newer <> codes " " <> decimal at
outcome_text (Spent at) = codes "spent " <> decimal at

-- an input
abbrev pub input_text : Input → List ℕ
input_text (Frame port tick octets) =
    codes "port " <> decimal port <> codes " frame " <> decimal tick <> codes " " <> encode_lower
    octets
input_text (Timed port tick timer) =
    codes "port " <> decimal port <> codes " timer " <> decimal tick <> codes " " <> timer_name
    timer
input_text (Down port tick) = codes "port " <> decimal port <> codes " down " <> decimal tick
input_text (Up port tick) = codes "port " <> decimal port <> codes " up " <> decimal tick
input_text (Report port tick gener action outcome) =
    codes "port " <> decimal port <> codes " report " <> decimal tick <> codes " " <> decimal gener
    <> codes " " <> action_text action <> codes " " <> outcome_text outcome
input_text (Turn clock tick) = codes "clock " <> decimal clock <> codes " turn " <> decimal tick
input_text (Sampled clock tick lead theirs own action outcome) =
    codes "clock " <> decimal clock <> codes " sampled " <> decimal tick <> codes " " <> decimal
    lead.gener <> codes " " <> decimal lead.source
    <> codes " theirs " <> reading_text theirs <> codes " own " <> reading_text own <> codes " " <>
    action_text action <> codes " " <> outcome_text outcome
input_text (Query tick text) = codes "query " <> decimal tick <> codes " " <> text

-- ---- the effects of an entry, a line each

-- the line of a frame's fate
abbrev pub fate_text : Option Fate → List ℕ
fate_text None = []
fate_text (Some fate) = codes "  fate " <> fate_name fate <> codes "\n"

-- the line of a port whose state changed
abbrev pub moved_text : Moved → List ℕ
moved_text m =
    codes "  state " <> decimal m.port <> codes " " <> state_name m.old <> codes " " <> state_name
    m.new <> codes "\n"

-- the lines of the ports whose states changed
abbrev pub moves_text : List Moved → List ℕ
moves_text [] = []
moves_text (m ∷ ms) = moved_text m <> moves_text ms

-- the line of a new parent
abbrev pub parent_text : Option PortId → List ℕ
parent_text None = []
parent_text (Some parent) = codes "  parent " <> port_text parent <> codes "\n"

-- the lines of the orders
abbrev pub orders_text : List RoleOrder → List ℕ
orders_text [] = []
orders_text (order ∷ orders) =
    codes "  order " <> decimal order.clock <> codes " " <> decimal order.gener <> codes " " <>
    decimal order.ctrl <> codes "\n" <> orders_text orders

-- the line of a measure
abbrev pub measure_text : Option (Measure × Held) → List ℕ
measure_text None = []
measure_text (Some m) =
    codes "  measure " <> decimal m.1.gener <> codes " " <> decimal m.1.clock <> codes " " <>
    signed_decimal m.0.offset <> codes " " <> signed_decimal m.0.delay
    <> codes " " <> signed_decimal m.0.local <> codes "\n"

-- the lines of the frames that were sent
abbrev pub frames_text : List Sent → List ℕ
frames_text [] = []
frames_text (sent ∷ rest) =
    codes "  send " <> decimal sent.port <> codes " " <> encode_lower sent.octets <> codes "\n" <>
    frames_text rest

-- whom a follower copies
abbrev pub lead_text : Option Lead → List ℕ
lead_text None = codes "none"
lead_text (Some lead) = decimal lead.gener <> codes " " <> decimal lead.source

-- the line of what a follower's turn told
abbrev pub told_text : Option Told → List ℕ
told_text None = []
told_text (Some told) =
    codes "  told " <> lead_text told.lead <> codes " missed " <> decimal told.missed <> codes "\n"

-- why a query makes no request
abbrev pub asked_name : AskError → List ℕ
asked_name Ask_action = codes "action"
asked_name Ask_unknown = codes "unknown"
asked_name Ask_target = codes "target"

-- the line of a query that makes no request
abbrev pub asked_text : Option AskError → List ℕ
asked_text None = []
asked_text (Some error) = codes "  asked " <> asked_name error <> codes "\n"

-- the lines that print an answer, where it can be printed
abbrev pub answer_lines : List ℕ → List (List ℕ)
answer_lines answer = if shows answer then printed_lines answer else []

-- each line behind four spaces
abbrev pub indented : List (List ℕ) → List ℕ
indented [] = []
indented (line ∷ lines) = codes "    " <> line <> codes "\n" <> indented lines

-- the lines of the answers, each with its printed lines behind it
abbrev pub answers_text : List (List ℕ) → List ℕ
answers_text [] = []
answers_text (answer ∷ answers) =
    codes "  answer " <> encode_lower answer <> codes "\n" <> indented (answer_lines answer) <>
    answers_text answers

-- the lines of all effects of an entry
unfoldable pub effects_text : Effects → List ℕ
effects_text f =
    fate_text f.fate <> moves_text f.states <> parent_text f.parent <> orders_text f.orders <>
    measure_text f.measure <> frames_text f.frames
    <> told_text f.told <> asked_text f.asked <> answers_text f.answers

-- ---- the run

-- the lines of entry n
unfoldable pub entry_text : ℕ → Entry → List ℕ
entry_text n e =
    codes "event " <> decimal n <> codes " " <> decimal e.moment <> codes " " <> input_text e.input
    <> seen_text e.seen <> codes "\n" <> effects_text e.effects

-- the entries, numbered from n
abbrev pub entries_text : ℕ → List Entry → List ℕ
entries_text n [] = []
entries_text n (e ∷ es) = entry_text n e <> entries_text (n + 1) es

-- the line of an entry of a clock's log
abbrev pub log_entry_text : ℕ → ℕ → LogEntry → List ℕ
log_entry_text clock number (Order gener ctrl) =
    codes "log " <> decimal clock <> codes " " <> decimal number <> codes " order " <> decimal gener
    <> codes " " <> decimal ctrl <> codes "\n"
log_entry_text clock number (Change gener ctrl tick step freq) =
    codes "log " <> decimal clock <> codes " " <> decimal number <> codes " change " <> decimal
    gener <> codes " " <> decimal ctrl <> codes " " <> decimal tick
    <> codes " " <> signed_decimal step <> codes " " <> signed_decimal freq <> codes "\n"

-- the entries of a clock's log, numbered from number
abbrev pub log_entries_text : ℕ → ℕ → List LogEntry → List ℕ
log_entries_text clock number [] = []
log_entries_text clock number (entry ∷ entries) =
    log_entry_text clock number entry <> log_entries_text clock (number + 1) entries

-- a drift in ppb
abbrev pub drift_text : ClockState → List ℕ
drift_text opening = signed_decimal (floor_of opening.drift (pos 65536))

-- the lines of a clock: its opening, and the entries of its log
unfoldable pub log_text : Log → List ℕ
log_text log =
    codes "clock " <> decimal log.clock <> codes " " <> signed_decimal log.opening.time <> codes " "
    <> drift_text log.opening <> codes "\n" <> log_entries_text log.clock 1 log.entries

-- the lines of all clocks
abbrev pub logs_text : List Log → List ℕ
logs_text [] = []
logs_text (log ∷ logs) = log_text log <> logs_text logs

-- the transcript of a run
abbrev pub text_of : Run → List ℕ
text_of r =
    codes "bc-transcript 1\n" <> entries_text 1 r.entries <> logs_text r.logs <> codes "end " <>
    decimal (length r.entries) <> codes "\n"
