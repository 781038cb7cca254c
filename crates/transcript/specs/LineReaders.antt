-- What the words of a line stand for, by the kind of line: readers that find whatever line may have
-- been printed so (project).
use Rattle.std.specs.Prelude.{ℕ, ℤ, ◌+◌, Bool, ◌==◌, nat_eq, if◌then◌else◌, List, drop, codes, Option, Some, None, option_map}
use Rattle.std.specs.List.{after_first, starts_with}
use Rattle.ptp_base.specs.declared.port_state.PortState.{PortState}
use Rattle.ptp_profile.specs.declared.timing.Action.{Action}
use Rattle.ptp_profile.specs.declared.timing.Action.TheVariants.{Unlocked as Unlocked_action, Jump, Locked}
use Rattle.ptp_profile.specs.declared.roles.Lead.{Lead}
use Rattle.ptp_profile.specs.declared.seats.LogEntry.{LogEntry}
use Rattle.ptp_profile.specs.declared.seats.LogEntry.TheVariants.{Order as An_order, Change as A_change}
use Rattle.ptp_profile.specs.Port.PrintedNames.{state_name}
use Rattle.ptp_management.specs.ManagementQueries.{words_of}
use Rattle.bc_history.specs.declared.entry.Input.{Input}
use Rattle.bc_history.specs.declared.entry.Input.TheVariants.{Frame, Timed, Down, Up, Report, Turn, Sampled, Query}
use Rattle.bc_history.specs.declared.entry.Outcome.{Outcome}
use Rattle.bc_history.specs.declared.entry.Outcome.TheVariants.{Unlocked, Changed, Superseded, Spent}
use Rattle.bc_history.specs.declared.entry.Seen.{Seen}
use Rattle.bc_history.specs.Phases.Inputs.{is_read}
use Rattle.bc_history.specs.Scenario.SectionHeaders.{is_word}
use Rattle.bc_history.specs.Run.Transcript.{timer_name, fate_name, asked_name}
use Rattle.transcript.specs.declared.line.Line.{Line}
use Rattle.transcript.specs.declared.line.Line.TheVariants.{Head, Event, Fate, State, Parent, Order, Measure, Sent, Told, Asked, Answer, Printed, Clock, Logged, End}
use Rattle.transcript.specs.declared.names.TheConstants.{TIMERS, FATES, ASK_ERRORS, STATES}
use Rattle.transcript.specs.WordReaders.{all2, all3, all4, all5, word_at, number_of, integer_of, signed_of, scaled_of, octets_of, port_of, named}

-- ---- parts of lines, of which the first word is number i

-- a reading
abbrev pub seen_from : ℕ → ℤ → ℤ → Seen
seen_from number value freq = record { number = number; value = value; freq = freq }

abbrev pub reading_of : List (List ℕ) → ℕ → Option Seen
reading_of words i =
    all3 seen_from (number_of 32 (word_at words i)) (signed_of 63 (word_at words (i + 1)))
    (signed_of 63 (word_at words (i + 2)))

-- what a follower copies
abbrev pub lead_from : ℕ → ℕ → Lead
lead_from gener source = record { gener = gener; source = source }

abbrev pub lead_of : List (List ℕ) → ℕ → Option Lead
lead_of words i =
    all2 lead_from (number_of 32 (word_at words i)) (number_of 8 (word_at words (i + 1)))

-- what an exchange gave
abbrev pub outcome_of : List (List ℕ) → ℕ → Option Outcome
outcome_of words i =
    if is_word (word_at words i) (codes "none") then Some Unlocked
    else if is_word (word_at words i) (codes "changed")
    then option_map Changed (number_of 32 (word_at words (i + 1)))
    else if is_word (word_at words i) (codes "superseded")
    then all2 Superseded (number_of 32 (word_at words (i + 1))) (number_of 32 (word_at words (i + 2)))
    else if is_word (word_at words i) (codes "spent")
    then option_map Spent (number_of 32 (word_at words (i + 1)))
    else None

-- what a servo asked
abbrev pub jump_of : List (List ℕ) → ℕ → Option Action
jump_of words i = all2 Jump (signed_of 63 (word_at words i)) (signed_of 63 (word_at words (i + 1)))

abbrev pub locked_of : List (List ℕ) → ℕ → Option Action
locked_of words i = option_map Locked (signed_of 63 (word_at words i))

abbrev pub exchange_from : Action → Outcome → Action × Outcome
exchange_from action outcome = (action, outcome)

-- what a servo asked, and what the exchange gave
abbrev pub exchange_of : List (List ℕ) → ℕ → Option (Action × Outcome)
exchange_of words i =
    if is_word (word_at words i) (codes "unlocked")
    then all2 exchange_from (Some Unlocked_action) (outcome_of words (i + 1))
    else if is_word (word_at words i) (codes "jump")
    then all2 exchange_from (jump_of words (i + 1)) (outcome_of words (i + 3))
    else if is_word (word_at words i) (codes "locked")
    then all2 exchange_from (locked_of words (i + 1)) (outcome_of words (i + 2))
    else None

-- ---- events

abbrev pub report_from : ℕ → ℕ → ℕ → Action × Outcome → Input
report_from port tick gener exchange = Report port tick gener exchange.0 exchange.1

abbrev pub report_of : List (List ℕ) → Option Input
report_of words =
    all4 report_from (number_of 16 (word_at words 4)) (number_of 64 (word_at words 6))
    (number_of 32 (word_at words 7)) (exchange_of words 8)

abbrev pub frame_of : List (List ℕ) → Option Input
frame_of words =
    all3 Frame (number_of 16 (word_at words 4)) (number_of 64 (word_at words 6))
    (octets_of (word_at words 7))

-- what happened to a port, but for a frame
abbrev pub port_input_of : List (List ℕ) → Option Input
port_input_of words =
    if is_word (word_at words 5) (codes "timer")
    then all3 Timed (number_of 16 (word_at words 4)) (number_of 64 (word_at words 6))
    (named timer_name TIMERS (word_at words 7))
    else if is_word (word_at words 5) (codes "down")
    then all2 Down (number_of 16 (word_at words 4)) (number_of 64 (word_at words 6))
    else if is_word (word_at words 5) (codes "up")
    then all2 Up (number_of 16 (word_at words 4)) (number_of 64 (word_at words 6))
    else if is_word (word_at words 5) (codes "report") then report_of words
    else None

abbrev pub sampled_from : ℕ → ℕ → Lead → Seen × Seen → Action × Outcome → Input
sampled_from clock tick lead seen exchange =
    Sampled clock tick lead seen.0 seen.1 exchange.0 exchange.1

abbrev pub readings_from : Seen → Seen → Seen × Seen
readings_from theirs own = (theirs, own)

-- both readings of a sample
abbrev pub readings_of : List (List ℕ) → Option (Seen × Seen)
readings_of words = all2 readings_from (reading_of words 10) (reading_of words 14)

abbrev pub sampled_of : List (List ℕ) → Option Input
sampled_of words =
    all5 sampled_from (number_of 8 (word_at words 4)) (number_of 64 (word_at words 6))
    (lead_of words 7) (readings_of words) (exchange_of words 17)

-- what happened to a follower
abbrev pub clock_input_of : List (List ℕ) → Option Input
clock_input_of words =
    if is_word (word_at words 5) (codes "turn")
    then all2 Turn (number_of 8 (word_at words 4)) (number_of 64 (word_at words 6))
    else if is_word (word_at words 5) (codes "sampled") then sampled_of words
    else None

abbrev pub is_space : ℕ → Bool
is_space octet = octet == 32

-- what stands behind the first space
abbrev pub behind : List ℕ → List ℕ
behind text = after_first is_space text

-- a query: its text is all that stands behind five words
abbrev pub query_of : List ℕ → List (List ℕ) → Option Input
query_of line words =
    option_map (λ (tick : ℕ). Query tick (behind (behind (behind (behind (behind line))))))
    (number_of 64 (word_at words 4))

abbrev pub input_of : List ℕ → List (List ℕ) → Option Input
input_of line words =
    if is_word (word_at words 3) (codes "port")
    then (if is_word (word_at words 5) (codes "frame") then frame_of words else port_input_of words)
    else if is_word (word_at words 3) (codes "clock") then clock_input_of words
    else if is_word (word_at words 3) (codes "query") then query_of line words
    else None

-- the reading that an input comes with
abbrev pub seen_of : Input → List (List ℕ) → Option (Option Seen)
seen_of input words = if is_read input then option_map Some (reading_of words 9) else Some None

abbrev pub event_from : ℕ → ℕ → Input → Option Seen → Line
event_from number moment input seen = Event number moment input seen

abbrev pub event_with : Option Input → List (List ℕ) → Option Line
event_with None words = None
event_with (Some input) words =
    all3 (λ number moment seen. event_from number moment input seen)
    (number_of 64 (word_at words 1)) (number_of 64 (word_at words 2)) (seen_of input words)

abbrev pub event_of : List ℕ → List (List ℕ) → Option Line
event_of line words = event_with (input_of line words) words

-- ---- effects

abbrev pub moved_from : ℕ → PortState → PortState → Line
moved_from port old new = State (record { port = port; old = old; new = new })

abbrev pub order_from : ℕ → ℕ → ℕ → Line
order_from clock gener ctrl = Order (record { clock = clock; gener = gener; ctrl = ctrl })

abbrev pub measure_from : ℕ → ℕ → ℤ → ℤ → ℤ → Line
measure_from gener clock offset delay local =
    Measure (record { offset = offset; delay = delay; local = local }) gener clock

abbrev pub sent_from : ℕ → List ℕ → Line
sent_from port octets = Sent (record { port = port; octets = octets })

abbrev pub told_from : Option Lead → ℕ → Line
told_from lead missed = Told (record { lead = lead; missed = missed })

-- what a follower was told
abbrev pub told_of : List (List ℕ) → Option Line
told_of words =
    if is_word (word_at words 3) (codes "none")
    then all2 told_from (Some None) (number_of 32 (word_at words 5))
    else all2 told_from (option_map Some (lead_of words 3)) (number_of 32 (word_at words 6))

abbrev pub moved_of : List (List ℕ) → Option Line
moved_of words =
    all3 moved_from (number_of 16 (word_at words 3)) (named state_name STATES (word_at words 4))
    (named state_name STATES (word_at words 5))

abbrev pub order_of : List (List ℕ) → Option Line
order_of words =
    all3 order_from (number_of 8 (word_at words 3)) (number_of 32 (word_at words 4))
    (number_of 8 (word_at words 5))

abbrev pub measure_of : List (List ℕ) → Option Line
measure_of words =
    all5 measure_from (number_of 32 (word_at words 3)) (number_of 8 (word_at words 4))
    (integer_of (word_at words 5)) (integer_of (word_at words 6)) (signed_of 63 (word_at words 7))

-- an effect without octets
abbrev pub plain_effect_of : List (List ℕ) → Option Line
plain_effect_of words =
    if is_word (word_at words 2) (codes "fate")
    then option_map Fate (named fate_name FATES (word_at words 3))
    else if is_word (word_at words 2) (codes "state") then moved_of words
    else if is_word (word_at words 2) (codes "order") then order_of words
    else if is_word (word_at words 2) (codes "measure") then measure_of words
    else if is_word (word_at words 2) (codes "told") then told_of words
    else if is_word (word_at words 2) (codes "asked")
    then option_map Asked (named asked_name ASK_ERRORS (word_at words 3))
    else None

abbrev pub parent_of : List (List ℕ) → Option Line
parent_of words = option_map Parent (port_of (word_at words 3))

abbrev pub sent_of : List (List ℕ) → Option Line
sent_of words = all2 sent_from (number_of 16 (word_at words 3)) (octets_of (word_at words 4))

abbrev pub answer_of : List (List ℕ) → Option Line
answer_of words = option_map Answer (octets_of (word_at words 3))

abbrev pub effect_of : List (List ℕ) → Option Line
effect_of words =
    if is_word (word_at words 2) (codes "parent") then parent_of words
    else if is_word (word_at words 2) (codes "send") then sent_of words
    else if is_word (word_at words 2) (codes "answer") then answer_of words
    else plain_effect_of words

-- ---- logs

-- the opening of a clock
abbrev pub clock_of : List (List ℕ) → Option Line
clock_of words =
    all3 Clock (number_of 8 (word_at words 1)) (signed_of 63 (word_at words 2))
    (scaled_of (word_at words 3))

-- an entry of a clock's log
abbrev pub order_entry_of : List (List ℕ) → Option LogEntry
order_entry_of words =
    all2 An_order (number_of 32 (word_at words 4)) (number_of 8 (word_at words 5))

abbrev pub change_of : List (List ℕ) → Option LogEntry
change_of words =
    all5 A_change (number_of 32 (word_at words 4)) (number_of 8 (word_at words 5))
    (number_of 64 (word_at words 6)) (signed_of 63 (word_at words 7)) (signed_of 63 (word_at words 8))

abbrev pub entry_of : List (List ℕ) → Option LogEntry
entry_of words =
    if is_word (word_at words 3) (codes "order") then order_entry_of words
    else if is_word (word_at words 3) (codes "change") then change_of words
    else None

abbrev pub logged_of : List (List ℕ) → Option Line
logged_of words =
    all3 Logged (number_of 8 (word_at words 1)) (number_of 64 (word_at words 2)) (entry_of words)

-- ---- all

abbrev pub end_of : List (List ℕ) → Option Line
end_of words = option_map End (number_of 64 (word_at words 1))

-- a line that no margin stands before
abbrev pub line_in : List ℕ → List (List ℕ) → Option Line
line_in line words =
    if is_word (word_at words 0) (codes "") then effect_of words
    else if is_word (word_at words 0) (codes "event") then event_of line words
    else if is_word (word_at words 0) (codes "log") then logged_of words
    else if is_word (word_at words 0) (codes "clock") then clock_of words
    else if is_word (word_at words 0) (codes "bc-transcript") then Some Head
    else if is_word (word_at words 0) (codes "end") then end_of words
    else None

-- the only line whose text the octets may be
unfoldable pub line_of : List ℕ → Option Line
line_of line =
    if starts_with nat_eq line (codes "    ") then Some (Printed (drop 4 line))
    else line_in line (words_of line)
