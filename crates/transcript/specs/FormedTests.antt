-- Whether a line is formed, as a test of each kind of line (project).
use Rattle.std.specs.Prelude.{ℕ, ℤ, pos, ◌&&◌, Bool, true, not, nat_eq, nat_lt, nat_le, List, length, Option, Some, None}
use Rattle.std.specs.Int.{int_rem_euclid}
use Rattle.std.specs.Ordering.{int_eq}
use Rattle.std.specs.List.{list_all}
use Rattle.ptp_management.specs.ManagementQueries.{words_of, shows}
use Rattle.bc_history.specs.declared.entry.Input.{Input}
use Rattle.bc_history.specs.declared.entry.Input.TheVariants.{Frame, Timed, Down, Up, Report, Turn, Sampled, Query}
use Rattle.bc_history.specs.declared.entry.Seen.{Seen}
use Rattle.bc_history.specs.Phases.Inputs.{is_read}
use Rattle.transcript.specs.declared.line.Line.{Line}
use Rattle.transcript.specs.declared.line.Line.TheVariants.{Head, Event, Fate, State, Parent, Order, Measure, Sent, Told, Asked, Answer, Printed, Clock, Logged, End}

-- an octet that may stand in a word of a query
abbrev pub is_shown : ℕ → Bool
is_shown octet = nat_le 0x21 octet && nat_le octet 0x7E

abbrev pub is_shown_word : List ℕ → Bool
is_shown_word word = nat_lt 0 (length word) && list_all is_shown word

-- words, parted by one space each
abbrev pub is_query_text : List ℕ → Bool
is_query_text text = list_all is_shown_word (words_of text)

abbrev pub formed_input : Input → Bool
formed_input (Frame port tick octets) = nat_lt 0 (length octets)
formed_input (Timed port tick timer) = true
formed_input (Down port tick) = true
formed_input (Up port tick) = true
formed_input (Report port tick gener action outcome) = true
formed_input (Turn clock tick) = true
formed_input (Sampled clock tick lead theirs own action outcome) = true
formed_input (Query tick text) = is_query_text text

-- a drift that is a whole number of ppb
abbrev pub is_whole : ℤ → Bool
is_whole drift = int_eq (int_rem_euclid drift (pos 65536)) (pos 0)

-- no newline among them
abbrev pub is_in_line : List ℕ → Bool
is_in_line text = list_all (λ octet. not (nat_eq octet 10)) text

-- a reading stands where the input comes with one
abbrev pub comes_right : Option Seen → Input → Bool
comes_right (Some seen) input = is_read input
comes_right None input = not (is_read input)

abbrev pub formed_line : Line → Bool
formed_line Head = true
formed_line (Event number moment input seen) =
    formed_input input && comes_right seen input
formed_line (Fate fate) = true
formed_line (State m) = true
formed_line (Parent parent) = true
formed_line (Order order) = true
formed_line (Measure measure gener clock) = true
formed_line (Sent sent) = nat_lt 0 (length sent.octets)
formed_line (Told told) = true
formed_line (Asked error) = true
formed_line (Answer answer) = shows answer
formed_line (Printed text) = is_in_line text
formed_line (Clock clock time drift) = is_whole drift
formed_line (Logged clock number entry) = true
formed_line (End number) = true
