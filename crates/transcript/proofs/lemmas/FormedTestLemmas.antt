-- The tests of what is formed tell just that.
use Rattle.std.proofs.Common.{◌≡◌, ◌≢◌, ℕ, ℤ, pos, negsuc, ◌-◌, ◌%◌, ◌*ℤ◌, Bool, true, false, not, ◌&&◌, nat_eq, nat_lt, List, length, Option, Some, None, is_some, refl, sym, ap, arith, lt-ltb}
use Rattle.std.proofs.lemmas.Int.{ints}
use Rattle.std.specs.Ordering.{int_eq}
use Rattle.std.specs.List.{list_all}
use Rattle.std.proofs.lemmas.Bool.{ltb-true}
use Rattle.std.proofs.lemmas.Bool.Decides.{Decides-int_eq}
use Rattle.std.proofs.lemmas.List.Sums.{AllPass-from_list_all, list_all-from_AllPass}
use Rattle.ptp_base.specs.Floor.{floor_of}
use Rattle.ptp_management.specs.ManagementQueries.{words_of}
use Rattle.bc_history.specs.declared.entry.Input.{Input}
use Rattle.bc_history.specs.declared.entry.Input.TheVariants.{Frame, Timed, Down, Up, Report, Turn, Sampled, Query}
use Rattle.bc_history.specs.declared.entry.Seen.{Seen}
use Rattle.bc_history.specs.Phases.Inputs.{is_read}
use Rattle.bc_history.specs.Scenario.OptionTable.{IsFrom}
use Rattle.bc_history.specs.Scenario.QueryTexts.{IsWord, IsQueryText}
use Rattle.bc_history.specs.Run.FormedRuns.{IsFormedInput}
use Rattle.transcript.specs.declared.line.Line.{Line}
use Rattle.transcript.specs.declared.line.Line.TheVariants.{Head, Event, Fate, State, Parent, Order, Measure, Sent, Told, Asked, Answer, Printed, Clock, Logged, End}
use Rattle.transcript.specs.TranscriptLines.{IsFormedLine}
use Rattle.transcript.specs.FormedTests.{is_shown, is_shown_word, is_query_text, formed_input, comes_right, is_whole, formed_line}

both : (a b : Bool) → (a && b) ≡ true → (a ≡ true) × (b ≡ true)
both true b is = (refl, is)
both false b is = cc

-- ---- the text of a query

shown_octet : (octet : ℕ) → is_shown octet ≡ true → IsFrom 0x21 0x7E octet
shown_octet octet is = (grind arith, grind arith)

shown_test : (octet : ℕ) → IsFrom 0x21 0x7E octet → is_shown octet ≡ true
shown_test octet is = grind arith

word_formed : (word : List ℕ) → is_shown_word word ≡ true → IsWord word
word_formed word is =
    let parts = both (nat_lt 0 (length word)) (list_all is_shown word) is in
    record {
      length = ltb-true 0 (length word) parts.0;
      printable = λ k d less. shown_octet _ (AllPass-from_list_all is_shown word parts.1 k d less);
    }

word_test : (word : List ℕ) → IsWord word → is_shown_word word ≡ true
word_test word is =
    rw (lt-ltb 0 (length word) is.length, list_all-from_AllPass is_shown word (λ k d less. shown_test _ (is.printable k d less))) refl

text_formed : (text : List ℕ) → is_query_text text ≡ true → IsQueryText text
text_formed text is = λ k d less. word_formed _ (AllPass-from_list_all is_shown_word (words_of text) is k d less)

text_test : (text : List ℕ) → IsQueryText text → is_query_text text ≡ true
text_test text is = list_all-from_AllPass is_shown_word (words_of text) (λ k d less. word_test _ (is k d less))

-- ---- inputs

input_formed : (input : Input) → formed_input input ≡ true → IsFormedInput input
input_formed (Frame port tick octets) is = ltb-true 0 (length octets) is
input_formed (Timed port tick timer) is = tt
input_formed (Down port tick) is = tt
input_formed (Up port tick) is = tt
input_formed (Report port tick gener action outcome) is = tt
input_formed (Turn clock tick) is = tt
input_formed (Sampled clock tick lead theirs own action outcome) is = tt
input_formed (Query tick text) is = text_formed text is

input_test : (input : Input) → IsFormedInput input → formed_input input ≡ true
input_test (Frame port tick octets) is = lt-ltb 0 (length octets) is
input_test (Timed port tick timer) is = refl
input_test (Down port tick) is = refl
input_test (Up port tick) is = refl
input_test (Report port tick gener action outcome) is = refl
input_test (Turn clock tick) is = refl
input_test (Sampled clock tick lead theirs own action outcome) is = refl
input_test (Query tick text) is = text_test text is

read_not : (read : Bool) → not read ≡ true → false ≡ read
read_not true is = cc
read_not false is = refl

seen_formed : (seen : Option Seen) (input : Input) → comes_right seen input ≡ true → is_some seen ≡ is_read input
seen_formed (Some seen) input is = sym is
seen_formed None input is = read_not (is_read input) is

seen_test : (seen : Option Seen) (input : Input) → is_some seen ≡ is_read input → comes_right seen input ≡ true
seen_test (Some seen) input is = sym is
seen_test None input is = ap not (sym is)

-- ---- octets of a line, and a drift

line_octet : (octet : ℕ) → not (nat_eq octet 10) ≡ true → octet ≢ 10
line_octet octet is = grind arith

octet_test : (octet : ℕ) → octet ≢ 10 → not (nat_eq octet 10) ≡ true
octet_test octet is = grind arith

equal_from : (x y : ℤ) → int_eq x y ≡ true → x ≡ y
equal_from x y is = grind (arith, Decides-int_eq x y)

test_from : (x y : ℤ) → x ≡ y → int_eq x y ≡ true
test_from x y is = grind (arith, Decides-int_eq x y)

same_pos : (a b : ℕ) → pos a ≡ pos b → a ≡ b
same_pos a b e = cc

whole_drift : (drift : ℤ) → is_whole drift ≡ true → drift ≡ floor_of drift (pos 65536) *ℤ pos 65536
whole_drift (pos n) is =
    let none : n % 65536 ≡ 0 = same_pos _ _ (equal_from (pos (n % 65536)) (pos 0) is) in
    omega (arith, ints, none)
whole_drift (negsuc n) is =
    let all : 65536 - 1 - n % 65536 ≡ 0 = same_pos _ _ (equal_from (pos (65536 - 1 - n % 65536)) (pos 0) is) in
    omega (arith, ints, all)

drift_test : (drift : ℤ) → drift ≡ floor_of drift (pos 65536) *ℤ pos 65536 → is_whole drift ≡ true
drift_test (pos n) is =
    let none : n % 65536 ≡ 0 = omega (arith, ints, is) in
    test_from (pos (n % 65536)) (pos 0) (ap pos none)
drift_test (negsuc n) is =
    let all : 65536 - 1 - n % 65536 ≡ 0 = omega (arith, ints, is) in
    test_from (pos (65536 - 1 - n % 65536)) (pos 0) (ap pos all)

-- ---- lines

pub line_formed : (line : Line) → formed_line line ≡ true → IsFormedLine line
line_formed Head is = tt
line_formed (Event number moment input seen) is =
    let parts = both (formed_input input) (comes_right seen input) is in
    (input_formed input parts.0, seen_formed seen input parts.1)
line_formed (Fate fate) is = tt
line_formed (State m) is = tt
line_formed (Parent parent) is = tt
line_formed (Order order) is = tt
line_formed (Measure measure gener clock) is = tt
line_formed (Sent sent) is = ltb-true 0 (length sent.octets) is
line_formed (Told told) is = tt
line_formed (Asked error) is = tt
line_formed (Answer answer) is = is
line_formed (Printed text) is = λ k d less. line_octet _ (AllPass-from_list_all (λ octet. not (nat_eq octet 10)) text is k d less)
line_formed (Clock clock time drift) is = whole_drift drift is
line_formed (Logged clock number entry) is = tt
line_formed (End number) is = tt

pub line_test : (line : Line) → IsFormedLine line → formed_line line ≡ true
line_test Head is = refl
line_test (Event number moment input seen) is = rw (input_test input is.0, seen_test seen input is.1) refl
line_test (Fate fate) is = refl
line_test (State m) is = refl
line_test (Parent parent) is = refl
line_test (Order order) is = refl
line_test (Measure measure gener clock) is = refl
line_test (Sent sent) is = lt-ltb 0 (length sent.octets) is
line_test (Told told) is = refl
line_test (Asked error) is = refl
line_test (Answer answer) is = is
line_test (Printed text) is = list_all-from_AllPass (λ octet. not (nat_eq octet 10)) text (λ k d less. octet_test _ (is k d less))
line_test (Clock clock time drift) is = drift_test drift is
line_test (Logged clock number entry) is = refl
line_test (End number) is = refl
