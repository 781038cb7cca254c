-- Every line that is printed is found again, and so what is not found, or is not printed so again, is
-- no line.
use Rattle.std.proofs.Common.{◌≡◌, ◌≢◌, MatchBool, ℕ, Bool, true, false, List, Some, None, sym, ap, ◌∙◌, subst}
use Rattle.ptp_profile.specs.declared.seats.LogEntry.TheVariants.{Order as An_order, Change as A_change}
use Rattle.transcript.specs.declared.line.Line.{Line}
use Rattle.transcript.specs.declared.line.Line.TheVariants.{Head, Event, Fate, State, Parent, Order, Measure, Sent, Told, Asked, Answer, Printed, Clock, Logged, End}
use Rattle.transcript.specs.TranscriptLines.{line_text, IsFormedLine, IsLineOf, IsReadOf}
use Rattle.transcript.specs.TypedLines.{IsTypedLine}
use Rattle.transcript.specs.FormedTests.{formed_line}
use Rattle.transcript.specs.LineReaders.{line_of}
use Rattle.transcript.proofs.lemmas.ReadLineLemmas.{head-line, fate-line, asked-line, state-line, parent-line, order-line, measure-line, sent-line, told-line, answer-line, printed-line, clock-line, order_entry-line, change-line, end-line}
use Rattle.transcript.proofs.lemmas.ReadEventLemmas.{event-line}
use Rattle.transcript.proofs.lemmas.FormedTestLemmas.{line_formed, line_test}

again : (line : Line) → IsFormedLine line → IsTypedLine line → line_of (line_text line) ≡ Some line
again Head formed typed = head-line
again (Event number moment input seen) formed (n, m, i, s) = event-line number moment input seen n m i s formed.1
again (Fate fate) formed typed = fate-line fate
again (State m) formed typed = state-line m typed
again (Parent parent) formed typed = parent-line parent typed
again (Order order) formed typed = order-line order typed
again (Measure measure gener clock) formed (m, g, c) = measure-line measure gener clock m g c
again (Sent sent) formed typed = sent-line sent typed.0 typed.1
again (Told told) formed typed = told-line told typed.0 typed.1
again (Asked error) formed typed = asked-line error
again (Answer answer) formed typed = answer-line answer typed
again (Printed text) formed typed = printed-line text
again (Clock clock time drift) formed (c, t, d) = clock-line clock time drift c t d formed
again (Logged clock number (An_order gener ctrl)) formed (c, n, e) = order_entry-line clock number gener ctrl c n e.0 e.1
again (Logged clock number (A_change gener ctrl tick step freq)) formed (c, n, e) = change-line clock number gener ctrl tick step freq c n e
again (End number) formed typed = end-line number typed

not_some : (line : Line) → None ≡ Some line → ⊥
not_some line e = cc

same_some : (a b : Line) → Some a ≡ Some b → a ≡ b
same_some a b e = cc

unlike : false ≡ true → ⊥
unlike e = cc

-- a line is found by its text
pub found_by_text : (octets : List ℕ) (line : Line) → IsLineOf octets line → line_of octets ≡ Some line
found_by_text octets line is = ap line_of (sym is.text) ∙ again line is.formed is.typed

-- where none is found, the octets are no line's
pub none_found : (octets : List ℕ) → None ≡ line_of octets → IsReadOf octets None
none_found octets none line is = not_some line (none ∙ found_by_text octets line is)

-- where the only one is none of the octets, they are no line's either
pub other_found : (octets : List ℕ) (read : Line) → Some read ≡ line_of octets → (IsLineOf octets read → ⊥) → IsReadOf octets None
other_found octets read some other line is =
    let same : read ≡ line = same_some read line (some ∙ found_by_text octets line is) in
    other (subst (λ l. IsLineOf octets l) (sym same) is)

-- what is not formed is no line
pub unformed : (octets : List ℕ) (line : Line) → formed_line line ≡ false → IsLineOf octets line → ⊥
unformed octets line bare is = unlike (sym bare ∙ line_test line is.formed)

-- what is formed is the line of the octets where it is printed so
pub printed_so : (same : Bool) (octets text : List ℕ) (line : Line) → MatchBool same (text ≡ octets) (text ≢ octets) → text ≡ line_text line → formed_line line ≡ true → IsTypedLine line
    → MatchBool same (IsLineOf octets line) (IsLineOf octets line → ⊥)
printed_so true octets text line same printed formed typed = record { text = sym printed ∙ same; formed = line_formed line formed; typed = typed }
printed_so false octets text line other printed formed typed = λ is. other (printed ∙ is.text)
