-- A text is split at its newlines in one way.
use Rattle.std.proofs.Common.{◌≡◌, ◌≢◌, ℕ, ◌<◌, ◌≤◌, ◌^◌, refl, sym, ap, ◌∙◌, arith, List, [], ◌∷◌, ◌++◌, append_assoc, subst}
use Rattle.std.specs.Prelude.{All}
use Rattle.std.proofs.lemmas.List.{append-nil}
use Rattle.std.proofs.lemmas.List.Elements.{All-head, All-tail, All-cons, All-nil}
use Rattle.std.specs.List.{join_with_byte}
use Rattle.std.proofs.lemmas.List.Splits.{join_with_byte-slice_split}
use Rattle.ptp_management.specs.ManagementQueries.{lines_text, printed_lines, words_of}
use Rattle.bc_history.specs.Scenario.OptionTable.{IsFrom}
use Rattle.bc_history.specs.Scenario.QueryTexts.{IsWord, IsQueryText}
use Rattle.transcript.specs.TypedLines.{AreOctets}
use Rattle.transcript.specs.ShownLines.{IsLine, AreLines, BeginsWith}
use Rattle.transcript.proofs.lemmas.MarginLemmas.{lines-printed, line-append, IsLine as HasNoNewline, AreLines as HaveNoNewline}

-- two texts that begin with a line begin with the same one
pub same_line : (a b x y : List ℕ) → IsLine a → IsLine b → a ++ 10 ∷ x ≡ b ++ 10 ∷ y → (a ≡ b) × (x ≡ y)
same_line [] [] x y la lb h = (refl, cc)
same_line [] (c ∷ b) x y la lb h =
    let ten : c ≡ 10 = cc in
    absurd (All-head (λ (octet : ℕ). octet ≢ 10) c b lb ten)
same_line (c ∷ a) [] x y la lb h =
    let ten : c ≡ 10 = cc in
    absurd (All-head (λ (octet : ℕ). octet ≢ 10) c a la ten)
same_line (c ∷ a) (e ∷ b) x y la lb h =
    let head : c ≡ e = cc in
    let tail : a ++ 10 ∷ x ≡ b ++ 10 ∷ y = cc in
    let rest = same_line a b x y (All-tail (λ (octet : ℕ). octet ≢ 10) c a la) (All-tail (λ (octet : ℕ). octet ≢ 10) e b lb) tail in
    let front : a ≡ b = rest.0 in
    (cc, rest.1)

-- a text with a newline is no line
pub no_line : (a x : List ℕ) → IsLine (a ++ 10 ∷ x) → ⊥
no_line [] x h = All-head (λ (octet : ℕ). octet ≢ 10) 10 x h refl
no_line (c ∷ a) x h = no_line a x (All-tail (λ (octet : ℕ). octet ≢ 10) c (a ++ 10 ∷ x) h)

-- a text with a newline is not empty
pub not_empty : (a x : List ℕ) → [] ≡ a ++ 10 ∷ x → ⊥
not_empty [] x h = absurd (cc)
not_empty (c ∷ a) x h = absurd (cc)

-- ---- the lines that print an answer

pub line_again : (xs : List ℕ) → HasNoNewline xs → IsLine xs
line_again [] h = All-nil (λ (octet : ℕ). octet ≢ 10)
line_again (x ∷ xs) h = All-cons (λ (octet : ℕ). octet ≢ 10) x xs h.0.0 (line_again xs h.1)

lines_again : (lines : List (List ℕ)) → HaveNoNewline lines → AreLines lines
lines_again [] h = All-nil IsLine
lines_again (line ∷ lines) h = All-cons IsLine line lines (line_again line h.0) (lines_again lines h.1)

pub printed_are_lines : (answer : List ℕ) → AreLines (printed_lines answer)
printed_are_lines answer = lines_again (printed_lines answer) (lines-printed answer)

-- ---- a text of lines is split

-- of the lines of a text those were found, and others make up the rest
pub record IsRest (lines found : List (List ℕ)) (rest : List ℕ) : Type 0 where
  pub left : List (List ℕ)
  pub are : AreLines left
  pub all : lines ≡ found ++ left
  pub text : rest ≡ lines_text left

abbrev pub IsSplitTo : List ℕ → List (List ℕ) → List ℕ → Type 0
IsSplitTo text found rest = (lines : List (List ℕ)) → AreLines lines → text ≡ lines_text lines → IsRest lines found rest

pub split_begins : (text : List ℕ) → IsSplitTo text [] text
split_begins text lines are is = record { left = lines; are = are; all = refl; text = is }

rest_more : (lines found left : List (List ℕ)) (rest line behind : List ℕ) → AreLines left → lines ≡ found ++ left → rest ≡ lines_text left → BeginsWith rest line behind → IsRest lines (found ++ line ∷ []) behind
rest_more lines found [] rest line behind are all text begins = absurd (not_empty line behind (sym text ∙ begins.whole))
rest_more lines found (x ∷ left) rest line behind are all text begins =
    let same = same_line x line (lines_text left) behind (All-head IsLine x left are) begins.first (sym text ∙ begins.whole) in
    record {
      left = left;
      are = All-tail IsLine x left are;
      all = all ∙ sym (append_assoc found (x ∷ []) left) ∙ ap (λ (y : List ℕ). (found ++ y ∷ []) ++ left) same.0;
      text = sym same.1;
    }

pub split_goes_on : (text : List ℕ) (found more : List (List ℕ)) (rest line behind : List ℕ) → IsSplitTo text found rest → BeginsWith rest line behind → more ≡ found ++ line ∷ [] → IsSplitTo text more behind
split_goes_on text found more rest line behind at begins is lines are text_is =
    let was = at lines are text_is in
    subst (λ (all : List (List ℕ)). IsRest lines all behind) (sym is) (rest_more lines found was.left rest line behind was.are was.all was.text begins)

rest_ends : (lines found left : List (List ℕ)) (rest : List ℕ) → lines ≡ found ++ left → rest ≡ lines_text left → IsLine rest → found ≡ lines
rest_ends lines found [] rest all text none = sym (all ∙ append-nil found)
rest_ends lines found (x ∷ left) rest all text none = absurd (no_line x (lines_text left) (subst IsLine text none))

pub split_ends : (text : List ℕ) (found : List (List ℕ)) (rest : List ℕ) → IsSplitTo text found rest → IsLine rest → (lines : List (List ℕ)) → AreLines lines → text ≡ lines_text lines → found ≡ lines
split_ends text found rest at none lines are is =
    let was = at lines are is in
    rest_ends lines found was.left rest was.all was.text none

-- ---- no newline, by cases on the list

pub plain_again : (xs : List ℕ) → IsLine xs → AreOctets xs → HasNoNewline xs
plain_again [] h within = tt
plain_again (x ∷ xs) h within = (
  (All-head (λ (octet : ℕ). octet ≢ 10) x xs h, All-head (λ (octet : ℕ). octet < 2 ^ 8) x xs within),
  plain_again xs (All-tail (λ (octet : ℕ). octet ≢ 10) x xs h) (All-tail (λ (octet : ℕ). octet < 2 ^ 8) x xs within),
)

-- and the octets in range
pub octets_again : (xs : List ℕ) → HasNoNewline xs → AreOctets xs
octets_again [] h = All-nil (λ (octet : ℕ). octet < 2 ^ 8)
octets_again (x ∷ xs) h = All-cons (λ (octet : ℕ). octet < 2 ^ 8) x xs h.0.1 (octets_again xs h.1)

word_plain : (word : List ℕ) → All (λ (octet : ℕ). IsFrom 0x21 0x7E octet) word → HasNoNewline word
word_plain [] h = tt
word_plain (x ∷ word) h =
    let first = All-head (λ (octet : ℕ). IsFrom 0x21 0x7E octet) x word h in
    let above : 33 ≤ x = first.0 in
    let under : x ≤ 126 = first.1 in
    (((λ (e : x ≡ 10). absurd (omega arith)), omega arith), word_plain word (All-tail (λ (octet : ℕ). IsFrom 0x21 0x7E octet) x word h))

joined_plain : (words : List (List ℕ)) → All IsWord words → HasNoNewline (join_with_byte 32 words)
joined_plain [] h = tt
joined_plain (word ∷ []) h = word_plain word (All-head IsWord word [] h).printable
joined_plain (word ∷ next ∷ words) h =
    line-append word (32 ∷ join_with_byte 32 (next ∷ words)) (word_plain word (All-head IsWord word (next ∷ words) h).printable)
    (((λ (e : 32 ≡ 10). absurd (omega (arith, e))), omega arith), joined_plain (next ∷ words) (All-tail IsWord word (next ∷ words) h))

-- the text of a query is in one line
pub query_plain : (text : List ℕ) → IsQueryText text → HasNoNewline text
query_plain text formed = subst HasNoNewline (join_with_byte-slice_split 32 text) (joined_plain (words_of text) formed)
