-- A text tells its lines: it is that of one list of lines at most.
use Rattle.std.proofs.Common.{◌≡◌, ℕ, ◌≤◌, refl, sym, ap, ◌∙◌, arith, List, [], ◌∷◌, ◌++◌, length, length-append, append_assoc, Some}
use Rattle.std.specs.Prelude.{All}
use Rattle.std.proofs.lemmas.List.{append-nil}
use Rattle.std.proofs.lemmas.List.Elements.{All-head, All-tail}
use Rattle.transcript.specs.declared.line.Line.{Line}
use Rattle.transcript.specs.RunLines.{lines_text}
use Rattle.transcript.specs.TranscriptLines.{line_text, IsFormedLine, IsLineOf}
use Rattle.transcript.specs.TypedLines.{IsTypedLine}
use Rattle.transcript.proofs.lemmas.LinePlainLemmas.{line_plain}
use Rattle.transcript.proofs.lemmas.ReadBackLemmas.{found_by_text}
use Rattle.transcript.proofs.lemmas.SplitLemmas.{same_line, not_empty}

some_same : (a b : Line) → Some a ≡ Some b → a ≡ b
some_same a b h = cc

-- octets are the text of one line at most
pub one_line : (octets : List ℕ) (a b : Line) → IsLineOf octets a → IsLineOf octets b → a ≡ b
one_line octets a b is_a is_b = some_same a b (sym (found_by_text octets a is_a) ∙ found_by_text octets b is_b)

-- a line that is formed, with numbers in the ranges of their types
pub record IsGoodLine (line : Line) : Type 0 where
  pub formed : IsFormedLine line
  pub typed : IsTypedLine line

pub same_text : (a b : Line) → IsGoodLine a → IsGoodLine b → line_text a ≡ line_text b → a ≡ b
same_text a b good_a good_b same =
    one_line (line_text b) a b (record { text = same; formed = good_a.formed; typed = good_a.typed }) (record { text = refl; formed = good_b.formed; typed = good_b.typed })

pub lines_text-append : (xs ys : List Line) → lines_text (xs ++ ys) ≡ lines_text xs ++ lines_text ys
lines_text-append [] ys = refl
lines_text-append (x ∷ xs) ys =
    ap (λ (text : List ℕ). line_text x ++ 10 ∷ text) (lines_text-append xs ys) ∙ sym (append_assoc (line_text x) (10 ∷ lines_text xs) (lines_text ys))

-- lines that begin with others
pub record BeginsLines (xs ys : List Line) (front rest : List ℕ) : Type 0 where
  pub more : List Line
  pub lines : xs ≡ ys ++ more
  pub text : rest ≡ lines_text more ++ front

-- of two lists of lines whose texts begin one text, the longer begins with the other
pub begins_lines : (ys xs : List Line) (front rest : List ℕ) → All IsGoodLine ys → All IsGoodLine xs → length ys ≤ length xs
    → lines_text xs ++ front ≡ lines_text ys ++ rest → BeginsLines xs ys front rest
begins_lines [] xs front rest good_ys good_xs long same = record { more = xs; lines = refl; text = sym same }
begins_lines (y ∷ ys) [] front rest good_ys good_xs long same = absurd (omega (arith, long))
begins_lines (y ∷ ys) (x ∷ xs) front rest good_ys good_xs long same =
    let good_y = All-head IsGoodLine y ys good_ys in
    let good_x = All-head IsGoodLine x xs good_xs in
    let split = same_line (line_text x) (line_text y) (lines_text xs ++ front) (lines_text ys ++ rest) (line_plain x good_x.formed good_x.typed) (line_plain y good_y.formed good_y.typed)
    (sym (append_assoc (line_text x) (10 ∷ lines_text xs) front) ∙ same ∙ append_assoc (line_text y) (10 ∷ lines_text ys) rest) in
    let first = same_text x y good_x good_y split.0 in
    let further = begins_lines ys xs front rest (All-tail IsGoodLine y ys good_ys) (All-tail IsGoodLine x xs good_xs) (omega (arith, long)) split.1 in
    record {
      more = further.more;
      lines = ap (λ (l : Line). l ∷ xs) first ∙ ap (λ (ls : List Line). y ∷ ls) further.lines;
      text = further.text;
    }

-- lines whose text begins with that of others begin with them
pub whole_begins : (ys xs : List Line) (rest : List ℕ) → All IsGoodLine ys → All IsGoodLine xs → lines_text xs ≡ lines_text ys ++ rest → BeginsLines xs ys [] rest
whole_begins [] xs rest good_ys good_xs same = record { more = xs; lines = refl; text = sym same ∙ sym (append-nil (lines_text xs)) }
whole_begins (y ∷ ys) [] rest good_ys good_xs same =
    absurd (not_empty (line_text y) (lines_text ys ++ rest) (same ∙ append_assoc (line_text y) (10 ∷ lines_text ys) rest))
whole_begins (y ∷ ys) (x ∷ xs) rest good_ys good_xs same =
    let good_y = All-head IsGoodLine y ys good_ys in
    let good_x = All-head IsGoodLine x xs good_xs in
    let split = same_line (line_text x) (line_text y) (lines_text xs) (lines_text ys ++ rest) (line_plain x good_x.formed good_x.typed) (line_plain y good_y.formed good_y.typed)
    (same ∙ append_assoc (line_text y) (10 ∷ lines_text ys) rest) in
    let first = same_text x y good_x good_y split.0 in
    let further = whole_begins ys xs rest (All-tail IsGoodLine y ys good_ys) (All-tail IsGoodLine x xs good_xs) split.1 in
    record {
      more = further.more;
      lines = ap (λ (l : Line). l ∷ xs) first ∙ ap (λ (ls : List Line). y ∷ ls) further.lines;
      text = further.text;
    }

-- as many lines at most as octets
pub few_lines : (lines : List Line) → length lines ≤ length (lines_text lines)
few_lines [] = omega arith
few_lines (x ∷ lines) =
    let rest : length lines ≤ length (lines_text lines) = few_lines lines in
    let long = length-append (line_text x) (10 ∷ lines_text lines) in
    omega (arith, long, rest)
