-- Texts of whole lines that lead from a draft to a draft.
use Rattle.std.proofs.Common.{◌≡◌, ℕ, zero, suc, ◌+◌, ◌-◌, ◌<◌, ◌≤◌, Bool, true, false, cond, ◌&&◌, ◌==◌, nat_lt, List, [], ◌∷◌, ◌++◌, length, take, drop, fold, map, Option, Some, None, refl, sym, ap, ◌∙◌, subst, arith, length-append, lt-ltb, append-nil}
use Rattle.std.specs.Prelude.{slice_get, slice_index}
use Rattle.std.specs.List.{flat_map, list_all}
use Rattle.std.proofs.lemmas.Bool.{and_parts, and_from}
use Rattle.std.proofs.lemmas.Grind.{flat_map-append}
use Rattle.std.proofs.lemmas.List.Folds.{list_all-append}
use Rattle.bstr.specs.Text.{line_len, lines_of, no_cr, without_terminator}
use Rattle.bstr.proofs.lemmas.LineLemmas.{lines-nil, lines-step}
use Rattle.text_io.specs.declared.reason.Reason.{Reason}
use Rattle.text_io.specs.TextLines.{lines_of_text, words_of, is_shown, is_printable}
use Rattle.bc_history.specs.Scenario.Draft.{Draft, empty_draft, scenario_of}
use Rattle.bc_history.specs.Scenario.LineFaults.{fault, first_of, tests_of, role_of, with_line, with_role, fault_behind, draft_of, end_fault, Stands}
use Rattle.bc_history.specs.declared.scenario.Scenario.{Scenario}
use Rattle.bc_gen.proofs.lemmas.JoinedWordLemmas.{are_whole, joined, printable-joined, words_of-joined}

-- ---- lines, each with its newline

-- a line with its newline
abbrev pub ended : List ℕ → List ℕ
ended line = line ++ 10 ∷ []

-- lines, each with its newline
abbrev pub ended_lines : List (List ℕ) → List ℕ
ended_lines lines = flat_map ended lines

shown_goes_on : (c : ℕ) → is_shown c ≡ true → (c == 10) ≡ false
shown_goes_on c is = grind arith

shown_stays : (c : ℕ) → is_shown c ≡ true → (c == 13) ≡ false
shown_stays c is = grind arith

len-ended : (line rest : List ℕ) → is_printable line ≡ true → line_len (ended line ++ rest) ≡ length line + 1
unfolding line_len
len-ended [] rest shown = refl
len-ended (c ∷ cs) rest shown =
    let both = and_parts (is_shown c) (is_printable cs) shown in
    let more : suc (length cs + 1) ≡ suc (length cs) + 1 = omega arith in
    rw (shown_goes_on c both.0, len-ended cs rest both.1) more

take-ended : (line rest : List ℕ) → take (length line + 1) (ended line ++ rest) ≡ ended line
take-ended [] rest = refl
take-ended (c ∷ cs) rest =
    let more : suc (length cs) + 1 ≡ suc (length cs + 1) = omega arith in
    rw more (ap (λ xs. c ∷ xs) (take-ended cs rest))

drop-ended : (line rest : List ℕ) → drop (length line + 1) (ended line ++ rest) ≡ rest
drop-ended [] rest = refl
drop-ended (c ∷ cs) rest =
    let more : suc (length cs) + 1 ≡ suc (length cs + 1) = omega arith in
    rw more (drop-ended cs rest)

some-ended : (line rest : List ℕ) → 0 < length (ended line ++ rest)
some-ended line rest = omega (arith, length-append (ended line) rest, length-append line (10 ∷ []))

lines-ended : (line rest : List ℕ) → is_printable line ≡ true → lines_of (ended line ++ rest) ≡ ended line ∷ lines_of rest
lines-ended line rest shown =
    lines-step (ended line ++ rest) (some-ended line rest)
    ∙ rw (len-ended line rest shown, take-ended line rest, drop-ended line rest) refl

-- ---- the newline is dropped, and nothing else

index-ended : (line : List ℕ) → slice_index (ended line) (length line) ≡ 10
index-ended [] = refl
index-ended (c ∷ cs) = index-ended cs

front-ended : (line : List ℕ) → take (length line) (ended line) ≡ line
front-ended [] = refl
front-ended (c ∷ cs) = ap (λ xs. c ∷ xs) (front-ended cs)

no_return : (line : List ℕ) (k : ℕ) → is_printable line ≡ true → (slice_index line k == 13) ≡ false
no_return [] k shown = refl
no_return (c ∷ cs) zero shown = shown_stays c ((and_parts (is_shown c) (is_printable cs) shown).0)
no_return (c ∷ cs) (suc k) shown = no_return cs k ((and_parts (is_shown c) (is_printable cs) shown).1)

kept_by : (line : List ℕ) (some : Bool) → (slice_index line (length line - 1) == 13) ≡ false → cond (some && (slice_index line (length line - 1) == 13)) (take (length line - 1) line) line ≡ line
kept_by line true other = rw other refl
kept_by line false other = refl

kept-no_cr : (line : List ℕ) → is_printable line ≡ true → no_cr line ≡ line
kept-no_cr line shown = kept_by line (nat_lt 0 (length line)) (no_return line (length line - 1) shown)

without-ended : (line : List ℕ) → is_printable line ≡ true → without_terminator (ended line) ≡ line
without-ended line shown =
    let long : length (ended line) ≡ length line + 1 = length-append line (10 ∷ []) in
    let some : nat_lt 0 (length line + 1) ≡ true = lt-ltb _ _ (omega arith) in
    let last : length line + 1 - 1 ≡ length line = omega arith in
    rw (long, some, last, index-ended line, front-ended line) (kept-no_cr line shown)

-- lines that may be shown are those of their text
pub lines-of-ended : (lines : List (List ℕ)) → list_all is_printable lines ≡ true → lines_of_text (ended_lines lines) ≡ lines
lines-of-ended [] shown = ap (map without_terminator) lines-nil
lines-of-ended (line ∷ lines) shown =
    let both = and_parts (is_printable line) (list_all is_printable lines) shown in
    ap (map without_terminator) (lines-ended line (ended_lines lines) both.0)
    ∙ rw (without-ended line both.0) (ap (λ ls. line ∷ ls) (lines-of-ended lines both.1))

-- ---- lines that lead from draft to draft

-- none of the lines is faulty behind a draft and those before it, and together they make a draft
abbrev pub Lead : Draft → List (List ℕ) → Draft → Type 0
Lead d [] e = d ≡ e
Lead d (line ∷ lines) e = (fault d line ≡ None) × Lead (with_line d line) lines e

lead_on : (d e f : Draft) (xs ys : List (List ℕ)) → Lead d xs e → Lead e ys f → Lead d (xs ++ ys) f
lead_on d e f [] ys first second = subst (λ (g : Draft). Lead g ys f) (sym first) second
lead_on d e f (x ∷ xs) ys first second = (first.0, lead_on (with_line d x) e f xs ys first.1 second)

-- what is wrong with a line or with the end behind a draft
abbrev judged : Draft → Option (List ℕ) → Option Reason
judged d (Some line) = fault d line
judged d None = end_fault d

judged_behind : (lines : List (List ℕ)) (line : Option (List ℕ)) → fault_behind lines line ≡ judged (draft_of lines) line
judged_behind lines (Some line) = refl
judged_behind lines None = refl

none_faulty : (lines : List (List ℕ)) (d e : Draft) → Lead d lines e → end_fault e ≡ None → (n : ℕ) → n ≤ length lines → judged (fold with_line d (take n lines)) (slice_get lines n) ≡ None
none_faulty [] d e lead good zero le = ap end_fault lead ∙ good
none_faulty [] d e lead good (suc n) le = absurd (omega arith)
none_faulty (line ∷ lines) d e lead good zero le = lead.0
none_faulty (line ∷ lines) d e lead good (suc n) le = none_faulty lines (with_line d line) e lead.1 good n (omega arith)

led : (lines : List (List ℕ)) (d e : Draft) → Lead d lines e → fold with_line d lines ≡ e
led [] d e lead = lead
led (line ∷ lines) d e lead = led lines (with_line d line) e lead.1

-- ---- texts that lead from draft to draft

-- a text is whole lines that may be shown and lead from one draft to the other
pub record IsTaken (d : Draft) (text : List ℕ) (e : Draft) : Type 0 where
  pub lines : List (List ℕ)
  pub spelled : text ≡ ended_lines lines
  pub shown : list_all is_printable lines ≡ true
  pub lead : Lead d lines e

-- nothing leads nowhere
pub nothing_taken : (d e : Draft) → d ≡ e → IsTaken d [] e
nothing_taken d e same = record { lines = []; spelled = refl; shown = refl; lead = same }

-- one text behind another
pub taken_on : (d e f : Draft) (a b : List ℕ) → IsTaken d a e → IsTaken e b f → IsTaken d (a ++ b) f
taken_on d e f a b first second = record {
  lines = first.lines ++ second.lines;
  spelled = rw (first.spelled, second.spelled) (sym (flat_map-append ended first.lines second.lines));
  shown = list_all-append is_printable first.lines second.lines ∙ and_from (list_all is_printable first.lines) (list_all is_printable second.lines) first.shown second.shown;
  lead = lead_on d e f first.lines second.lines first.lead second.lead;
}

-- a line of words, by what they say behind the draft
pub line_taken : (d e : Draft) (words : List (List ℕ)) → are_whole words ≡ true → first_of (tests_of d true words (role_of d.section words)) ≡ None → with_role d words (role_of d.section words) ≡ e
    → IsTaken d (ended (joined words)) e
line_taken d e words whole good made =
    let shown : is_printable (joined words) ≡ true = printable-joined words whole in
    let parted : words_of (joined words) ≡ words = words_of-joined words whole in
    let none : fault d (joined words) ≡ None = rw (shown, parted) good in
    let next : with_line d (joined words) ≡ e = rw parted made in
    record {
      lines = joined words ∷ [];
      spelled = sym (append-nil (ended (joined words)));
      shown = and_from (is_printable (joined words)) true shown refl;
      lead = (none, next);
    }

-- a text that leads from nothing to a draft with a port stands for its scenario
pub taken_stands : (text : List ℕ) (e : Draft) (s : Scenario) → IsTaken empty_draft text e → end_fault e ≡ None → s ≡ scenario_of e → Stands text s
taken_stands text e s taken good is =
    let same : lines_of_text text ≡ taken.lines = ap lines_of_text taken.spelled ∙ lines-of-ended taken.lines taken.shown in
    record {
      faultless = λ n le.
          rw same (judged_behind (take n taken.lines) (slice_get taken.lines n) ∙ none_faulty taken.lines empty_draft e taken.lead good n (rw same at le));
      said = is ∙ ap scenario_of (sym (ap draft_of same ∙ led taken.lines empty_draft e taken.lead));
    }
