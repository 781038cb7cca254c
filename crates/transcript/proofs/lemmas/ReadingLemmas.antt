-- A text is read to its end, or to its first line that no run continues.
use Rattle.std.proofs.Common.{◌≡◌, ℕ, suc, ◌+◌, ◌<◌, ◌≤◌, ◌^◌, ◌⊎◌, inl, inr, Bool, true, false, refl, sym, ap, ◌∙◌, arith, List, [], ◌∷◌, ◌++◌, length, length-append, append_assoc, Option, Some, None, subst}
use Rattle.std.specs.Prelude.{All, ◌==◌}
use Rattle.std.proofs.lemmas.Bool.{false≢true}
use Rattle.std.proofs.lemmas.Bool.Decides.{Decides-eqb}
use Rattle.std.proofs.lemmas.List.{append-nil}
use Rattle.std.proofs.lemmas.List.Elements.{All-nil, All-push, All-head}
use Rattle.ptp_profile.specs.declared.seats.Log.{Log}
use Rattle.bc_history.specs.declared.entry.Entry.{Entry}
use Rattle.bc_history.specs.declared.entry.Run.{Run}
use Rattle.bc_history.specs.Run.FormedRuns.{IsFormedRun}
use Rattle.transcript.specs.declared.line.Line.{Line}
use Rattle.transcript.specs.declared.progress.Progress.{Progress}
use Rattle.transcript.specs.declared.progress.Progress.TheVariants.{Start, Ended}
use Rattle.transcript.specs.NextLines.{next, and_then, read_on, IsReadOn}
use Rattle.transcript.specs.RunLines.{lines_of, lines_text}
use Rattle.transcript.specs.ShownLines.{IsLine, BeginsWith}
use Rattle.transcript.specs.TranscriptFaults.{IsTextOf, IsBegun, GoesOn, IsFirstFault}
use Rattle.transcript.specs.TranscriptLines.{line_text, IsLineOf}
use Rattle.transcript.specs.TypedRuns.{IsTypedRun}
use Rattle.transcript.proofs.lemmas.GoodLineLemmas.{good_run}
use Rattle.transcript.proofs.lemmas.LinePlainLemmas.{line_plain}
use Rattle.transcript.proofs.lemmas.LineTextLemmas.{one_line, IsGoodLine, lines_text-append, begins_lines, whole_begins, few_lines}
use Rattle.transcript.proofs.lemmas.ListEndLemmas.{All-front, All-back}
use Rattle.transcript.proofs.lemmas.ReachedLemmas.{IsReached, reached_start, step, begun, ended}
use Rattle.transcript.proofs.lemmas.ReadOnLemmas.{Reads, read_on-append, chain, one_more, none_more, reads_run}
use Rattle.transcript.proofs.lemmas.RunTextLemmas.{lines_are_text}
use Rattle.transcript.proofs.lemmas.SplitLemmas.{same_line, no_line, not_empty}

-- a line that was read, and what follows from it
pub read_on_is : (octets : List ℕ) (p : Progress) (line : Line) → IsLineOf octets line → (after : Option Progress) → after ≡ next p line → IsReadOn octets p after
read_on_is octets p line is None h = λ other other_is. ap (λ (x : Line). next p x) (one_line octets other line other_is is) ∙ sym h
read_on_is octets p line is (Some q) h = (line, is, sym h)

-- ---- the lines before

-- a text is read so far: the lines before, and what was read of them
pub record IsReadTo (text rest : List ℕ) (number : ℕ) (p : Progress) : Type 0 where
  pub before : List Line
  pub good : All IsGoodLine before
  pub counted : number ≡ length before + 1
  pub whole : text ≡ lines_text before ++ rest
  pub reads : Reads Start before p
  pub reached : IsReached before p

pub read_begins : (text : List ℕ) → IsReadTo text text 1 Start
read_begins text = record { before = []; good = All-nil IsGoodLine; counted = refl; whole = refl; reads = none_more Start; reached = reached_start }

pub good_line : (octets : List ℕ) (line : Line) → IsLineOf octets line → IsGoodLine line
good_line octets line is = record { formed = is.formed; typed = is.typed }

pub read_goes_on : (text rest : List ℕ) (number : ℕ) (p q : Progress) (octets behind : List ℕ) → IsReadTo text rest number p → BeginsWith rest octets behind → IsReadOn octets p (Some q) → IsReadTo text behind (number + 1) q
read_goes_on text rest number p q octets behind at begins on =
    let line = on.0 in
    let is = on.1 in
    let text_is = is.text in
    let long = length-append at.before (line ∷ []) in
    let counted = at.counted in
    record {
      before = at.before ++ line ∷ [];
      good = All-push IsGoodLine at.before line at.good (good_line octets line is);
      counted = omega (arith, long, counted);
      whole = at.whole
          ∙ ap (λ (t : List ℕ). lines_text at.before ++ t) (begins.whole ∙ ap (λ (t : List ℕ). t ++ 10 ∷ behind) (sym text_is) ∙ sym (append_assoc (line_text line) (10 ∷ []) behind))
          ∙ sym (append_assoc (lines_text at.before) (lines_text (line ∷ [])) behind)
          ∙ ap (λ (t : List ℕ). t ++ behind) (sym (lines_text-append at.before (line ∷ [])));
      reads = chain Start p q at.before (line ∷ []) at.reads (one_more p q q line [] on.2 (none_more q));
      reached = step at.before p q line at.reached is.formed is.typed on.2;
    }

-- the number of a line fits its type
pub number_fits : (text rest : List ℕ) (number : ℕ) (p : Progress) (octets behind : List ℕ) → IsReadTo text rest number p → BeginsWith rest octets behind → length text < 4294967295 → number + 1 < 2 ^ 32
number_fits text rest number p octets behind at begins short =
    let few : length at.before ≤ length (lines_text at.before) = few_lines at.before in
    let counted : number ≡ length at.before + 1 = at.counted in
    let whole : length text ≡ length (lines_text at.before) + length rest = ap length at.whole ∙ length-append (lines_text at.before) rest in
    let some : length rest ≡ length octets + suc (length behind) = ap length begins.whole ∙ length-append octets (10 ∷ behind) in
    omega (arith, few, counted, whole, some, short)

-- ---- a line that no run continues

none_is_some : (p : Progress) → None ≡ Some p → ⊥
none_is_some p h = absurd (cc)

-- where no line may stand, no run has one
begun_next : (before : List Line) (p : Progress) (line : Line) → Reads Start before p → IsBegun (before ++ line ∷ []) → next p line ≡ None → ⊥
begun_next before p line reads b none =
    let end : Progress = Ended b.run.entries b.run.logs in
    let lines : lines_of b.run ≡ before ++ (line ∷ b.more) = b.begins ∙ append_assoc before (line ∷ []) b.more in
    let all : read_on Start (before ++ (line ∷ b.more)) ≡ Some end = ap (λ (ls : List Line). read_on Start ls) (sym lines) ∙ (reads_run b.run b.formed b.typed).reads in
    let split : read_on Start (before ++ (line ∷ b.more)) ≡ and_then (next p line) (λ q. read_on q b.more) =
    read_on-append Start before (line ∷ b.more) ∙ ap (λ (n : Option Progress). and_then n (λ q. read_on q (line ∷ b.more))) reads.reads in
    none_is_some end (ap (λ (n : Option Progress). and_then n (λ q. read_on q b.more)) (sym none) ∙ sym split ∙ all)

goes_on_by : (rest : List ℕ) (before : List Line) (run : Run) → IsFormedRun run → IsTypedRun run → All IsGoodLine (lines_of run) → (more : List Line) → lines_of run ≡ before ++ more → rest ≡ lines_text more ++ [] → GoesOn before rest ⊎ ((rest ≡ []) × (lines_of run ≡ before))
goes_on_by rest before run formed typed good [] lines text = inr (text, lines ∙ append-nil before)
goes_on_by rest before run formed typed good (x ∷ more) lines text =
    let good_x = All-head IsGoodLine x more (All-back IsGoodLine before (x ∷ more) (subst (λ (ls : List Line). All IsGoodLine ls) lines good)) in
    inl (record {
      octets = line_text x;
      behind = lines_text more;
      whole = text ∙ append-nil (lines_text (x ∷ more));
      line = x;
      read = record { text = refl; formed = good_x.formed; typed = good_x.typed };
      begun = record { run = run; formed = formed; typed = typed; more = more; begins = lines ∙ sym (append_assoc before (x ∷ []) more) };
    })

-- a text that is a run's goes on behind lines that it begins with, or ends there with the run
goes_on_or_ends : (text rest : List ℕ) (before : List Line) (run : Run) → All IsGoodLine before → text ≡ lines_text before ++ rest → IsTextOf text run → GoesOn before rest ⊎ ((rest ≡ []) × (lines_of run ≡ before))
goes_on_or_ends text rest before run good whole is =
    let run_good = good_run run is.formed is.typed in
    let found = whole_begins before (lines_of run) rest good run_good (lines_are_text run ∙ sym is.spelled ∙ whole) in
    goes_on_by rest before run is.formed is.typed run_good found.more found.lines found.text

octets_plain : (octets : List ℕ) (line : Line) → IsLineOf octets line → IsLine octets
octets_plain octets line is = subst IsLine is.text (line_plain line is.formed is.typed)

-- a line that may not stand there
pub line_refused : (text rest : List ℕ) (number : ℕ) (p : Progress) (octets behind : List ℕ) → IsReadTo text rest number p → BeginsWith rest octets behind → IsReadOn octets p None → IsFirstFault text number
line_refused text rest number p octets behind at begins on =
    let stops : GoesOn at.before rest → ⊥ = λ g.
    let same = same_line octets g.octets behind g.behind begins.first (octets_plain g.octets g.line g.read) (sym begins.whole ∙ g.whole) in
    begun_next at.before p g.line at.reads g.begun (on g.line (subst (λ (o : List ℕ). IsLineOf o g.line) (sym same.0) g.read)) in
    record {
      before = at.before;
      rest = rest;
      counted = at.counted;
      whole = at.whole;
      begun = begun at.before p at.reached;
      stops = stops;
      unfinished = λ run is. elim (goes_on_or_ends text rest at.before run at.good at.whole is) [ inl g ↦ stops g | inr e ↦ not_empty octets behind (sym e.0 ∙ begins.whole) ];
    }

ended_is : (p : Progress) (before : List Line) (run : Run) → IsFormedRun run → IsTypedRun run → Reads Start before p → lines_of run ≡ before → p ≡ Ended run.entries run.logs
ended_is p before run formed typed reads same =
    let end : Progress = Ended run.entries run.logs in
    let all : Some p ≡ Some end = sym reads.reads ∙ ap (λ (ls : List Line). read_on Start ls) (sym same) ∙ (reads_run run formed typed).reads in
    cc

-- a text that ends too early
pub end_refused : (text rest : List ℕ) (number : ℕ) (p : Progress) → IsReadTo text rest number p → IsLine rest → (rest ≡ [] → (entries : List Entry) (logs : List Log) → p ≡ Ended entries logs → ⊥) → IsFirstFault text number
end_refused text rest number p at none early =
    let stops : GoesOn at.before rest → ⊥ = λ g. no_line g.octets g.behind (subst IsLine g.whole none) in
    record {
      before = at.before;
      rest = rest;
      counted = at.counted;
      whole = at.whole;
      begun = begun at.before p at.reached;
      stops = stops;
      unfinished = λ run is. elim (goes_on_or_ends text rest at.before run at.good at.whole is) [ inl g ↦ stops g | inr e ↦ early e.0 run.entries run.logs (ended_is p at.before run is.formed is.typed at.reads e.1) ];
    }

-- a text that ends with its run
pub text_read : (text rest : List ℕ) (number : ℕ) (entries : List Entry) (logs : List Log) → IsReadTo text rest number (Ended entries logs) → rest ≡ [] → IsTextOf text (record { entries = entries; logs = logs })
text_read text rest number entries logs at none =
    let run : Run = record { entries = entries; logs = logs } in
    record {
      formed = at.reached.formed;
      typed = at.reached.typed;
      spelled = at.whole ∙ ap (λ (t : List ℕ). lines_text at.before ++ t) none ∙ append-nil (lines_text at.before) ∙ ap lines_text (ended at.before entries logs at.reached) ∙ lines_are_text run;
    }

-- ---- laws

same_end : (a b : Run) → Ended a.entries a.logs ≡ Ended b.entries b.logs → a ≡ b
same_end a b h =
    let entries : a.entries ≡ b.entries = cc in
    let logs : a.logs ≡ b.logs = cc in
    ap (λ (es : List Entry). record a { entries = es }) entries ∙ ap (λ (ls : List Log). record b { logs = ls }) logs

no_more : (more : List Line) → [] ≡ lines_text more → more ≡ []
no_more [] h = refl
no_more (x ∷ more) h = absurd (not_empty (line_text x) (lines_text more) h)

-- two runs with one text are one
pub one_run : (text : List ℕ) (a b : Run) → IsTextOf text a → IsTextOf text b → a ≡ b
one_run text a b is_a is_b =
    let good_a = good_run a is_a.formed is_a.typed in
    let good_b = good_run b is_b.formed is_b.typed in
    let found = whole_begins (lines_of b) (lines_of a) [] good_b good_a (lines_are_text a ∙ sym is_a.spelled ∙ is_b.spelled ∙ sym (lines_are_text b) ∙ sym (append-nil (lines_text (lines_of b)))) in
    let none : found.more ≡ [] = no_more found.more (found.text ∙ append-nil (lines_text found.more)) in
    let lines : lines_of a ≡ lines_of b = found.lines ∙ ap (λ (ls : List Line). lines_of b ++ ls) none ∙ append-nil (lines_of b) in
    same_end a b (ended_is (Ended a.entries a.logs) (lines_of a) b is_b.formed is_b.typed (reads_run a is_a.formed is_a.typed) (sym lines))

begun_good : (lines : List Line) → IsBegun lines → All IsGoodLine lines
begun_good lines b = All-front IsGoodLine lines b.more (subst (λ (ls : List Line). All IsGoodLine ls) b.begins (good_run b.run b.formed b.typed))

later_by : (before : List Line) (rest : List ℕ) (lines : List Line) (end : List ℕ) → All IsGoodLine lines → IsBegun lines → (more : List Line) → lines ≡ before ++ more → rest ≡ lines_text more ++ end → (GoesOn before rest → ⊥) → length before < length lines → ⊥
later_by before rest lines end good b [] are text stops less =
    let same : length lines ≡ length before = ap length (are ∙ append-nil before) in
    absurd (omega (arith, same, less))
later_by before rest lines end good b (x ∷ more) are text stops less =
    let good_x = All-head IsGoodLine x more (All-back IsGoodLine before (x ∷ more) (subst (λ (ls : List Line). All IsGoodLine ls) are good)) in
    stops (record {
      octets = line_text x;
      behind = lines_text more ++ end;
      whole = text ∙ append_assoc (line_text x) (10 ∷ lines_text more) end;
      line = x;
      read = record { text = refl; formed = good_x.formed; typed = good_x.typed };
      begun = record {
        run = b.run;
        formed = b.formed;
        typed = b.typed;
        more = more ++ b.more;
        begins = b.begins ∙ ap (λ (ls : List Line). ls ++ b.more) are ∙ append_assoc before (x ∷ more) b.more ∙ sym (append_assoc before (x ∷ []) (more ++ b.more));
      };
    })

-- a fault is the first: none comes later
not_later : (text : List ℕ) (n m : ℕ) → IsFirstFault text n → IsFirstFault text m → n < m → ⊥
not_later text n m first later less =
    let good_first = begun_good first.before first.begun in
    let good_later = begun_good later.before later.begun in
    let cn : n ≡ length first.before + 1 = first.counted in
    let cm : m ≡ length later.before + 1 = later.counted in
    let long : length first.before ≤ length later.before = omega (arith, cn, cm, less) in
    let found = begins_lines first.before later.before later.rest first.rest good_first good_later long (sym later.whole ∙ first.whole) in
    later_by first.before first.rest later.before later.rest good_later later.begun found.more found.lines found.text first.stops (omega (arith, cn, cm, less))

same_number : (n m : ℕ) → (n < m → ⊥) → (m < n → ⊥) → n ≡ m
same_number n m low high = omega (arith, low, high)

-- a text has one first fault at most
pub one_fault : (text : List ℕ) (n m : ℕ) → IsFirstFault text n → IsFirstFault text m → n ≡ m
one_fault text n m first other =
    let low : n < m → ⊥ = not_later text n m first other in
    let high : m < n → ⊥ = not_later text m n other first in
    same_number n m low high

zero_not_suc : (n : ℕ) → suc n ≡ 0 → ⊥
zero_not_suc n h = absurd (omega (arith, h))

-- what the test of an empty rest says
pub rest_empty : (rest : List ℕ) (b : Bool) → b ≡ (length rest == 0) → b ≡ true → rest ≡ []
rest_empty [] b is true_is = refl
rest_empty (x ∷ rest) b is true_is = absurd (zero_not_suc (length rest) ((Decides-eqb (suc (length rest)) 0).0 (sym is ∙ true_is)))

pub rest_filled : (rest : List ℕ) (b : Bool) → b ≡ (length rest == 0) → b ≡ false → rest ≡ [] → ⊥
rest_filled [] b is false_is none = absurd (false≢true (sym false_is ∙ is))
rest_filled (x ∷ rest) b is false_is none = absurd (cc)
