-- A legal run has few changes, since each is named by an entry.
use Rattle.std.proofs.Common.{◌≡◌, ◌≤◌, ◌<◌, ℕ, zero, suc, ◌+◌, ◌*◌, ◌^◌, Bool, true, false, cond, leb, refl, sym, ap, subst, ◌∙◌, arith, inl, inr, List, [], ◌∷◌, ◌++◌, length, map, reverse, Option, None, Some, length-append}
use Rattle.std.specs.Prelude.{not, Contains, IsSomeAnd}
use Rattle.std.specs.List.{count_by, sum_by}
use Rattle.std.proofs.Math.Nat.{mul-le-mul}
use Rattle.std.proofs.lemmas.Bool.{le-leb, leb-true}
use Rattle.std.proofs.lemmas.Bool.Decides.{leb_tells}
use Rattle.std.proofs.lemmas.List.{length-map}
use Rattle.std.proofs.lemmas.List.Sorted.{IsPermutation-reverse, sum_by-IsPermutation}
use Rattle.std.proofs.lemmas.List.Sums.{count_by-le-length, length-filter, sum_by-cons}
use Rattle.ptp_base.specs.declared.limits.TheConstants.{CLOCKS_MAX, ENTRIES_MAX}
use Rattle.ptp_profile.specs.declared.seats.Log.{Log}
use Rattle.ptp_profile.specs.declared.seats.LogEntry.{LogEntry}
use Rattle.ptp_profile.specs.declared.seats.LogEntry.TheVariants.{Order, Change}
use Rattle.ptp_profile.specs.Roles.SeatLogs.{entry_at, is_order, log_at}
use Rattle.ptp_profile.proofs.lemmas.SeatLogLemmas.{entry_at-kept, entry_at-next}
use Rattle.bc_history.specs.declared.entry.Entry.{Entry}
use Rattle.bc_history.specs.declared.entry.Input.{Input}
use Rattle.bc_history.specs.declared.entry.Input.TheVariants.{Frame, Timed, Down, Up, Report, Turn, Sampled, Query}
use Rattle.bc_history.specs.declared.entry.Outcome.{Outcome}
use Rattle.bc_history.specs.declared.entry.Outcome.TheVariants.{Unlocked, Changed, Superseded, Spent}
use Rattle.bc_history.specs.declared.entry.Seen.{Seen}
use Rattle.bc_history.specs.declared.entry.Run.{Run}
use Rattle.bc_history.specs.declared.scenario.Scenario.{Scenario}
use Rattle.bc_history.specs.Phases.EntryEffects.{event}
use Rattle.bc_history.specs.Phases.Inputs.{event_of}
use Rattle.bc_history.specs.Scenario.ScenarioRules.{IsScenario}
use Rattle.run_legal.specs.Numbers.Marks.{Mark, changes_in, exchange_marks, marks_in, marks_of, outcome_marks, sight_mark, sights_of}
use Rattle.run_legal.specs.Runs.LegalRuns.{IsChangeAt, IsLegal, newest_first}
use Rattle.run_legal.proofs.lemmas.CourseLemmas.{entry_at-within}
use Rattle.bc_top.specs.Summary.{change_count, changes_of}

-- ---- counts

module _ {X : Type 0} (p q : X → Bool) (weaker : (x : X) → p x ≡ true → q x ≡ true) where
  count-one : (x : X) → cond (p x) 1 0 ≤ cond (q x) 1 0
  count-one x = by (p x) refl
    where
      by : (b : Bool) → p x ≡ b → cond b 1 0 ≤ cond (q x) 1 0
      by true is = let also = weaker x is in rw also (omega arith)
      by false is = omega arith

  -- a weaker test counts no less
  count-weaker : (xs : List X) → count_by p xs ≤ count_by q xs
  count-weaker [] = omega arith
  count-weaker (x ∷ xs) =
      omega (arith, count-one x, count-weaker xs, sum_by-cons (λ y. cond (p y) 1 0) x xs, sum_by-cons (λ y. cond (q y) 1 0) x xs)

  -- and it counts more, where an element passes it alone
  count-more : (xs : List X) (y : X) → Contains xs y → p y ≡ false → q y ≡ true → count_by p xs + 1 ≤ count_by q xs
  count-more [] y (k, lt, is) fails passes = absurd (omega (arith, lt))
  count-more (x ∷ xs) y (zero, lt, is) fails passes =
      let one : ◌≡◌ {A = ℕ} (cond (p x) 1 0) 0 = rw (is, fails) refl in
      let other : ◌≡◌ {A = ℕ} (cond (q x) 1 0) 1 = rw (is, passes) refl in
      omega (arith, one, other, count-weaker xs, sum_by-cons (λ y. cond (p y) 1 0) x xs, sum_by-cons (λ y. cond (q y) 1 0) x xs)
  count-more (x ∷ xs) y (suc k, lt, is) fails passes =
      omega (arith, count-one x, count-more xs y (k, omega (arith, lt), is) fails passes, sum_by-cons (λ y. cond (p y) 1 0) x xs, sum_by-cons (λ y. cond (q y) 1 0) x xs)

-- ---- the changes of a log, whose newest entry is first

abbrev is_change : LogEntry → Bool
is_change entry = not (is_order entry)

-- the number of a mark is at most this
abbrev is_up_to : ℕ → Mark → Bool
is_up_to most mark = leb mark.number most

up_to-more : (most : ℕ) (mark : Mark) → is_up_to most mark ≡ true → is_up_to (suc most) mark ≡ true
up_to-more most mark is = let le = leb-true mark.number most is in le-leb mark.number (suc most) (omega arith)

-- a change keeps its number
change-kept : (entry : LogEntry) (log : List LogEntry) (n : ℕ) → IsChangeAt log n → IsChangeAt (entry ∷ log) n
change-kept entry log n change = by (entry_at n log) refl change
  where
    by : (o : Option LogEntry) → entry_at n log ≡ o → IsSomeAnd o (λ x. is_order x ≡ false) → IsChangeAt (entry ∷ log) n
    by None is at = absurd at
    by (Some x) is at =
        subst (λ (o : Option LogEntry). IsSomeAnd o (λ y. is_order y ≡ false)) (sym (entry_at-kept n entry log (entry_at-within n log x is) ∙ is)) at

module _ (marks : List Mark) where
  -- a log has no more changes than marks name them
  changes-named : (name : ℕ → Mark) → ((n : ℕ) → (name n).number ≡ n) → (log : List LogEntry) → ((n : ℕ) → IsChangeAt log n → Contains marks (name n))
      → count_by is_change log ≤ count_by (is_up_to (length log)) marks
  changes-named name numbered [] named = omega arith
  changes-named name numbered (entry ∷ log) named =
      by entry refl (changes-named name numbered log (λ n change. named n (change-kept entry log n change)))
    where
      top : ℕ
      top = suc (length log)

      more : count_by (is_up_to (length log)) marks ≤ count_by (is_up_to top) marks
      more = count-weaker (is_up_to (length log)) (is_up_to top) (up_to-more (length log)) marks

      beyond : is_up_to (length log) (name top) ≡ false
      beyond = elim (leb_tells (name top).number (length log)) [
        | inl t ↦ absurd (omega (arith, t.1, numbered top))
        | inr f ↦ f.0
      ]

      newest : is_order entry ≡ false → count_by (is_up_to (length log)) marks + 1 ≤ count_by (is_up_to top) marks
      newest change =
          let there : IsChangeAt (entry ∷ log) top = subst (λ (o : Option LogEntry). IsSomeAnd o (λ x. is_order x ≡ false)) (sym (entry_at-next entry log)) change in
          count-more (is_up_to (length log)) (is_up_to top) (up_to-more (length log)) marks (name top) (named top there) beyond
          (le-leb (name top).number top (omega (arith, numbered top)))

      by : (x : LogEntry) → entry ≡ x → count_by is_change log ≤ count_by (is_up_to (length log)) marks
          → count_by is_change (entry ∷ log) ≤ count_by (is_up_to top) marks
      by (Order gener ctrl) is rest =
          let none : ◌≡◌ {A = ℕ} (cond (is_change entry) 1 0) 0 = rw is refl in
          omega (arith, none, rest, more, sum_by-cons (λ x. cond (is_change x) 1 0) entry log)
      by (Change gener ctrl tick step freq) is rest =
          let one : ◌≡◌ {A = ℕ} (cond (is_change entry) 1 0) 1 = rw is refl in
          omega (arith, one, rest, newest (ap is_order is), sum_by-cons (λ x. cond (is_change x) 1 0) entry log)

  -- so have all logs
  changes-total : (name : ℕ → ℕ → Mark) → ((k n : ℕ) → (name k n).number ≡ n) → (logs : List Log)
      → ((k n : ℕ) → IsChangeAt (log_at (newest_first logs) k) n → Contains marks (name k n)) → sum_by changes_of logs ≤ length logs * length marks
  changes-total name numbered [] named = omega arith
  changes-total name numbered (log ∷ logs) named =
      let here = changes-named (name 0) (numbered 0) (reverse log.entries) (named 0) in
      let few = count_by-le-length (is_up_to (length (reverse log.entries))) marks in
      let same : count_by is_change (reverse log.entries) ≡ changes_of log =
      sum_by-IsPermutation (λ x. cond (is_change x) 1 0) log.entries (reverse log.entries) (IsPermutation-reverse log.entries) in
      let rest = changes-total (λ k. name (suc k)) (λ k. numbered (suc k)) logs (λ k. named (suc k)) in
      let product : suc (length logs) * length marks ≡ length marks + length logs * length marks = omega arith in
      rw product (omega (arith, here, few, same, rest, sum_by-cons changes_of log logs))

-- ---- marks

outcome-few : (clock : ℕ) (outcome : Outcome) → length (outcome_marks clock outcome ++ []) ≤ 1
outcome-few clock Unlocked = omega arith
outcome-few clock (Changed number) = omega arith
outcome-few clock (Superseded newer at) = omega arith
outcome-few clock (Spent at) = omega arith

exchange-few : (s : Scenario) (input : Input) → length (exchange_marks s input) ≤ 1
exchange-few s (Frame port tick octets) = omega arith
exchange-few s (Timed port tick timer) = omega arith
exchange-few s (Down port tick) = omega arith
exchange-few s (Up port tick) = omega arith
exchange-few s (Report port tick gener action outcome) = outcome-few _ outcome
exchange-few s (Turn clock tick) = omega arith
exchange-few s (Sampled clock tick lead theirs own action outcome) = outcome-few clock outcome
exchange-few s (Query tick text) = omega arith

sights-few : (s : Scenario) (input : Input) (seen : Option Seen) → length (sights_of s (event input seen)) ≤ 3
sights-few s (Frame port tick octets) None = omega arith
sights-few s (Frame port tick octets) (Some seen) = omega arith
sights-few s (Timed port tick timer) None = omega arith
sights-few s (Timed port tick timer) (Some seen) = omega arith
sights-few s (Down port tick) None = omega arith
sights-few s (Down port tick) (Some seen) = omega arith
sights-few s (Up port tick) None = omega arith
sights-few s (Up port tick) (Some seen) = omega arith
sights-few s (Report port tick gener action outcome) None = omega arith
sights-few s (Report port tick gener action outcome) (Some seen) = omega arith
sights-few s (Turn clock tick) seen = omega arith
sights-few s (Sampled clock tick lead theirs own action outcome) seen = omega arith
sights-few s (Query tick text) seen = omega arith

entry-few : (s : Scenario) (e : Entry) → length (marks_of s (event_of e)) ≤ 4
entry-few s e =
    let sights = sights_of s (event_of e) in
    let apart : length (marks_of s (event_of e)) ≡ length (exchange_marks s e.input) + length (map sight_mark sights) = length-append (exchange_marks s e.input) (map sight_mark sights) in
    let many : length (map sight_mark sights) ≡ length sights = length-map sights sight_mark in
    omega (arith, apart, many, exchange-few s e.input, sights-few s e.input e.seen)

marks-few : (s : Scenario) (entries : List Entry) → length (marks_in s entries) ≤ 4 * length entries
marks-few s [] = omega arith
marks-few s (e ∷ entries) =
    let apart : length (marks_in s (e ∷ entries)) ≡ length (marks_of s (event_of e)) + length (marks_in s entries) = length-append (marks_of s (event_of e)) (marks_in s entries) in
    omega (arith, apart, entry-few s e, marks-few s entries)

changes-few : (s : Scenario) (entries : List Entry) → length (changes_in s entries) ≤ 4 * length entries
changes-few s entries =
    let passed = length-filter (λ (mark : Mark). mark.is_change) (marks_in s entries) in
    omega (arith, passed, count_by-le-length (λ (mark : Mark). mark.is_change) (marks_in s entries), marks-few s entries)

-- ---- all

-- the changes of a legal run are few
pub few_changes : (s : Scenario) (run : Run) → IsScenario s → IsLegal s run → change_count run < 2 ^ 64
few_changes s run is legal =
    let course = legal.is_open.course in
    let changes = changes_in s (reverse run.entries) in
    let name : ℕ → ℕ → Mark = λ clock number. record { clock = clock; number = number; is_change = true } in
    let total = changes-total changes name (λ k n. refl) run.logs legal.named in
    let clocks : length run.logs ≤ CLOCKS_MAX =
    omega (arith, length-map run.logs (λ (log : Log). reverse log.entries), course.lawful.number, is.clock_count.1) in
    let named : length changes ≤ 4 * ENTRIES_MAX = omega (arith, changes-few s (reverse run.entries), course.formed.few) in
    let product = mul-le-mul clocks named in
    omega (arith, total, product)
