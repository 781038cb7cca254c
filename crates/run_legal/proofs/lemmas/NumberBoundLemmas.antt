-- No number that entries have for a clock is beyond the clock's log; so what an exchange at the end of the log gave is abreast.
use Rattle.std.proofs.Common.{◌≡◌, ◌≤◌, ◌<◌, ℕ, suc, ◌+◌, Bool, true, false, cond, eqb, leb, refl, sym, subst, arith, List, [], ◌∷◌, length, map, Option, Some, None, Ok, Err}
use Rattle.std.specs.List.{cons_option}
use Rattle.std.specs.Prelude.{◌==◌, ◌&&◌, All, IfSome, filter, filter_map, not}
use Rattle.std.proofs.lemmas.Bool.{eqb-true}
use Rattle.std.proofs.lemmas.List.Elements.{All-nil, All-cons, All-append, All-head, All-tail, All-weaker}
use Rattle.ptp_profile.specs.declared.roles.RoleOrder.{RoleOrder}
use Rattle.ptp_profile.specs.declared.seats.Held.{Held}
use Rattle.ptp_profile.specs.declared.seats.LogEntry.{LogEntry}
use Rattle.ptp_profile.specs.declared.seats.LogEntry.TheVariants.{Order, Change}
use Rattle.ptp_profile.specs.declared.seats.Refused.TheVariants.{Superseded as Is_superseded, Spent as Is_spent}
use Rattle.ptp_profile.specs.declared.timing.Action.{Action}
use Rattle.ptp_profile.specs.Roles.SeatLogs.{exchange_answer, log_at, stamp_after}
use Rattle.bc_history.specs.declared.entry.Entry.{Entry}
use Rattle.bc_history.specs.declared.entry.Input.TheVariants.{Report}
use Rattle.bc_history.specs.declared.entry.Outcome.{Outcome}
use Rattle.bc_history.specs.declared.entry.Outcome.TheVariants.{Unlocked, Changed, Superseded, Spent}
use Rattle.bc_history.specs.declared.entry.Who.{Who}
use Rattle.bc_history.specs.declared.entry.Who.TheVariants.{Port}
use Rattle.bc_history.specs.declared.scenario.Scenario.{Scenario}
use Rattle.bc_history.specs.Phases.EntryEffects.{event}
use Rattle.bc_history.specs.Phases.Inputs.{event_of}
use Rattle.bc_history.specs.Run.Actors.{entries_of, is_by}
use Rattle.bc_history.specs.Run.ExchangeOutcomes.{answer_outcome}
use Rattle.run_legal.specs.Numbers.Knowledge.{AreRising, IsAbreast, IsNumbered, IsUpTo, IsWithin, known_to}
use Rattle.run_legal.specs.Numbers.LogNumbers.{numbers_in, order_number}
use Rattle.run_legal.specs.Numbers.Marks.{Mark, clock_of, marks_in, marks_of, of_clock}
use Rattle.run_legal.specs.Runs.Courses.{EachAfter}

-- ---- numbers are within logs

abbrev pub AreUpTo : ℕ → List ℕ → Type 0
AreUpTo most numbers = All (λ n. n ≤ most) numbers

-- an order's number is within its log
order_number-within : (gener ctrl : ℕ) (log : List LogEntry) → IfSome (order_number gener ctrl log) (λ n. n ≤ length log)
order_number-within gener ctrl [] = tt
order_number-within gener ctrl (Order g k ∷ log) = by (eqb g gener && eqb k ctrl) (order_number gener ctrl log) (order_number-within gener ctrl log)
  where
    by : (b : Bool) (o : Option ℕ) → IfSome o (λ n. n ≤ length log) → IfSome (cond b (Some (suc (length log))) o) (λ n. n ≤ suc (length log))
    by true o rest = omega arith
    by false None rest = tt
    by false (Some n) rest = omega (arith, rest)
order_number-within gener ctrl (Change g k tick step freq ∷ log) = by (order_number gener ctrl log) (order_number-within gener ctrl log)
  where
    by : (o : Option ℕ) → IfSome o (λ n. n ≤ length log) → IfSome o (λ n. n ≤ suc (length log))
    by None rest = tt
    by (Some n) rest = omega (arith, rest)

orders-within : (log : List LogEntry) (orders : List RoleOrder)
    → AreUpTo (length log) (filter_map (λ (order : RoleOrder). order_number order.gener order.ctrl log) orders)
orders-within log [] = All-nil (λ n. n ≤ length log)
orders-within log (order ∷ orders) = by (order_number order.gener order.ctrl log) (order_number-within order.gener order.ctrl log) (orders-within log orders)
  where
    by : (o : Option ℕ) → IfSome o (λ n. n ≤ length log) → AreUpTo (length log) (filter_map (λ (order : RoleOrder). order_number order.gener order.ctrl log) orders)
        → AreUpTo (length log) (cons_option o (filter_map (λ (order : RoleOrder). order_number order.gener order.ctrl log) orders))
    by None le rest = rest
    by (Some n) le rest = All-cons (λ k. k ≤ length log) n _ le rest

-- so are marks of one clock
pub marks-of_clock : (logs : List (List LogEntry)) (clock : ℕ) (marks : List Mark) → All (IsWithin logs) marks
    → All (λ (mark : Mark). mark.number ≤ length (log_at logs clock)) (of_clock clock marks)
marks-of_clock logs clock [] all = All-nil (λ (mark : Mark). mark.number ≤ length (log_at logs clock))
marks-of_clock logs clock (mark ∷ marks) all =
    by (eqb mark.clock clock) refl (marks-of_clock logs clock marks (All-tail (IsWithin logs) mark marks all))
  where
    by : (b : Bool) → eqb mark.clock clock ≡ b → All (λ (m : Mark). m.number ≤ length (log_at logs clock)) (of_clock clock marks)
        → All (λ (m : Mark). m.number ≤ length (log_at logs clock)) (cond b (mark ∷ of_clock clock marks) (of_clock clock marks))
    by true same rest =
        All-cons (λ (m : Mark). m.number ≤ length (log_at logs clock)) mark (of_clock clock marks)
        (subst (λ (c : ℕ). mark.number ≤ length (log_at logs c)) (eqb-true mark.clock clock same) (All-head (IsWithin logs) mark marks all)) rest
    by false same rest = rest

numbers-of_marks : (most : ℕ) (marks : List Mark) → All (λ (mark : Mark). mark.number ≤ most) marks → AreUpTo most (map (λ (mark : Mark). mark.number) marks)
numbers-of_marks most [] all = All-nil (λ n. n ≤ most)
numbers-of_marks most (mark ∷ marks) all =
    All-cons (λ n. n ≤ most) mark.number (map (λ (mark : Mark). mark.number) marks) (All-head (λ (m : Mark). m.number ≤ most) mark marks all)
    (numbers-of_marks most marks (All-tail (λ (m : Mark). m.number ≤ most) mark marks all))

-- so are all numbers of entries
pub numbers-within : (s : Scenario) (logs : List (List LogEntry)) (clock : ℕ) (entries : List Entry) → EachAfter (IsNumbered s logs) entries
    → AreUpTo (length (log_at logs clock)) (numbers_in s logs clock entries)
numbers-within s logs clock [] each = All-nil (λ n. n ≤ length (log_at logs clock))
numbers-within s logs clock (e ∷ before) each =
    let marks = numbers-of_marks (length (log_at logs clock)) (of_clock clock (marks_of s (event_of e))) (marks-of_clock logs clock (marks_of s (event_of e)) each.0.abreast.within) in
    let orders = orders-within (log_at logs clock) (filter (λ (order : RoleOrder). order.clock == clock) e.effects.orders) in
    All-append (λ n. n ≤ length (log_at logs clock)) _ _ (All-append (λ n. n ≤ length (log_at logs clock)) _ _ marks orders) (numbers-within s logs clock before each.1)

-- what was so of all entries is so of those that an actor knew
pub known-each : (P : Entry → List Entry → Type 0) (who : Who) (entries : List Entry) → EachAfter P entries → EachAfter P (known_to who entries)
known-each P who [] each = tt
known-each P who (e ∷ before) each = by (is_by who e) (known-each P who before each.1)
  where
    by : (b : Bool) → EachAfter P (known_to who before) → EachAfter P (cond b (e ∷ before) (known_to who before))
    by true rest = each
    by false rest = rest

-- the marks of an actor's entries are within logs
pub marks-of_actor : (s : Scenario) (logs : List (List LogEntry)) (who : Who) (entries : List Entry) → EachAfter (IsNumbered s logs) entries
    → All (IsWithin logs) (marks_in s (entries_of who entries))
marks-of_actor s logs who [] each = All-nil (IsWithin logs)
marks-of_actor s logs who (e ∷ before) each = by (is_by who e) (marks-of_actor s logs who before each.1)
  where
    by : (b : Bool) → All (IsWithin logs) (marks_in s (entries_of who before)) → All (IsWithin logs) (marks_in s (cond b (e ∷ entries_of who before) (entries_of who before)))
    by true rest = All-append (IsWithin logs) (marks_of s (event_of e)) (marks_in s (entries_of who before)) each.0.abreast.within rest
    by false rest = rest

-- ---- an outcome at the end of a log

-- an outcome has the number of the log's end, a change that of the next entry
abbrev pub IsAtEnd : ℕ → Outcome → Type 0
IsAtEnd end Unlocked = Unit {0}
IsAtEnd end (Changed number) = number ≡ end + 1
IsAtEnd end (Superseded newer at) = at ≡ end
IsAtEnd end (Spent at) = at ≡ end

-- so has that of an exchange
pub exchange-at_end : (rows : ℕ) (held : Held) (log : List LogEntry) → IsAtEnd (length log) (answer_outcome (exchange_answer rows held log))
exchange-at_end rows held log = by (eqb (stamp_after log).gener held.gener && eqb (stamp_after log).ctrl held.ctrl) (leb rows (length log))
  where
    by : (a c : Bool) → IsAtEnd (length log) (answer_outcome (cond (not a) (Err (Is_superseded (stamp_after log).gener (length log)))
        (cond c (Err (Is_spent (length log))) (Ok (record { number = length log + 1 })))))
    by false c = refl
    by true true = refl
    by true false = refl

module _ (s : Scenario) (logs later : List (List LogEntry)) (entries : List Entry) (p tick gener end : ℕ) (action : Action) (rising : AreRising (marks_in s (entries_of (Port p) entries))) (former : All (λ (mark : Mark). mark.number ≤ end) (of_clock (clock_of s p) (marks_in s (entries_of (Port p) entries)))) (known : AreUpTo end (numbers_in s later (clock_of s p) (known_to (Port p) entries))) where
  -- a mark at the end is not below what was known
  up_to : (mark : Mark) → mark.clock ≡ clock_of s p → end ≤ mark.number → IsUpTo s later (known_to (Port p) entries) mark
  up_to mark here le =
      subst (λ (c : ℕ). All (λ n. n ≤ mark.number) (numbers_in s later c (known_to (Port p) entries))) (sym here)
      (All-weaker (λ n. n ≤ end) (λ n. n ≤ mark.number) (λ n few. omega (arith, few, le)) (numbers_in s later (clock_of s p) (known_to (Port p) entries)) known)

  -- a report of an outcome at the end is abreast
  pub report-abreast : (outcome : Outcome) → IsAtEnd end outcome → All (IsWithin later) (marks_of s (event (Report p tick gener action outcome) None))
      → IsAbreast s later (event (Report p tick gener action outcome) None) entries
  report-abreast Unlocked at within = record { rising = rising; within = within; told = All-nil _; read = All-nil _ }
  report-abreast (Changed number) at within = record {
    rising = (All-weaker (λ (mark : Mark). mark.number ≤ end) (λ (mark : Mark). mark.number < number) (λ mark le. omega (arith, le, at)) _ former, rising);
    within = within;
    told = All-cons (IsUpTo s later (known_to (Port p) entries)) (record { clock = clock_of s p; number = number; is_change = true }) [] (up_to (record { clock = clock_of s p; number = number; is_change = true }) refl (omega (arith, at))) (All-nil _);
    read = All-nil _;
  }
  report-abreast (Superseded newer number) at within = record {
    rising = (All-weaker (λ (mark : Mark). mark.number ≤ end) (λ (mark : Mark). mark.number ≤ number) (λ mark le. omega (arith, le, at)) _ former, rising);
    within = within;
    told = All-cons (IsUpTo s later (known_to (Port p) entries)) (record { clock = clock_of s p; number = number; is_change = false }) [] (up_to (record { clock = clock_of s p; number = number; is_change = false }) refl (omega (arith, at))) (All-nil _);
    read = All-nil _;
  }
  report-abreast (Spent number) at within = record {
    rising = (All-weaker (λ (mark : Mark). mark.number ≤ end) (λ (mark : Mark). mark.number ≤ number) (λ mark le. omega (arith, le, at)) _ former, rising);
    within = within;
    told = All-cons (IsUpTo s later (known_to (Port p) entries)) (record { clock = clock_of s p; number = number; is_change = false }) [] (up_to (record { clock = clock_of s p; number = number; is_change = false }) refl (omega (arith, at))) (All-nil _);
    read = All-nil _;
  }
