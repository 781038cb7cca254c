-- The orders of an entry that follows: the logs with them are lawful, and nobody had known of them.
use Rattle.std.proofs.Common.{◌≡◌, ◌≢◌, ◌≤◌, ◌<◌, ℕ, zero, suc, ◌+◌, Bool, true, false, cond, eqb, ne_eqb, inl, inr, refl, sym, ap, ◌∙◌, subst, arith, List, [], ◌∷◌, ◌++◌, length, reverse, Option, Some, None}
use mathlib.Core.List.{reverse_aux}
use Rattle.std.specs.List.{cons_option}
use Rattle.std.specs.Prelude.{◌⊎◌, ◌==◌, ◌&&◌, All, IfSome, filter, filter_map, slice_get, slice_set}
use Rattle.std.proofs.lemmas.List.Elements.{All-nil, All-cons, All-append, All-filter, All-head, All-map, All-tail, All-weaker}
use Rattle.std.proofs.lemmas.Option.{same_Some, IfSome_then}
use Rattle.ptp_profile.specs.declared.roles.RoleOrder.{RoleOrder}
use Rattle.ptp_profile.specs.declared.seats.LogEntry.{LogEntry}
use Rattle.ptp_profile.specs.declared.seats.LogEntry.TheVariants.{Order, Change}
use Rattle.ptp_profile.specs.Roles.Edges.{orders_of}
use Rattle.ptp_profile.specs.Roles.SeatLogs.{AreLawful, IsLawful, is_order, log_at, order_entry, with_order, with_orders}
use Rattle.ptp_profile.proofs.lemmas.SeatLogLemmas.{IsLawful-elsewhere, IsLawful-ordered}
use Rattle.bc_history.specs.declared.entry.Entry.{Entry}
use Rattle.bc_history.specs.declared.scenario.Scenario.{Scenario}
use Rattle.bc_history.specs.Phases.EntryEffects.{effects_of, entry_after, event}
use Rattle.bc_history.specs.Phases.Inputs.{event_of}
use Rattle.bc_history.specs.Phases.RolePhase.{after_roles, begins_generation, edges_now, orders_now}
use Rattle.bc_history.specs.Phases.State.{Core, Roles}
use Rattle.bc_history.specs.Phases.Step.{core_after, state_of, step}
use Rattle.bc_history.specs.Run.History.{Follows}
use Rattle.run_legal.specs.Numbers.Knowledge.{ComesAfter, IsNumbered, IsWithin}
use Rattle.run_legal.specs.Numbers.LogNumbers.{order_number}
use Rattle.run_legal.specs.Numbers.Marks.{Mark, marks_in, marks_of, of_clock}
use Rattle.run_legal.specs.Runs.Courses.{AreLogs, EachAfter}
use Rattle.run_legal.proofs.lemmas.EnteredLogLemmas.{of_ordered}
use Rattle.run_legal.proofs.lemmas.NewerOrderLemmas.{orders_are_bounded, orders_are_newer}
use Rattle.run_legal.proofs.lemmas.NumberBoundLemmas.{marks-of_clock}
use Rattle.run_legal.proofs.lemmas.PortExchangeLemmas.{length-slice_set}

-- ---- the logs are lawful

-- a fact of each log by its clock, where one is set
set-to : (P Q : ℕ → List LogEntry → Type 0) (logs : List (List LogEntry)) (i : ℕ) (new : List LogEntry)
    → (P i (log_at logs i) → Q i new) → ((c : ℕ) (log : List LogEntry) → i ≢ c → P c log → Q c log)
    → ((c : ℕ) (log : List LogEntry) → slice_get logs c ≡ Some log → P c log)
    → (c : ℕ) (log : List LogEntry) → slice_get (slice_set logs i new) c ≡ Some log → Q c log
set-to P Q [] i new own others all c log is = absurd (cc)
set-to P Q (x ∷ logs) zero new own others all zero log is = subst (Q zero) (same_Some new log is) (own (all zero x refl))
set-to P Q (x ∷ logs) zero new own others all (suc c) log is = others (suc c) log (λ e. absurd (omega (arith, e))) (all (suc c) log is)
set-to P Q (x ∷ logs) (suc i) new own others all zero log is = others zero log (λ e. absurd (omega (arith, e))) (all zero log is)
set-to P Q (x ∷ logs) (suc i) new own others all (suc c) log is =
    set-to (λ k l. P (suc k) l) (λ k l. Q (suc k) l) logs i new own (λ k l other. others (suc k) l (λ e. other (omega (arith, e)))) (λ k l there. all (suc k) l there) c log is

-- with one order more
lawful-order : (order : RoleOrder) (befores : List RoleOrder) (logs : List (List LogEntry)) → AreLawful befores logs → AreLawful (order ∷ befores) (with_order logs order)
lawful-order order befores logs lawful =
    set-to (λ c log. IsLawful c befores log) (λ c log. IsLawful c (order ∷ befores) log) logs order.clock (order_entry order ∷ log_at logs order.clock)
    (λ own. IsLawful-ordered order.clock order befores (log_at logs order.clock) refl own)
    (λ c log other own. IsLawful-elsewhere c order befores log other own) lawful

-- with all orders of an entry
lawful-orders : (orders befores : List RoleOrder) (logs : List (List LogEntry)) → AreLawful befores logs → AreLawful (reverse_aux orders befores) (with_orders logs orders)
lawful-orders [] befores logs lawful = lawful
lawful-orders (order ∷ orders) befores logs lawful = lawful-orders orders (order ∷ befores) (with_order logs order) (lawful-order order befores logs lawful)

-- what is behind a list in reverse
reverse_aux-append : {X : Type 0} (xs ys acc : List X) → reverse_aux xs ys ++ acc ≡ reverse_aux xs (ys ++ acc)
reverse_aux-append [] ys acc = refl
reverse_aux-append (x ∷ xs) ys acc = reverse_aux-append xs (x ∷ ys) acc

-- there are as many logs
pub length-with_orders : (orders : List RoleOrder) (logs : List (List LogEntry)) → length (with_orders logs orders) ≡ length logs
length-with_orders [] logs = refl
length-with_orders (order ∷ orders) logs =
    length-with_orders orders (with_order logs order) ∙ length-slice_set logs order.clock (order_entry order ∷ log_at logs order.clock)

-- the orders that a history gives with one entry more
orders-after_roles : (c : Core) (r : Roles) → (after_roles c r).orders ≡ reverse (orders_now c r) ++ r.orders
unfolding after_roles
orders-after_roles c r = by (begins_generation c r)
  where
    new : List RoleOrder
    new = orders_of (r.gener + 1) r.edges (edges_now c r)

    by : (b : Bool) → (cond b (record { gener = r.gener + 1; edges = edges_now c r; orders = reverse (cond b new []) ++ r.orders }) r).orders ≡ reverse (cond b new []) ++ r.orders
    by true = refl
    by false = refl

-- they are those of the entry before all former ones
orders-state_of : (s : Scenario) (before : List Entry) (e : Entry) → Follows s before e
    → (state_of s (e ∷ before)).roles.orders ≡ reverse e.effects.orders ++ (state_of s before).roles.orders
unfolding state_of step entry_after effects_of
orders-state_of s before e f =
    let h = state_of s before in
    let made = ap (λ (x : Entry). x.effects.orders) f.made in
    orders-after_roles (core_after s.options h (event e.input e.seen)) h.roles ∙ ap (λ (orders : List RoleOrder). reverse orders ++ h.roles.orders) (sym made)

-- the logs with the orders of an entry that follows are lawful
pub logs-entered : (s : Scenario) (before : List Entry) (e : Entry) (logs : List (List LogEntry)) → Follows s before e → AreLogs s before logs
    → AreLogs s (e ∷ before) (with_orders logs e.effects.orders)
logs-entered s before e logs f are = record {
  number = length-with_orders e.effects.orders logs ∙ are.number;
  lawful = subst (λ (orders : List RoleOrder). AreLawful orders (with_orders logs e.effects.orders))
      (sym (orders-state_of s before e f ∙ reverse_aux-append e.effects.orders [] (state_of s before).roles.orders))
      (lawful-orders e.effects.orders (state_of s before).roles.orders logs are.lawful);
}

-- ---- nobody had known of the orders

-- an entry that is an order is of a generation up to g
abbrev IsOrderUpTo : ℕ → LogEntry → Type 0
IsOrderUpTo g (Order gener ctrl) = gener ≤ g
IsOrderUpTo g (Change gener ctrl tick step freq) = Unit {0}

-- what is so of a log's orders is so of all its entries
unfiltered : (g : ℕ) (log : List LogEntry) → All (IsOrderUpTo g) (filter is_order log) → All (IsOrderUpTo g) log
unfiltered g [] all = all
unfiltered g (Order gener ctrl ∷ log) all =
    All-cons (IsOrderUpTo g) (Order gener ctrl) log (All-head (IsOrderUpTo g) (Order gener ctrl) (filter is_order log) all)
    (unfiltered g log (All-tail (IsOrderUpTo g) (Order gener ctrl) (filter is_order log) all))
unfiltered g (Change gener ctrl tick step freq ∷ log) all = All-cons (IsOrderUpTo g) (Change gener ctrl tick step freq) log tt (unfiltered g log all)

-- the orders of a lawful log are up to the present generation
lawful-up_to : (s : Scenario) (entries : List Entry) (clock : ℕ) (log : List LogEntry) → IsLawful clock (state_of s entries).roles.orders log
    → All (IsOrderUpTo (state_of s entries).roles.gener) log
lawful-up_to s entries clock log lawful =
    let r = (state_of s entries).roles in
    let those = All-filter (λ (order : RoleOrder). order.clock == clock) (λ (o : RoleOrder). o.gener ≤ r.gener) r.orders (orders_are_bounded s entries).bounded in
    unfiltered r.gener log
    (subst (λ (es : List LogEntry). All (IsOrderUpTo r.gener) es) (sym lawful.orders_are)
    (All-map (IsOrderUpTo r.gener) order_entry (filter (λ (order : RoleOrder). order.clock == clock) r.orders) those))

-- a log that is there, or none
log-or : (logs : List (List LogEntry)) (clock : ℕ) → (slice_get logs clock ≡ Some (log_at logs clock)) ⊎ (log_at logs clock ≡ [])
log-or [] clock = inr refl
log-or (log ∷ logs) zero = inl refl
log-or (log ∷ logs) (suc c) = log-or logs c

-- so are those of each clock
log-up_to : (s : Scenario) (entries : List Entry) (logs : List (List LogEntry)) → AreLogs s entries logs → (clock : ℕ)
    → All (IsOrderUpTo (state_of s entries).roles.gener) (log_at logs clock)
log-up_to s entries logs are clock = by (log-or logs clock)
  where
    by : (slice_get logs clock ≡ Some (log_at logs clock)) ⊎ (log_at logs clock ≡ []) → All (IsOrderUpTo (state_of s entries).roles.gener) (log_at logs clock)
    by (inl there) = lawful-up_to s entries clock (log_at logs clock) (are.lawful clock (log_at logs clock) there)
    by (inr none) = subst (λ (log : List LogEntry). All (IsOrderUpTo (state_of s entries).roles.gener) log) (sym none) (All-nil (IsOrderUpTo (state_of s entries).roles.gener))

-- an order of a later generation is not among them
number-fresh : (g gener ctrl : ℕ) (log : List LogEntry) → g < gener → All (IsOrderUpTo g) log → order_number gener ctrl log ≡ None
number-fresh g gener ctrl [] lt all = refl
number-fresh g gener ctrl (Order former k ∷ log) lt all =
    let le : former ≤ g = All-head (IsOrderUpTo g) (Order former k) log all in
    let other : former ≢ gener = λ e. absurd (omega (arith, le, lt, e)) in
    rw (ne_eqb former gener other) (number-fresh g gener ctrl log lt (All-tail (IsOrderUpTo g) (Order former k) log all))
number-fresh g gener ctrl (Change former k tick step freq ∷ log) lt all =
    number-fresh g gener ctrl log lt (All-tail (IsOrderUpTo g) (Change former k tick step freq) log all)

-- an order's number is above a length, if it has one
abbrev IsAbove : ℕ → ℕ → ℕ → List LogEntry → Type 0
IsAbove base gener ctrl log = (base ≤ length log) × IfSome (order_number gener ctrl log) (λ n. base < n)

-- it stays so with one entry more
above-push : (base gener ctrl : ℕ) (entry : LogEntry) (log : List LogEntry) → IsAbove base gener ctrl log → IsAbove base gener ctrl (entry ∷ log)
above-push base gener ctrl (Order g k) log (le, above) = (omega (arith, le), by (eqb g gener && eqb k ctrl))
  where
    by : (b : Bool) → IfSome (cond b (Some (suc (length log))) (order_number gener ctrl log)) (λ n. base < n)
    by true = omega (arith, le)
    by false = above
above-push base gener ctrl (Change g k tick step freq) log (le, above) = (omega (arith, le), above)

-- so it is of the orders of a generation that begins
above-ordered : (s : Scenario) (entries : List Entry) (logs : List (List LogEntry)) → AreLogs s entries logs → (orders : List RoleOrder) (clock gener ctrl : ℕ)
    → gener ≡ (state_of s entries).roles.gener + 1 → IsAbove (length (log_at logs clock)) gener ctrl (log_at (with_orders logs orders) clock)
above-ordered s entries logs are orders clock gener ctrl new =
    let none = number-fresh (state_of s entries).roles.gener gener ctrl (log_at logs clock) (omega (arith, new)) (log-up_to s entries logs are clock) in
    of_ordered (IsAbove (length (log_at logs clock)) gener ctrl) (above-push (length (log_at logs clock)) gener ctrl) clock orders logs
    (omega arith, subst (λ (o : Option ℕ). IfSome o (λ n. length (log_at logs clock) < n)) (sym none) tt)

-- the marks of entries are within logs
pub marks-within : (s : Scenario) (logs : List (List LogEntry)) (entries : List Entry) → EachAfter (IsNumbered s logs) entries → All (IsWithin logs) (marks_in s entries)
marks-within s logs [] each = All-nil (IsWithin logs)
marks-within s logs (e ∷ before) each =
    All-append (IsWithin logs) (marks_of s (event_of e)) (marks_in s before) each.0.abreast.within (marks-within s logs before each.1)

-- a fact of the number of one order, where it has one
one_number : (P : ℕ → Type 0) (number : RoleOrder → Option ℕ) (order : RoleOrder) (b : Bool) → IfSome (number order) P → All P (filter_map number (cond b (order ∷ []) []))
one_number P number order false fact = All-nil P
one_number P number order true fact = by (number order) fact
  where
    by : (o : Option ℕ) → IfSome o P → All P (cons_option o [])
    by None fact = All-nil P
    by (Some n) fact = All-cons P n [] fact (All-nil P)

-- so nobody had known of the orders of an entry that follows
pub orders-entered : (s : Scenario) (before : List Entry) (e : Entry) (logs : List (List LogEntry)) → Follows s before e → AreLogs s before logs
    → EachAfter (IsNumbered s logs) before → All (ComesAfter s (with_orders logs e.effects.orders) before) e.effects.orders
orders-entered s before e logs f are each =
    All-weaker (λ (o : RoleOrder). o.gener ≡ (state_of s before).roles.gener + 1) (ComesAfter s (with_orders logs e.effects.orders) before) (λ order new.
    let later = with_orders logs e.effects.orders in
    let base = length (log_at logs order.clock) in
    let marks = marks-of_clock logs order.clock (marks_in s before) (marks-within s logs before each) in
    one_number (λ number. All (λ (mark : Mark). mark.number < number) (of_clock order.clock (marks_in s before)))
    (λ (o : RoleOrder). order_number o.gener o.ctrl (log_at later order.clock)) order (eqb order.clock order.clock)
    (IfSome_then (order_number order.gener order.ctrl (log_at later order.clock)) (above-ordered s before logs are e.effects.orders order.clock order.gener order.ctrl new).1
    (λ n above. All-weaker (λ (mark : Mark). mark.number ≤ base) (λ (mark : Mark). mark.number < n) (λ mark le. omega (arith, le, above)) (of_clock order.clock (marks_in s before)) marks)))
    e.effects.orders (orders_are_newer s e before f)
