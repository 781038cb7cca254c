-- Numbers of entries, and stamps.
use Rattle.std.proofs.Common.{◌≡◌, ◌≢◌, ℕ, zero, suc, ◌-◌, ◌<◌, ◌≤◌, Bool, true, false, cond, eqb, List, [], ◌∷◌, ◌++◌, length, drop, map, reverse, replicate, Some, None, refl, sym, ap, ◌∙◌, subst, inl, inr, arith, eq-eqb, ne_eqb, eqb-true, get_or-set_same, get_or-set_other, length-set}
use Rattle.std.specs.Prelude.{ℤ, filter, slice_get, slice_index}
use Rattle.std.proofs.lemmas.Bool.{cases_eq, cases_lt}
use Rattle.std.proofs.lemmas.List.{reverse-append, length-reverse, length-replicate, get_or-replicate, get_or_past}
use Rattle.std.proofs.lemmas.List.Sums.{fold-append}
use Rattle.ptp_profile.specs.declared.roles.RoleOrder.{RoleOrder}
use Rattle.ptp_profile.specs.declared.seats.LogEntry.{LogEntry}
use Rattle.ptp_profile.specs.declared.seats.LogEntry.TheVariants.{Order, Change}
use Rattle.ptp_profile.specs.declared.roles.Stamp.{Stamp}
use Rattle.ptp_profile.specs.Roles.Edges.{stamp_of}
use Rattle.ptp_profile.specs.Roles.Forest.{ctrls_by, ctrls_after}
use Rattle.ptp_profile.specs.Roles.SeatLogs.{stamp_after, log_after, entry_at, is_order, order_entry, orders_for, IsStamped, AreStamped, IsLawful}

-- ---- numbers
entry_at-past : (n : ℕ) (log : List LogEntry) → length log < n → entry_at n log ≡ None
entry_at-past n [] past = refl
entry_at-past n (entry ∷ log) past =
    let other : n ≢ suc (length log) = omega (arith, past) in
    rw (ne_eqb n (suc (length log)) other) (entry_at-past n log (omega (arith, past)))

pub entry_at-zero : (log : List LogEntry) → entry_at 0 log ≡ None
entry_at-zero [] = refl
entry_at-zero (entry ∷ log) = let other : 0 ≢ suc (length log) = omega arith in rw (ne_eqb 0 (suc (length log)) other) (entry_at-zero log)

pub entry_at-next : (entry : LogEntry) (log : List LogEntry) → entry_at (suc (length log)) (entry ∷ log) ≡ Some entry
entry_at-next entry log = rw (eq-eqb (suc (length log)) (suc (length log)) refl) refl

pub entry_at-kept : (n : ℕ) (entry : LogEntry) (log : List LogEntry) → n ≤ length log → entry_at n (entry ∷ log) ≡ entry_at n log
entry_at-kept n entry log within = let other : n ≢ suc (length log) = omega (arith, within) in rw (ne_eqb n (suc (length log)) other) refl

pub log_after-kept : (n : ℕ) (entry : LogEntry) (log : List LogEntry) → n ≤ length log → log_after n (entry ∷ log) ≡ log_after n log
log_after-kept n entry log within =
    let more : suc (length log) - n ≡ suc (length log - n) = omega (arith, within) in
    ap (λ (k : ℕ). drop k (entry ∷ log)) more

slice_get-push : {X : Type 0} → (xs : List X) (x : X) (n : ℕ) → n ≡ length xs → slice_get (xs ++ x ∷ []) n ≡ Some x
slice_get-push [] x zero is = refl
slice_get-push [] x (suc n) is = absurd (omega (arith, is))
slice_get-push (y ∷ xs) x zero is = absurd (omega (arith, is))
slice_get-push (y ∷ xs) x (suc n) is = slice_get-push xs x n (omega (arith, is))

slice_get-front : {X : Type 0} → (xs : List X) (x : X) (n : ℕ) → n ≢ length xs → slice_get (xs ++ x ∷ []) n ≡ slice_get xs n
slice_get-front [] x zero other = absurd (other refl)
slice_get-front [] x (suc n) other = refl
slice_get-front (y ∷ xs) x zero other = refl
slice_get-front (y ∷ xs) x (suc n) other = slice_get-front xs x n (λ is. other (ap suc is))

pub entry_at-place : (n : ℕ) (log : List LogEntry) → entry_at (suc n) log ≡ slice_get (reverse log) n
entry_at-place n [] = refl
entry_at-place n (entry ∷ log) =
    let turned : reverse (entry ∷ log) ≡ reverse log ++ entry ∷ [] = reverse-append (entry ∷ []) log in
    let long : length (reverse log) ≡ length log = length-reverse log in
    rw turned
    (elim (cases_eq n (length log)) [
      | inl last ↦ rw (eq-eqb (suc n) (suc (length log)) (ap suc last)) (sym (slice_get-push (reverse log) entry n (last ∙ sym long)))
      | inr other ↦
          let apart : suc n ≢ suc (length log) = omega (arith, other) in
          let further : n ≢ length (reverse log) = omega (arith, other, long) in
          rw (ne_eqb (suc n) (suc (length log)) apart) (entry_at-place n log ∙ sym (slice_get-front (reverse log) entry n further))
    ])

-- ---- stamps
within_from : (entry : LogEntry) (n : ℕ) (log : List LogEntry) → entry_at (suc n) log ≡ Some entry → n ≤ length log
within_from entry n log is =
    elim (cases_lt (length log) (suc n)) [
      | inl past ↦ let none = entry_at-past (suc n) log past in absurd (cc)
      | inr within ↦ omega (arith, within)
    ]

stamped_step : (b : Bool) (n : ℕ) (top entry : LogEntry) (log : List LogEntry) → eqb (suc n) (suc (length log)) ≡ b
    → IsStamped top log → (entry_at (suc n) log ≡ Some entry → IsStamped entry (log_after n log))
    → cond b (Some top) (entry_at (suc n) log) ≡ Some entry → IsStamped entry (log_after n (top ∷ log))
stamped_step true n top entry log tells here later is =
    let same : top ≡ entry = cc in
    let at : n ≡ length log = omega (arith, eqb-true (suc n) (suc (length log)) tells) in
    let one : suc (length log) - n ≡ 1 = omega (arith, at) in
    let all : log_after n (top ∷ log) ≡ log = ap (λ (k : ℕ). drop k (top ∷ log)) one in
    subst (λ (e : LogEntry). IsStamped e (log_after n (top ∷ log))) same (subst (λ (l : List LogEntry). IsStamped top l) (sym all) here)
stamped_step false n top entry log tells here later is =
    let within : n ≤ length log = within_from entry n log is in
    subst (λ (l : List LogEntry). IsStamped entry l) (sym (log_after-kept n top log within)) (later is)

entry-stamped : (log : List LogEntry) (n : ℕ) (entry : LogEntry) → AreStamped log → entry_at (suc n) log ≡ Some entry
    → IsStamped entry (log_after n log)
entry-stamped [] n entry stamped is = absurd (cc)
entry-stamped (top ∷ log) n entry (here, later) is = stamped_step (eqb (suc n) (suc (length log))) n top entry log refl here
    (entry-stamped log n entry later) is

pub entry-lawful : (clock : ℕ) (orders : List RoleOrder) (log : List LogEntry) (n : ℕ) (entry : LogEntry) → IsLawful clock orders log
    → entry_at (suc n) log ≡ Some entry → IsStamped entry (log_after n log)
entry-lawful clock orders log n entry h is = entry-stamped log n entry h.stamped is

stamp_after-filter : (log : List LogEntry) → stamp_after (filter is_order log) ≡ stamp_after log
stamp_after-filter [] = refl
stamp_after-filter (Order gener ctrl ∷ log) = refl
stamp_after-filter (Change gener ctrl tick step freq ∷ log) = stamp_after-filter log

for_step : (b : Bool) (clock : ℕ) (order : RoleOrder) (some : List RoleOrder) (stamp : Stamp) → stamp_after (map order_entry some) ≡ stamp
    → stamp_after (map order_entry (cond b (order ∷ some) some)) ≡ cond b (record { gener = order.gener; ctrl = order.ctrl }) stamp
for_step true clock order some stamp h = refl
for_step false clock order some stamp h = h

stamp_after-orders : (clock : ℕ) (orders : List RoleOrder) → stamp_after (orders_for clock orders) ≡ stamp_of clock orders
stamp_after-orders clock [] = refl
stamp_after-orders clock (order ∷ orders) = for_step (eqb order.clock clock) clock order (filter (λ (o : RoleOrder). eqb o.clock clock) orders)
    (stamp_of clock orders) (stamp_after-orders clock orders)

pub stamp_after-lawful : (clock : ℕ) (orders : List RoleOrder) (log : List LogEntry) → IsLawful clock orders log
    → stamp_after log ≡ stamp_of clock orders
stamp_after-lawful clock orders log h = sym (stamp_after-filter log) ∙ ap stamp_after h.orders_are ∙ stamp_after-orders clock orders

-- ---- a log grows
pub IsLawful-opened : (clock : ℕ) → IsLawful clock [] []
IsLawful-opened clock = record { orders_are = refl; stamped = tt }

pub IsLawful-ordered : (clock : ℕ) (order : RoleOrder) (orders : List RoleOrder) (log : List LogEntry) → order.clock ≡ clock
    → IsLawful clock orders log → IsLawful clock (order ∷ orders) (order_entry order ∷ log)
IsLawful-ordered clock order orders log here h = record {
  orders_are = rw (eq-eqb order.clock clock here) (ap (λ (es : List LogEntry). order_entry order ∷ es) h.orders_are);
  stamped = (tt, h.stamped);
}

pub IsLawful-elsewhere : (clock : ℕ) (order : RoleOrder) (orders : List RoleOrder) (log : List LogEntry) → order.clock ≢ clock
    → IsLawful clock orders log → IsLawful clock (order ∷ orders) log
IsLawful-elsewhere clock order orders log other h = record { orders_are = rw (ne_eqb order.clock clock other) h.orders_are; stamped = h.stamped }

pub IsLawful-changed : (clock : ℕ) (orders : List RoleOrder) (log : List LogEntry) (gener ctrl tick : ℕ) (step freq : ℤ)
    → IsStamped (Change gener ctrl tick step freq) log → IsLawful clock orders log → IsLawful clock orders (Change gener ctrl tick step freq ∷ log)
IsLawful-changed clock orders log gener ctrl tick step freq stamp h = record { orders_are = h.orders_are; stamped = (stamp, h.stamped) }

-- ---- the controllers that all orders leave
length-after : (ctrls : List ℕ) (orders : List RoleOrder) → length (ctrls_after ctrls orders) ≡ length ctrls
length-after ctrls [] = refl
length-after ctrls (order ∷ orders) = length-after (ctrls_by ctrls order) orders ∙ length-set ctrls order.clock order.ctrl

nothing_at : (n c : ℕ) → slice_index (replicate n 0) c ≡ 0
nothing_at n c = elim (cases_lt c n)
    [ inl within ↦ get_or-replicate n c 0 0 within | inr past ↦ get_or_past (replicate n 0) c 0 (rw (length-replicate {A = ℕ} n 0) past) ]

ctrl_step : (clock : ℕ) (order : RoleOrder) (ctrls : List ℕ) (stamp : Stamp) → clock < length ctrls → stamp.ctrl ≡ slice_index ctrls clock
    → (cond (eqb order.clock clock) (record { gener = order.gener; ctrl = order.ctrl }) stamp).ctrl ≡ slice_index (ctrls_by ctrls order) clock
ctrl_step clock order ctrls stamp within before =
    elim (cases_eq order.clock clock) [
      | inl same ↦
          let long : order.clock < length ctrls = omega (arith, same, within) in
          let here = get_or-set_same ctrls order.clock order.ctrl 0 long in
          rw (eq-eqb order.clock clock same) (sym here ∙ ap (λ (c : ℕ). slice_index (ctrls_by ctrls order) c) same)
      | inr other ↦
          let away : clock ≢ order.clock = λ is. other (sym is) in
          rw (ne_eqb order.clock clock other) (before ∙ sym (get_or-set_other ctrls order.clock clock order.ctrl 0 away))
    ]

pub stamp_of-ctrl : (clocks clock : ℕ) (orders : List RoleOrder) → clock < clocks
    → (stamp_of clock orders).ctrl ≡ slice_index (ctrls_after (replicate clocks 0) (reverse orders)) clock
stamp_of-ctrl clocks clock [] within = sym (nothing_at clocks clock)
stamp_of-ctrl clocks clock (order ∷ orders) within =
    let turned : reverse (order ∷ orders) ≡ reverse orders ++ order ∷ [] = reverse-append (order ∷ []) orders in
    let parts = fold-append ctrls_by (replicate clocks 0) (reverse orders) (order ∷ []) in
    let wide : clock < length (ctrls_after (replicate clocks 0) (reverse orders)) = rw (length-after (replicate clocks 0) (reverse orders))
    (rw (length-replicate {A = ℕ} clocks 0) within) in
    rw turned (rw parts (ctrl_step clock order (ctrls_after (replicate clocks 0) (reverse orders)) (stamp_of clock orders) wide
    (stamp_of-ctrl clocks clock orders within)))
