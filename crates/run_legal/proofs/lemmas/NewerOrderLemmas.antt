-- The orders of an entry are of a generation that is newer than all orders before it.
use Rattle.std.proofs.Common.{◌≡◌, ◌≤◌, ◌<◌, ℕ, zero, suc, ◌+◌, Bool, true, false, cond, eqb, refl, ap, inl, inr, List, [], ◌∷◌, ◌++◌, reverse, arith, Option, Some, None}
use mathlib.Core.List.{reverse_aux}
use Rattle.std.specs.Prelude.{◌⊎◌, ◌==◌, All, filter, filter_map, slice_set}
use Rattle.std.proofs.lemmas.Bool.Decides.{eqb_tells}
use Rattle.std.proofs.lemmas.List.Elements.{All-nil, All-cons, All-head, All-tail, All-append, All-weaker}
use Rattle.ptp_profile.specs.declared.roles.Edge.{Edge}
use Rattle.ptp_profile.specs.declared.roles.RoleOrder.{RoleOrder}
use Rattle.ptp_profile.specs.declared.seats.LogEntry.{LogEntry}
use Rattle.ptp_profile.specs.declared.seats.LogEntry.TheVariants.{Order}
use Rattle.ptp_profile.specs.Roles.Edges.{is_same_edge, revoke, grant, revokes_from, grants_from, orders_of}
use Rattle.bc_history.specs.declared.entry.Entry.{Entry}
use Rattle.bc_history.specs.declared.scenario.Scenario.{Scenario}
use Rattle.bc_history.specs.Phases.State.{Core, Roles}
use Rattle.bc_history.specs.Phases.Inputs.{event_of}
use Rattle.bc_history.specs.Phases.RolePhase.{begins_generation, edges_now, orders_now, after_roles}
use Rattle.bc_history.specs.Phases.Step.{step, core_after, state_of}
use Rattle.bc_history.specs.Phases.EntryEffects.{effects_of, entry_after, event}
use Rattle.bc_history.specs.Run.History.{Follows, Continues}
use Rattle.run_legal.specs.Numbers.LogNumbers.{order_number, order_numbers, numbers_in}
use Rattle.ptp_profile.specs.Roles.SeatLogs.{log_at}
use Rattle.ptp_profile.specs.Roles.SeatLogs.{with_order}

abbrev pub AreOf : ℕ → List RoleOrder → Type 0
AreOf g orders = All (λ (o : RoleOrder). o.gener ≡ g) orders

revoke-of : (b : Bool) (g clock : ℕ) (old : Option Edge) → AreOf g (cond b [] (revoke g clock old))
revoke-of true g clock old = All-nil _
revoke-of false g clock None = All-nil _
revoke-of false g clock (Some edge) = All-cons (λ (o : RoleOrder). o.gener ≡ g) (record { clock = clock; gener = g; ctrl = 0 }) [] refl (All-nil _)

grant-of : (b : Bool) (g clock : ℕ) (new : Option Edge) → AreOf g (cond b [] (grant g clock new))
grant-of true g clock new = All-nil _
grant-of false g clock None = All-nil _
grant-of false g clock (Some edge) = All-cons (λ (o : RoleOrder). o.gener ≡ g) _ [] refl (All-nil _)

revokes-of : (g clock : ℕ) (olds news : List (Option Edge)) → AreOf g (revokes_from g clock olds news)
revokes-of g clock [] news = All-nil _
revokes-of g clock (old ∷ olds) [] = All-nil _
revokes-of g clock (old ∷ olds) (new ∷ news) = All-append (λ (o : RoleOrder). o.gener ≡ g) _ _ (revoke-of (is_same_edge old new) g clock old) (revokes-of g (clock + 1) olds news)

grants-of : (g clock : ℕ) (olds news : List (Option Edge)) → AreOf g (grants_from g clock olds news)
grants-of g clock [] news = All-nil _
grants-of g clock (old ∷ olds) [] = All-nil _
grants-of g clock (old ∷ olds) (new ∷ news) = All-append (λ (o : RoleOrder). o.gener ≡ g) _ _ (grant-of (is_same_edge old new) g clock new) (grants-of g (clock + 1) olds news)

orders-of : (g : ℕ) (olds news : List (Option Edge)) → AreOf g (orders_of g olds news)
orders-of g olds news = All-append (λ (o : RoleOrder). o.gener ≡ g) _ _ (revokes-of g 0 olds news) (grants-of g 0 olds news)

-- an order that is newer than one changes nothing of that one's number
order_number-push : (gener ctrl newer k : ℕ) (log : List LogEntry) → gener < newer → order_number gener ctrl (Order newer k ∷ log) ≡ order_number gener ctrl log
order_number-push gener ctrl newer k log lt =
    elim (eqb_tells newer gener) [
      | inl t ↦ let same = t.1 in absurd (omega arith)
      | inr f ↦ let other = f.0 in rw other refl
    ]

-- the present generation is that of no older order
pub record IsBounded (r : Roles) : Type 0 where
  pub bounded : All (λ (o : RoleOrder). o.gener ≤ r.gener) r.orders

All-reverse_aux : {X : Type 0} (P : X → Type 0) (xs acc : List X) → All P xs → All P acc → All P (reverse_aux xs acc)
All-reverse_aux P [] acc all more = more
All-reverse_aux P (x ∷ xs) acc all more = All-reverse_aux P xs (x ∷ acc) (All-tail P x xs all) (All-cons P x acc (All-head P x xs all) more)

pub All-reverse : {X : Type 0} (P : X → Type 0) (xs : List X) → All P xs → All P (reverse xs)
All-reverse P xs all = All-reverse_aux P xs [] all (All-nil P)

bounded-after_roles : (c : Core) (r : Roles) → IsBounded r → IsBounded (after_roles c r)
unfolding after_roles
bounded-after_roles c r is = by_case (begins_generation c r)
  where
    new : List RoleOrder
    new = orders_of (r.gener + 1) r.edges (edges_now c r)

    by_case : (b : Bool) → IsBounded (cond b (record { gener = r.gener + 1; edges = edges_now c r; orders = reverse (cond b new []) ++ r.orders }) r)
    by_case false = is
    by_case true = record {
      bounded = All-append (λ (o : RoleOrder). o.gener ≤ r.gener + 1) _ _
          (All-reverse (λ (o : RoleOrder). o.gener ≤ r.gener + 1) new (All-weaker (λ (o : RoleOrder). o.gener ≡ r.gener + 1) (λ (o : RoleOrder). o.gener ≤ r.gener + 1) (λ o same. omega arith) new (orders-of (r.gener + 1) r.edges (edges_now c r))))
          (All-weaker (λ (o : RoleOrder). o.gener ≤ r.gener) (λ (o : RoleOrder). o.gener ≤ r.gener + 1) (λ o le. omega arith) r.orders is.bounded);
    }

-- after every list of entries no order is of a later generation than the present one
pub orders_are_bounded : (s : Scenario) (entries : List Entry) → IsBounded (state_of s entries).roles
unfolding state_of step
orders_are_bounded s [] = record { bounded = All-nil _ }
orders_are_bounded s (e ∷ before) = bounded-after_roles (core_after s.options (state_of s before) (event_of e)) (state_of s before).roles (orders_are_bounded s before)

orders_now-of : (c : Core) (r : Roles) → AreOf (r.gener + 1) (orders_now c r)
orders_now-of c r = by_case (begins_generation c r)
  where
    by_case : (b : Bool) → AreOf (r.gener + 1) (cond b (orders_of (r.gener + 1) r.edges (edges_now c r)) [])
    by_case true = orders-of (r.gener + 1) r.edges (edges_now c r)
    by_case false = All-nil _

-- the orders of an entry are of the generation after the one before it
pub orders_are_newer : (s : Scenario) (e : Entry) (before : List Entry) → Follows s before e → AreOf ((state_of s before).roles.gener + 1) e.effects.orders
unfolding entry_after effects_of
orders_are_newer s e before f =
    let same = ap (λ (x : Entry). x.effects.orders) f.made in
    rw same (orders_now-of (core_after s.options (state_of s before) (event e.input e.seen)) (state_of s before).roles)

-- orders of a generation up to g
abbrev pub AreUpTo : ℕ → Entry → Type 0
AreUpTo g e = All (λ (o : RoleOrder). o.gener ≤ g) e.effects.orders

up_to-now : (c : Core) (r : Roles) → All (λ (o : RoleOrder). o.gener ≤ (after_roles c r).gener) (orders_now c r)
unfolding after_roles
up_to-now c r = by_case (begins_generation c r)
  where
    new : List RoleOrder
    new = orders_of (r.gener + 1) r.edges (edges_now c r)

    by_case : (b : Bool) → All (λ (o : RoleOrder). o.gener ≤ (cond b (record { gener = r.gener + 1; edges = edges_now c r; orders = reverse (cond b new []) ++ r.orders }) r).gener) (cond b new [])
    by_case false = All-nil _
    by_case true = All-weaker (λ (o : RoleOrder). o.gener ≡ r.gener + 1) (λ (o : RoleOrder). o.gener ≤ r.gener + 1) (λ o same. omega arith) new (orders-of (r.gener + 1) r.edges (edges_now c r))

rises : (c : Core) (r : Roles) → r.gener ≤ (after_roles c r).gener
unfolding after_roles
rises c r = by_case (begins_generation c r)
  where
    by_case : (b : Bool) → r.gener ≤ (cond b (record { gener = r.gener + 1; edges = edges_now c r; orders = reverse (cond b (orders_of (r.gener + 1) r.edges (edges_now c r)) []) ++ r.orders }) r).gener
    by_case false = omega arith
    by_case true = omega arith

-- no entry has an order of a later generation than the present one
pub entries_are_bounded : (s : Scenario) (entries : List Entry) → Continues s entries → All (AreUpTo (state_of s entries).roles.gener) entries
unfolding state_of step entry_after effects_of
entries_are_bounded s [] h = All-nil _
entries_are_bounded s (e ∷ before) h =
    let c = core_after s.options (state_of s before) (event_of e) in
    let r = (state_of s before).roles in
    let le = rises c r in
    let same = ap (λ (x : Entry). x.effects.orders) h.0.made in
    let own : AreUpTo (after_roles c r).gener e = rw same (up_to-now c r) in
    All-cons (AreUpTo (after_roles c r).gener) e before own
    (All-weaker (AreUpTo r.gener) (AreUpTo (after_roles c r).gener) (λ f up. All-weaker (λ (o : RoleOrder). o.gener ≤ r.gener) (λ (o : RoleOrder). o.gener ≤ (after_roles c r).gener) (λ o few. omega arith) f.effects.orders up) before (entries_are_bounded s before h.1))

-- ---- numbers stay as logs grow by newer orders

pub log_at-changed : (logs : List (List LogEntry)) (i clock : ℕ) (x : LogEntry) → (log_at (slice_set logs i (x ∷ log_at logs i)) clock ≡ log_at logs clock) ⊎ (log_at (slice_set logs i (x ∷ log_at logs i)) clock ≡ x ∷ log_at logs clock)
log_at-changed [] i clock x = inl refl
log_at-changed (log ∷ logs) zero zero x = inr refl
log_at-changed (log ∷ logs) zero (suc c) x = inl refl
log_at-changed (log ∷ logs) (suc i) zero x = inl refl
log_at-changed (log ∷ logs) (suc i) (suc c) x = log_at-changed logs i c x

number-stays : (logs : List (List LogEntry)) (newer : RoleOrder) (clock gener ctrl : ℕ) → gener < newer.gener
    → order_number gener ctrl (log_at (with_order logs newer) clock) ≡ order_number gener ctrl (log_at logs clock)
number-stays logs newer clock gener ctrl lt =
    elim (log_at-changed logs newer.clock clock (Order newer.gener newer.ctrl)) [
      | inl same ↦ rw same refl
      | inr more ↦ rw more (order_number-push gener ctrl newer.gener newer.ctrl (log_at logs clock) lt)
    ]

pub numbers-stay_by : (logs : List (List LogEntry)) (newer : RoleOrder) (clock : ℕ) (orders : List RoleOrder) → All (λ (o : RoleOrder). o.gener < newer.gener) orders
    → order_numbers (with_order logs newer) clock orders ≡ order_numbers logs clock orders
numbers-stay_by logs newer clock [] all = refl
numbers-stay_by logs newer clock (o ∷ orders) all =
    let rest = numbers-stay_by logs newer clock orders (All-tail (λ (o : RoleOrder). o.gener < newer.gener) o orders all) in
    let first = number-stays logs newer clock o.gener o.ctrl (All-head (λ (o : RoleOrder). o.gener < newer.gener) o orders all) in
    by_case (eqb o.clock clock) rest first
  where
    numbers : List (List LogEntry) → List RoleOrder → List ℕ
    numbers ls os = filter_map (λ (o : RoleOrder). order_number o.gener o.ctrl (log_at ls clock)) os

    by_case : (b : Bool) → order_numbers (with_order logs newer) clock orders ≡ order_numbers logs clock orders
        → order_number o.gener o.ctrl (log_at (with_order logs newer) clock) ≡ order_number o.gener o.ctrl (log_at logs clock)
        → filter_map (λ (o : RoleOrder). order_number o.gener o.ctrl (log_at (with_order logs newer) clock)) (cond b (o ∷ filter (λ (o : RoleOrder). o.clock == clock) orders) (filter (λ (o : RoleOrder). o.clock == clock) orders))
        ≡ filter_map (λ (o : RoleOrder). order_number o.gener o.ctrl (log_at logs clock)) (cond b (o ∷ filter (λ (o : RoleOrder). o.clock == clock) orders) (filter (λ (o : RoleOrder). o.clock == clock) orders))
    by_case false rest first = rest
    by_case true rest first = rw (first, rest) refl

-- so all numbers of entries stay as they were
pub numbers_stay : (s : Scenario) (logs : List (List LogEntry)) (newer : RoleOrder) (clock : ℕ) (entries : List Entry) → All (λ (e : Entry). All (λ (o : RoleOrder). o.gener < newer.gener) e.effects.orders) entries
    → numbers_in s (with_order logs newer) clock entries ≡ numbers_in s logs clock entries
numbers_stay s logs newer clock [] all = refl
numbers_stay s logs newer clock (e ∷ entries) all =
    let rest = numbers_stay s logs newer clock entries (All-tail (λ (e : Entry). All (λ (o : RoleOrder). o.gener < newer.gener) e.effects.orders) e entries all) in
    let own = numbers-stay_by logs newer clock e.effects.orders (All-head (λ (e : Entry). All (λ (o : RoleOrder). o.gener < newer.gener) e.effects.orders) e entries all) in
    rw (own, rest) refl
