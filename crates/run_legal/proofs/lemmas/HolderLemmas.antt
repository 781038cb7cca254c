-- Whom an order once gave a clock holds it as long as no newer generation is ordered for it.
use Rattle.std.proofs.Common.{◌≡◌, ◌≢◌, ◌≤◌, ◌<◌, ℕ, ◌+◌, Bool, true, false, cond, eqb, eq-eqb, refl, sym, ap, ◌∙◌, subst, arith, List, [], ◌∷◌, ◌++◌, length, reverse, Option, Some, None}
use mathlib.Core.List.{reverse_aux}
use Rattle.std.specs.Prelude.{◌==◌, All, Contains, filter}
use Rattle.std.proofs.lemmas.Bool.{false≢true}
use Rattle.std.proofs.lemmas.List.Elements.{All-nil, All-cons, All-weaker, All-head, All-tail, All-contains, filter-append}
use Rattle.ptp_profile.specs.declared.roles.Edge.{Edge}
use Rattle.ptp_profile.specs.declared.roles.RoleOrder.{RoleOrder}
use Rattle.ptp_profile.specs.declared.roles.Stamp.{Stamp}
use Rattle.ptp_profile.specs.declared.seats.Held.{Held}
use Rattle.ptp_profile.specs.declared.seats.LogEntry.{LogEntry}
use Rattle.ptp_profile.specs.Roles.Edges.{ctrl_of, edge_at, is_same_edge, revoke, grant, no_stamp, orders_of, stamp_of}
use Rattle.ptp_profile.specs.Roles.SeatLogs.{IsLawful, stamp_after}
use Rattle.ptp_profile.proofs.lemmas.GenerationLemmas.{filter-orders}
use Rattle.ptp_profile.proofs.lemmas.SeatLogLemmas.{stamp_after-lawful}
use Rattle.bc_history.specs.declared.entry.Entry.{Entry}
use Rattle.bc_history.specs.declared.scenario.Scenario.{Scenario}
use Rattle.bc_history.specs.Phases.Inputs.{event_of}
use Rattle.bc_history.specs.Phases.RolePhase.{after_roles, begins_generation, clocks_of, edges_now, states_of}
use Rattle.bc_history.specs.Phases.State.{Core, Roles}
use Rattle.bc_history.specs.Phases.Step.{core_after, state_of, step}
use Rattle.bc_history.specs.Run.ExchangeOutcomes.{IsHolder}
use Rattle.run_legal.proofs.lemmas.NewerOrderLemmas.{orders_are_bounded}
use Rattle.ptp_profile.specs.Roles.Edges.{edge_by, port_on, slave_clock}
use Rattle.std.proofs.lemmas.List.FromFn.{length-map-range_with_len}

-- the orders of one clock
abbrev of : ℕ → List RoleOrder → List RoleOrder
of clock orders = filter (λ (order : RoleOrder). order.clock == clock) orders

-- the stamp of the newest order
abbrev newest : List RoleOrder → Stamp
newest [] = no_stamp
newest (order ∷ orders) = record { gener = order.gener; ctrl = order.ctrl }

-- an order that gave the clock to somebody is of no newer generation than the stamp, and of the same
-- one where it is the same
abbrev IsUnder : Stamp → RoleOrder → Type 0
IsUnder stamp order = order.ctrl ≢ 0 → (order.gener ≤ stamp.gener) × (order.gener ≡ stamp.gener → order.ctrl ≡ stamp.ctrl)

-- no order is of a later generation
abbrev AreUpTo : ℕ → List RoleOrder → Type 0
AreUpTo gener orders = All (λ (order : RoleOrder). order.gener ≤ gener) orders

-- orders of former generations are under a newer stamp
under-newer : (stamp : Stamp) (gener : ℕ) (orders : List RoleOrder) → gener < stamp.gener → AreUpTo gener orders → All (IsUnder stamp) orders
under-newer stamp gener orders lt all =
    All-weaker (λ (order : RoleOrder). order.gener ≤ gener) (IsUnder stamp) (λ order le held. (omega (arith, le, lt), λ same. absurd (omega (arith, le, lt, same)))) orders all

-- the stamp of a clock is that of its newest order
stamp_of-newest : (clock : ℕ) (orders : List RoleOrder) → stamp_of clock orders ≡ newest (of clock orders)
stamp_of-newest clock [] = refl
stamp_of-newest clock (order ∷ orders) = by (eqb order.clock clock) (stamp_of-newest clock orders)
  where
    by : (b : Bool) → stamp_of clock orders ≡ newest (of clock orders)
        → cond b (record { gener = order.gener; ctrl = order.ctrl }) (stamp_of clock orders) ≡ newest (cond b (order ∷ of clock orders) (of clock orders))
    by true rest = refl
    by false rest = rest

-- a filter goes past a reversal
filter-reverse_aux : {X : Type 0} (test : X → Bool) (xs acc : List X) → filter test (reverse_aux xs acc) ≡ reverse_aux (filter test xs) (filter test acc)
filter-reverse_aux test [] acc = refl
filter-reverse_aux test (x ∷ xs) acc = filter-reverse_aux test xs (x ∷ acc) ∙ by (test x)
  where
    by : (b : Bool) → reverse_aux (filter test xs) (cond b (x ∷ filter test acc) (filter test acc)) ≡ reverse_aux (cond b (x ∷ filter test xs) (filter test xs)) (filter test acc)
    by true = refl
    by false = refl

-- all orders of a clock are under the newest one's stamp
abbrev AreUnder : List RoleOrder → Type 0
AreUnder orders = All (IsUnder (newest orders)) orders

-- a grant is under itself
granted-under : (order : RoleOrder) → IsUnder (newest (order ∷ [])) order
granted-under order = λ held. (omega arith, λ same. refl)

-- after a generation that takes a clock and gives it again
under-begun : (gener clock : ℕ) (old new : Option Edge) (b : Bool) (former : List RoleOrder) → AreUpTo gener former → AreUnder former
    → AreUnder (reverse (cond b [] (revoke (gener + 1) clock old ++ grant (gener + 1) clock new)) ++ former)
under-begun gener clock old new true former up under = under
under-begun gener clock None None false former up under = under
under-begun gener clock None (Some edge) false former up under =
    let order : RoleOrder = record { clock = clock; gener = gener + 1; ctrl = ctrl_of edge } in
    All-cons (IsUnder (newest (order ∷ []))) order former (granted-under order) (under-newer (newest (order ∷ [])) gener former (omega arith) up)
under-begun gener clock (Some edge) None false former up under =
    let order : RoleOrder = record { clock = clock; gener = gener + 1; ctrl = 0 } in
    All-cons (IsUnder (newest (order ∷ []))) order former (granted-under order) (under-newer (newest (order ∷ [])) gener former (omega arith) up)
under-begun gener clock (Some edge) (Some next) false former up under =
    let taken : RoleOrder = record { clock = clock; gener = gener + 1; ctrl = 0 } in
    let order : RoleOrder = record { clock = clock; gener = gener + 1; ctrl = ctrl_of next } in
    All-cons (IsUnder (newest (order ∷ []))) order (taken ∷ former) (granted-under order)
    (All-cons (IsUnder (newest (order ∷ []))) taken former (λ held. absurd (held refl)) (under-newer (newest (order ∷ [])) gener former (omega arith) up))

-- what is so of all is so of those that pass a test
All-filter : {X : Type 0} (P : X → Type 0) (test : X → Bool) (xs : List X) → All P xs → All P (filter test xs)
All-filter P test [] all = All-nil P
All-filter P test (x ∷ xs) all = by (test x) (All-filter P test xs (All-tail P x xs all))
  where
    by : (b : Bool) → All P (filter test xs) → All P (cond b (x ∷ filter test xs) (filter test xs))
    by true rest = All-cons P x (filter test xs) (All-head P x xs all) rest
    by false rest = rest

-- edges stand for each clock, as before
length-edges_now : (c : Core) (r : Roles) → length r.edges ≡ length (edges_now c r)
length-edges_now c r =
    let states = states_of c.ports in
    let port_clocks = clocks_of c.ports in
    let edge = λ (clock : ℕ). edge_by c.master.parent (port_on clock states port_clocks) (slave_clock states port_clocks) in
    sym (length-map-range_with_len edge 0 (length r.edges))

-- so it stays with the roles after an entry
under-after_roles : (clock : ℕ) (c : Core) (r : Roles) → AreUpTo r.gener r.orders → AreUnder (of clock r.orders) → AreUnder (of clock (after_roles c r).orders)
unfolding after_roles
under-after_roles clock c r up under = by (begins_generation c r)
  where
    new : List RoleOrder
    new = orders_of (r.gener + 1) r.edges (edges_now c r)

    old_edge : Option Edge
    old_edge = edge_at r.edges clock

    new_edge : Option Edge
    new_edge = edge_at (edges_now c r) clock

    begun : of clock (reverse new ++ r.orders) ≡ reverse (cond (is_same_edge old_edge new_edge) [] (revoke (r.gener + 1) clock old_edge ++ grant (r.gener + 1) clock new_edge)) ++ of clock r.orders
    begun =
        filter-append (λ (order : RoleOrder). order.clock == clock) (reverse new) r.orders
        ∙ ap (λ (orders : List RoleOrder). orders ++ of clock r.orders)
        (filter-reverse_aux (λ (order : RoleOrder). order.clock == clock) new []
        ∙ ap (λ (orders : List RoleOrder). reverse orders) (filter-orders (r.gener + 1) clock r.edges (edges_now c r) (length-edges_now c r)))

    by : (b : Bool) → AreUnder (of clock (cond b (record {
      gener = r.gener + 1;
      edges = edges_now c r;
      orders = reverse (cond b new []) ++ r.orders;
    }) r).orders)
    by false = under
    by true =
        subst AreUnder (sym begun)
        (under-begun r.gener clock old_edge new_edge (is_same_edge old_edge new_edge) (of clock r.orders)
        (All-filter (λ (order : RoleOrder). order.gener ≤ r.gener) (λ (order : RoleOrder). order.clock == clock) r.orders up) under)

-- along every history
under-state_of : (s : Scenario) (entries : List Entry) (clock : ℕ) → AreUnder (of clock (state_of s entries).roles.orders)
unfolding state_of step
under-state_of s [] clock = All-nil (IsUnder no_stamp)
under-state_of s (e ∷ before) clock =
    under-after_roles clock (core_after s.options (state_of s before) (event_of e)) (state_of s before).roles (orders_are_bounded s before).bounded (under-state_of s before clock)

-- what is so of those that pass a test is so of each that does
pub All-passing : {X : Type 0} (P : X → Type 0) (test : X → Bool) (xs : List X) → All P (filter test xs) → All (λ (x : X). test x ≡ true → P x) xs
All-passing P test [] all = All-nil (λ x. test x ≡ true → P x)
All-passing P test (x ∷ xs) all = by (test x) refl all (All-passing P test xs)
  where
    by : (b : Bool) → test x ≡ b → All P (cond b (x ∷ filter test xs) (filter test xs))
        → (All P (filter test xs) → All (λ y. test y ≡ true → P y) xs) → All (λ y. test y ≡ true → P y) (x ∷ xs)
    by true is passing rest =
        All-cons (λ y. test y ≡ true → P y) x xs (λ same. All-head P x (filter test xs) passing) (rest (All-tail P x (filter test xs) passing))
    by false is passing rest = All-cons (λ y. test y ≡ true → P y) x xs (λ same. absurd (false≢true (sym is ∙ same))) (rest passing)

-- whom an order gave a clock holds a lawful log of it, until a newer generation is ordered
pub IsHolder-ordered : (s : Scenario) (entries : List Entry) (log : List LogEntry) (held : Held) → held.ctrl ≢ 0
    → IsLawful held.clock (state_of s entries).roles.orders log
    → Contains (state_of s entries).roles.orders (record { clock = held.clock; gener = held.gener; ctrl = held.ctrl })
    → IsHolder log held
IsHolder-ordered s entries log held somebody lawful there =
    let orders = (state_of s entries).roles.orders in
    let stamp : stamp_after log ≡ newest (of held.clock orders) = stamp_after-lawful held.clock orders log lawful ∙ stamp_of-newest held.clock orders in
    let under = All-contains (λ (order : RoleOrder). (order.clock == held.clock) ≡ true → IsUnder (newest (of held.clock orders)) order) orders (record { clock = held.clock; gener = held.gener; ctrl = held.ctrl })
    (All-passing (IsUnder (newest (of held.clock orders))) (λ (order : RoleOrder). order.clock == held.clock) orders (under-state_of s entries held.clock)) there (eq-eqb held.clock held.clock refl) somebody in
    let both : (held.gener ≤ (stamp_after log).gener) × (held.gener ≡ (stamp_after log).gener → held.ctrl ≡ (stamp_after log).ctrl) =
    subst (λ (now : Stamp). (held.gener ≤ now.gener) × (held.gener ≡ now.gener → held.ctrl ≡ now.ctrl)) (sym stamp) under in
    record { granted = both.0; one = both.1 }
