-- What is kept stands for the history's roles, which go on likewise.
use Rattle.std.proofs.Common.{◌≡◌, ◌≢◌, ℕ, ℤ, zero, suc, ◌+◌, ◌<◌, ◌≤◌, Bool, true, false, cond, eqb, inl, inr, refl, sym, ap, ◌∙◌, subst, List, [], ◌∷◌, ◌++◌, length, map, set, replicate, reverse, Option, Some, None, append_assoc, arith, eq-eqb, ne_eqb, leb}
use Rattle.std.specs.Prelude.{◌&&◌, not, slice_get, Result, Ok, Err, OnOk, OnErr}
use Rattle.std.specs.List.{range_with_len}
use Rattle.std.proofs.lemmas.Bool.{cases_eq, eqb-true}
use Rattle.std.proofs.lemmas.List.{length-replicate, reverse-append}
use Rattle.std.proofs.lemmas.List.FromFn.{get_or-map-range_with_len, length-map-range_with_len}
use Rattle.model_clock.specs.declared.state.ClockState.{ClockState}
use Rattle.ptp_base.specs.declared.identity.PortId.{PortId}
use Rattle.ptp_base.specs.declared.port_state.PortState.{PortState}
use Rattle.ptp_profile.specs.declared.roles.Edge.{Edge}
use Rattle.ptp_profile.specs.declared.roles.RoleOrder.{RoleOrder}
use Rattle.ptp_profile.specs.declared.roles.Stamp.{Stamp}
use Rattle.ptp_profile.specs.declared.seats.Held.{Held}
use Rattle.ptp_profile.specs.declared.seats.LogEntry.{LogEntry}
use Rattle.ptp_profile.specs.declared.seats.Receipt.{Receipt}
use Rattle.ptp_profile.specs.declared.seats.Refused.{Refused}
use Rattle.ptp_profile.specs.declared.seats.Refused.TheVariants.{Spent, Superseded}
use Rattle.ptp_profile.specs.Roles.SeatLogs.{change_of, exchange_answer, log_at, no_logs, order_entry, stamp_after, with_log_entry, with_order, with_orders, AreLawful, IsLawful}
use Rattle.ptp_profile.specs.Roles.Edges.{are_same_edges, edge_by, edges_of, no_stamp, orders_of, port_on, slave_clock, stamp_of}
use Rattle.ptp_profile.proofs.lemmas.SeatLogLemmas.{IsLawful-changed, IsLawful-elsewhere, IsLawful-opened, IsLawful-ordered}
use Rattle.bc_history.specs.declared.scenario.Scenario.{Scenario}
use Rattle.bc_history.specs.Phases.OpeningState.{opening}
use Rattle.bc_history.specs.Phases.RolePhase.{after_roles, clocks_of, edges_now, orders_now, states_of}
use Rattle.bc_history.specs.Phases.State.{Core, Roles}
use Rattle.bc_history.specs.Phases.Step.{held_of}
use Rattle.discipline_seat.specs.SeatsView.{log_of, stamp_in, with_entry, Seats}
use Rattle.bc_roles.specs.NextGeneration.{after_generation, orders_to, GenerationYields}
use Rattle.bc_roles.specs.RolesView.{no_roles, AdvanceYields, RolesRepresent, RolesView}
use Rattle.bc_roles.specs.Stamps.{held_at, stamp_at, stamp_by, stamps_of, with_stamp, with_stamps}
use Rattle.bc_roles.proofs.lemmas.NextGenerationLemmas.{logs-given}

-- ---- stamps
map_range-same : (f g : ℕ → Stamp) (a n : ℕ) → ((k : ℕ) → a ≤ k → f k ≡ g k)
    → map f (range_with_len a n) ≡ map g (range_with_len a n)
map_range-same f g a zero same = refl
map_range-same f g a (suc n) same =
    ap (λ (stamp : Stamp). stamp ∷ map f (range_with_len (a + 1) n)) (same a (omega arith))
    ∙ ap (λ (stamps : List Stamp). g a ∷ stamps) (map_range-same f g (a + 1) n (λ k from. same k (omega arith)))

-- a list of a function's values is changed in one place, as the function is
set-map_range : (f g : ℕ → Stamp) (a n i at : ℕ) → at ≡ a + i → ((k : ℕ) → k ≢ at → f k ≡ g k)
    → set (map f (range_with_len a n)) i (g at) ≡ map g (range_with_len a n)
set-map_range f g a zero i at is others = refl
set-map_range f g a (suc n) zero at is others =
    let here : at ≡ a = omega arith in
    ap (λ (k : ℕ). g k ∷ map f (range_with_len (a + 1) n)) here
    ∙ ap (λ (stamps : List Stamp). g a ∷ stamps) (map_range-same f g (a + 1) n (λ k from. others k (omega arith)))
set-map_range f g a (suc n) (suc i) at is others =
    let away : a ≢ at = omega arith in
    ap (λ (stamp : Stamp). stamp ∷ set (map f (range_with_len (a + 1) n)) i (g at)) (others a away)
    ∙ ap (λ (stamps : List Stamp). g a ∷ stamps) (set-map_range f g (a + 1) n i at (omega arith) others)

stamps-ordered : (n : ℕ) (order : RoleOrder) (orders : List RoleOrder)
    → with_stamp (stamps_of n orders) order ≡ stamps_of n (order ∷ orders)
stamps-ordered n order orders =
    let own : stamp_by order ≡ stamp_of order.clock (order ∷ orders) =
    ap (λ (b : Bool). cond b (stamp_by order) (stamp_of order.clock orders)) (sym (eq-eqb order.clock order.clock refl)) in
    ap (λ (stamp : Stamp). set (stamps_of n orders) order.clock stamp) own
    ∙ set-map_range (λ clock. stamp_of clock orders) (λ clock. stamp_of clock (order ∷ orders)) 0 n order.clock order.clock
    (omega arith)
    (λ k other. ap (λ (b : Bool). cond b (stamp_by order) (stamp_of k orders))
    (sym (ne_eqb order.clock k (λ is. other (sym is)))))

-- orders in turn, the newest first
turned : (order : RoleOrder) (orders befores : List RoleOrder)
    → reverse orders ++ order ∷ befores ≡ reverse (order ∷ orders) ++ befores
turned order orders befores =
    sym (ap (λ (os : List RoleOrder). os ++ befores) (reverse-append (order ∷ []) orders)
    ∙ append_assoc (reverse orders) (order ∷ []) befores)

stamps-after : (n : ℕ) (orders befores : List RoleOrder)
    → with_stamps (stamps_of n befores) orders ≡ stamps_of n (reverse orders ++ befores)
stamps-after n [] befores = refl
stamps-after n (order ∷ orders) befores =
    ap (λ (stamps : List Stamp). with_stamps stamps orders) (stamps-ordered n order befores)
    ∙ stamps-after n orders (order ∷ befores)
    ∙ ap (stamps_of n) (turned order orders befores)

-- who holds a clock
pub held-history : (v : RolesView) (r : Roles) (clock : ℕ) → RolesRepresent v r → clock < length v.stamps
    → held_at v.stamps clock ≡ held_of clock r.orders
held-history v r clock h there =
    let all : length v.stamps ≡ length r.edges =
    ap length h.stamps ∙ length-map-range_with_len (λ c. stamp_of c r.orders) 0 (length r.edges) in
    let is : stamp_at v.stamps clock ≡ stamp_of clock r.orders = ap (λ (stamps : List Stamp). stamp_at stamps clock) h.stamps
    ∙ get_or-map-range_with_len (λ c. stamp_of c r.orders) 0 (length r.edges) clock clock no_stamp
    (omega arith) (omega arith) in
    ap (λ (stamp : Stamp). record { clock = clock; gener = stamp.gener; ctrl = stamp.ctrl }) is

-- ---- logs
-- a log after an entry in one place
log-set_same : (logs : List (List LogEntry)) (i : ℕ) (new log : List LogEntry) → slice_get (set logs i new) i ≡ Some log
    → (new ≡ log) × (slice_get logs i ≡ Some (log_at logs i))
log-set_same [] i new log is = absurd (cc)
log-set_same (first ∷ logs) zero new log is = (cc, refl)
log-set_same (first ∷ logs) (suc i) new log is = log-set_same logs i new log is

log-set_other : (logs : List (List LogEntry)) (i j : ℕ) (new : List LogEntry) → i ≢ j
    → slice_get (set logs i new) j ≡ slice_get logs j
log-set_other [] i j new other = refl
log-set_other (first ∷ logs) zero zero new other = absurd (other refl)
log-set_other (first ∷ logs) zero (suc j) new other = refl
log-set_other (first ∷ logs) (suc i) zero new other = refl
log-set_other (first ∷ logs) (suc i) (suc j) new other = log-set_other logs i j new (λ is. other (ap suc is))

-- logs are lawful where the one with a new entry is, and each other one
lawful-with : (befores orders : List RoleOrder) (logs : List (List LogEntry)) (clock : ℕ) (entry : LogEntry)
    → AreLawful befores logs
    → (IsLawful clock befores (log_at logs clock) → IsLawful clock orders (entry ∷ log_at logs clock))
    → ((other : ℕ) (log : List LogEntry) → clock ≢ other → IsLawful other befores log → IsLawful other orders log)
    → AreLawful orders (with_log_entry logs clock entry)
lawful-with befores orders logs clock entry lawful own others k log is =
    elim (cases_eq clock k) [
      | inl same ↦
          let here : slice_get (with_log_entry logs clock entry) clock ≡ Some log =
          subst (λ (i : ℕ). slice_get (with_log_entry logs clock entry) i ≡ Some log) (sym same) is in
          let was : (entry ∷ log_at logs clock ≡ log) × (slice_get logs clock ≡ Some (log_at logs clock)) =
          log-set_same logs clock (entry ∷ log_at logs clock) log here in
          subst (λ (i : ℕ). IsLawful i orders log) same
          (subst (IsLawful clock orders) was.0 (own (lawful clock (log_at logs clock) was.1)))
      | inr other ↦
          others k log other (lawful k log (sym (log-set_other logs clock k (entry ∷ log_at logs clock) other) ∙ is))
    ]

lawful-ordered : (order : RoleOrder) (orders : List RoleOrder) (logs : List (List LogEntry)) → AreLawful orders logs
    → AreLawful (order ∷ orders) (with_order logs order)
lawful-ordered order orders logs lawful =
    lawful-with orders (order ∷ orders) logs order.clock (order_entry order) lawful
    (IsLawful-ordered order.clock order orders (log_at logs order.clock) refl)
    (λ k log other. IsLawful-elsewhere k order orders log other)

lawful-after : (orders befores : List RoleOrder) (logs : List (List LogEntry)) → AreLawful befores logs
    → AreLawful (reverse orders ++ befores) (with_orders logs orders)
lawful-after [] befores logs lawful = lawful
lawful-after (order ∷ orders) befores logs lawful =
    subst (λ (os : List RoleOrder). AreLawful os (with_orders (with_order logs order) orders)) (turned order orders befores)
    (lawful-after orders (order ∷ befores) (with_order logs order) (lawful-ordered order befores logs lawful))

-- a change that is taken bears the stamp in force
taken_if : (a b full : Bool) (receipt next : Receipt) (superseded spent : Refused)
    → Ok receipt ≡ cond (not (a && b)) (Err superseded) (cond full (Err spent) (Ok next))
    → (a ≡ true) × (b ≡ true)
taken_if true true full receipt next superseded spent is = (refl, refl)
taken_if true false full receipt next superseded spent is = absurd (cc)
taken_if false b full receipt next superseded spent is = absurd (cc)

stamped : (rows : ℕ) (held : Held) (log : List LogEntry) (receipt : Receipt) → Ok receipt ≡ exchange_answer rows held log
    → (held.gener ≡ (stamp_after log).gener) × (held.ctrl ≡ (stamp_after log).ctrl)
stamped rows held log receipt is =
    let both : (eqb (stamp_after log).gener held.gener ≡ true) × (eqb (stamp_after log).ctrl held.ctrl ≡ true) =
    taken_if (eqb (stamp_after log).gener held.gener) (eqb (stamp_after log).ctrl held.ctrl) (leb rows (length log)) receipt
    (record { number = length log + 1 }) (Superseded (stamp_after log).gener (length log)) (Spent (length log)) is in
    (sym (eqb-true (stamp_after log).gener held.gener both.0), sym (eqb-true (stamp_after log).ctrl held.ctrl both.1))

lawful-answered : (orders : List RoleOrder) (seats new : Seats) (held : Held) (tick : ℕ) (step freq : ℤ)
    (answer : Result Receipt Refused)
    → AreLawful orders seats.logs → held.ctrl ≢ 0 → answer ≡ exchange_answer seats.rows held (log_of seats held.clock)
    → OnOk answer (new ≡ with_entry seats held.clock (change_of held tick step freq)) → OnErr answer (new ≡ seats)
    → AreLawful orders new.logs
lawful-answered orders seats new held tick step freq (Ok receipt) lawful some is taken same =
    let stamp : (held.gener ≡ (stamp_in seats held.clock).gener) × (held.ctrl ≡ (stamp_in seats held.clock).ctrl) =
    stamped seats.rows held (log_of seats held.clock) receipt is in
    subst (λ (s : Seats). AreLawful orders s.logs) (sym taken)
    (lawful-with orders orders seats.logs held.clock (change_of held tick step freq) lawful
    (IsLawful-changed held.clock orders (log_of seats held.clock) held.gener held.ctrl tick step freq (stamp.0, stamp.1, some))
    (λ k log other h. h))
lawful-answered orders seats new held tick step freq (Err refused) lawful some is taken same =
    subst (λ (s : Seats). AreLawful orders s.logs) (sym same) lawful

-- what is kept stands for the same roles after an exchange
pub RolesRepresent-answered : (v : RolesView) (r : Roles) (new : Seats) (held : Held) (tick : ℕ) (step freq : ℤ)
    (answer : Result Receipt Refused)
    → RolesRepresent v r → held.ctrl ≢ 0 → answer ≡ exchange_answer v.seats.rows held (log_of v.seats held.clock)
    → OnOk answer (new ≡ with_entry v.seats held.clock (change_of held tick step freq)) → OnErr answer (new ≡ v.seats)
    → RolesRepresent (record v { seats = new }) r
RolesRepresent-answered v r new held tick step freq answer h some is taken same = record {
  gener = h.gener;
  edges = h.edges;
  stamps = h.stamps;
  lawful = lawful-answered r.orders v.seats new held tick step freq answer h.lawful some is taken same;
}

-- ---- a generation
abbrev roles_of : List (Option Edge) → ℕ → List RoleOrder → Roles
roles_of edges gener orders = record { edges = edges; gener = gener; orders = orders }

-- where no edge differs, the roles stay
stays : (c : Core) (r : Roles) → are_same_edges r.edges (edges_now c r) ≡ true → after_roles c r ≡ r
unfolding after_roles
stays c r same =
    ap (λ (b : Bool). cond (not b) (roles_of (edges_now c r) (r.gener + 1)
    (reverse (cond (not b) (orders_of (r.gener + 1) r.edges (edges_now c r)) []) ++ r.orders)) r) same

-- where an edge differs, a generation begins
goes : (c : Core) (r : Roles) → are_same_edges r.edges (edges_now c r) ≡ false
    → after_roles c r ≡ roles_of (edges_now c r) (r.gener + 1)
    (reverse (orders_of (r.gener + 1) r.edges (edges_now c r)) ++ r.orders)
unfolding after_roles
goes c r differ =
    ap (λ (b : Bool). cond (not b) (roles_of (edges_now c r) (r.gener + 1)
    (reverse (cond (not b) (orders_of (r.gener + 1) r.edges (edges_now c r)) []) ++ r.orders)) r) differ

orders_if : (b : Bool) (c : Core) (r : Roles) → are_same_edges r.edges (edges_now c r) ≡ b
    → orders_now c r ≡ cond (not b) (orders_of (r.gener + 1) r.edges (edges_now c r)) []
orders_if b c r is = ap (λ (b : Bool). cond (not b) (orders_of (r.gener + 1) r.edges (edges_now c r)) []) is

-- the edges are those that the history gives
pub edges-same : (c : Core) (r : Roles) (n : ℕ) (old : List (Option Edge)) (parent : PortId) (states : List PortState)
    (clocks : List ℕ) → length old ≡ n
    → old ≡ r.edges → parent ≡ c.master.parent → states ≡ states_of c.ports → clocks ≡ clocks_of c.ports
    → edges_of n parent states clocks ≡ edges_now c r
edges-same c r n old parent states clocks long edges parents state clock =
    ap (λ (k : ℕ). edges_of k parent states clocks) (sym long ∙ ap length edges)
    ∙ ap (λ (p : PortId). edges_of (length r.edges) p states clocks) parents
    ∙ ap (λ (s : List PortState). edges_of (length r.edges) c.master.parent s clocks) state
    ∙ ap (λ (m : List ℕ). edges_of (length r.edges) c.master.parent (states_of c.ports) m) clock

length-now : (c : Core) (r : Roles) → length (edges_now c r) ≡ length r.edges
length-now c r =
    length-map-range_with_len (λ clock. edge_by c.master.parent (port_on clock (states_of c.ports) (clocks_of c.ports))
    (slave_clock (states_of c.ports) (clocks_of c.ports)))
    0 (length r.edges)

-- what is kept in the next generation
begins : (c : Core) (r : Roles) (v : RolesView) (news : List (Option Edge)) (orders : List RoleOrder) → RolesRepresent v r
    → news ≡ edges_now c r
    → orders_to v news ≡ orders
    → RolesRepresent (after_generation v news) (roles_of (edges_now c r) (r.gener + 1) (reverse orders ++ r.orders))
begins c r v news orders h is same = record {
  gener = ap (λ (g : ℕ). g + 1) h.gener;
  edges = is;
  stamps = ap (λ (os : List RoleOrder). with_stamps v.stamps os) same
      ∙ ap (λ (stamps : List Stamp). with_stamps stamps orders) h.stamps
      ∙ stamps-after (length r.edges) orders r.orders
      ∙ ap (λ (n : ℕ). stamps_of n (reverse orders ++ r.orders)) (sym (length-now c r));
  lawful = subst (AreLawful (reverse orders ++ r.orders))
      (ap (with_orders v.seats.logs) (sym same) ∙ sym (logs-given v.seats (orders_to v news)))
      (lawful-after orders r.orders v.seats.logs h.lawful);
}

advanced_if : (b : Bool) (c : Core) (r : Roles) (v : RolesView) (news : List (Option Edge)) → RolesRepresent v r
    → news ≡ edges_now c r
    → are_same_edges v.generation.edges news ≡ b → AdvanceYields c r (cond b v (after_generation v news)) (cond b [] (orders_to v news))
advanced_if true c r v news h is same =
    let equal : are_same_edges r.edges (edges_now c r) ≡ true =
    ap (λ (es : List (Option Edge)). are_same_edges r.edges es) (sym is)
    ∙ ap (λ (es : List (Option Edge)). are_same_edges es news) (sym h.edges) ∙ same in
    record { roles = subst (RolesRepresent v) (sym (stays c r equal)) h; orders_are = sym (orders_if true c r equal) }
advanced_if false c r v news h is differ =
    let other : are_same_edges r.edges (edges_now c r) ≡ false =
    ap (λ (es : List (Option Edge)). are_same_edges r.edges es) (sym is)
    ∙ ap (λ (es : List (Option Edge)). are_same_edges es news) (sym h.edges) ∙ differ in
    let same : orders_to v news ≡ orders_of (r.gener + 1) r.edges (edges_now c r) =
    ap (λ (g : ℕ). orders_of (g + 1) v.generation.edges news) h.gener
    ∙ ap (λ (es : List (Option Edge)). orders_of (r.gener + 1) es news) h.edges
    ∙ ap (λ (es : List (Option Edge)). orders_of (r.gener + 1) r.edges es) is in
    record {
      roles = subst (RolesRepresent (after_generation v news)) (sym (goes c r other))
          (begins c r v news (orders_of (r.gener + 1) r.edges (edges_now c r)) h is same);
      orders_are = same ∙ sym (orders_if false c r other);
    }

-- the history's roles go on likewise
pub GoesOn-advanced : (c : Core) (r : Roles) (v new : RolesView) (news : List (Option Edge)) (told : List RoleOrder)
    → GenerationYields v news new told → RolesRepresent v r
    → news ≡ edges_now c r → AdvanceYields c r new told
GoesOn-advanced c r v new news told g h is =
    let b : Bool = are_same_edges v.generation.edges news in
    subst (λ (w : RolesView). AdvanceYields c r w told) (sym g.new_is)
    (subst (λ (os : List RoleOrder). AdvanceYields c r (cond b v (after_generation v news)) os) (sym g.told_is)
    (advanced_if b c r v news h is refl))

-- ---- the opening
lawful-opened : (clocks : List ClockState) (i clock : ℕ) (log : List LogEntry) → slice_get (no_logs clocks) i ≡ Some log
    → IsLawful clock [] log
lawful-opened [] i clock log is = absurd (cc)
lawful-opened (first ∷ clocks) zero clock log is =
    let none : [] ≡ log = cc in subst (IsLawful clock []) none (IsLawful-opened clock)
lawful-opened (first ∷ clocks) (suc i) clock log is = lawful-opened clocks i clock log is

stamps-none : (a n : ℕ) → replicate n no_stamp ≡ map (λ clock. stamp_of clock []) (range_with_len a n)
stamps-none a zero = refl
stamps-none a (suc n) = ap (λ (stamps : List Stamp). no_stamp ∷ stamps) (stamps-none (a + 1) n)

opened-clocks : (rows : ℕ) (s : Scenario) → RolesRepresent (no_roles rows s.clocks) (opening s).roles
opened-clocks rows s = record {
  gener = refl;
  edges = refl;
  stamps = stamps-none 0 (length s.clocks)
      ∙ ap (λ (n : ℕ). stamps_of n []) (sym (length-replicate {A = Option Edge} (length s.clocks) None));
  lawful = λ clock log is. lawful-opened s.clocks clock clock log is;
}

-- before the first entry what is kept stands for the roles of the opening
pub RolesRepresent-opening : (v : RolesView) (rows : ℕ) (clocks : List ClockState) (s : Scenario)
    → v ≡ no_roles rows clocks → clocks ≡ s.clocks
    → RolesRepresent v (opening s).roles
RolesRepresent-opening v rows clocks s is same =
    subst (λ (w : RolesView). RolesRepresent w (opening s).roles) (sym (is ∙ ap (no_roles rows) same)) (opened-clocks rows s)
