-- What ties the seats to the stamps: it begins, leads to what the seats need of an order, and stays.
use Rattle.std.proofs.Common.{◌≡◌, ◌≢◌, ℕ, ◌+◌, ◌-◌, ◌*◌, ◌<◌, ◌≤◌, refl, sym, ap, ◌∙◌, subst, ℤ, List, [], ◌∷◌, length, map, set, replicate, inl, inr, arith}
use Rattle.std.specs.Prelude.{All, Result, Ok, Err, OnOk, OnErr}
use Rattle.std.proofs.Math.ListN.{get_or-map}
use Rattle.std.proofs.lemmas.Bool.{cases_eq}
use Rattle.std.proofs.Math.Seq.{map-set_same}
use Rattle.std.proofs.lemmas.List.{map-set, length-map}
use Rattle.std.proofs.lemmas.List.Elements.{All-nil, All-cons, All-set}
use Rattle.std.proofs.lemmas.Simd.{map-map}
use Rattle.model_clock.specs.declared.state.ClockState.{ClockState}
use Rattle.ptp_base.specs.declared.limits.TheConstants.{ENTRIES_MAX, ORDERS_MAX}
use Rattle.ptp_profile.specs.declared.roles.RoleOrder.{RoleOrder}
use Rattle.ptp_profile.specs.declared.roles.Stamp.{Stamp}
use Rattle.ptp_profile.specs.declared.seats.Held.{Held}
use Rattle.ptp_profile.specs.declared.seats.LogEntry.{LogEntry}
use Rattle.ptp_profile.specs.declared.seats.Receipt.{Receipt}
use Rattle.ptp_profile.specs.declared.seats.Refused.{Refused}
use Rattle.ptp_profile.specs.Roles.Forest.{IsForest}
use Rattle.ptp_profile.specs.Roles.SeatLogs.{change_of, no_logs, order_count, order_entry, stamp_after, HasOrder, IsController, MayFollow}
use Rattle.ptp_profile.specs.Roles.Edges.{no_stamp}
use Rattle.ptp_profile.proofs.lemmas.GrantLemmas.{stamp_was_ordered}
use Rattle.discipline_seat.specs.SeatsView.{ctrls_with, log_of, seats_at_opening, stamp_in, with_entry, Seats}
use Rattle.bc_roles.specs.OrderRules.{with_given, IsAllowed}
use Rattle.bc_roles.specs.RolesInvariant.{HasFewOrders, SeatsAgree}
use Rattle.bc_roles.specs.Stamps.{ctrls_in, held_at, stamp_at, with_stamp}

pub length-agreed : (stamps : List Stamp) (seats : Seats) → SeatsAgree stamps seats → length stamps ≡ length seats.logs
length-agreed stamps seats a = ap length a.stamps_are ∙ length-map seats.logs stamp_after

pub stamp-agreed : (stamps : List Stamp) (seats : Seats) (clock : ℕ) → SeatsAgree stamps seats
    → stamp_at stamps clock ≡ stamp_in seats clock
stamp-agreed stamps seats clock a =
    ap (λ (ss : List Stamp). stamp_at ss clock) a.stamps_are ∙ get_or-map stamp_after seats.logs clock []

ctrls-agreed : (stamps : List Stamp) (seats : Seats) → SeatsAgree stamps seats
    → ctrls_in stamps ≡ map (λ (log : List LogEntry). (stamp_after log).ctrl) seats.logs
ctrls-agreed stamps seats a = ap ctrls_in a.stamps_are ∙ map-map (λ (stamp : Stamp). stamp.ctrl) stamp_after seats.logs

few-agreed : (stamps : List Stamp) (seats : Seats) (clock : ℕ) → SeatsAgree stamps seats → clock < length stamps
    → HasFewOrders (log_of seats clock)
few-agreed stamps seats clock a there = let long = length-agreed stamps seats a in a.orders clock [] (omega arith)

-- ---- an order
-- what seats need of an order
pub record SeatsTake (seats : Seats) (order : RoleOrder) : Type 0 where
  pub there : order.clock < length seats.logs
  pub ctrl : IsController (length seats.logs) order.ctrl
  pub follows : MayFollow (stamp_in seats order.clock) order.gener
  pub forest : IsForest (ctrls_with seats order.clock order.ctrl)
  pub few : order_count (log_of seats order.clock) < ORDERS_MAX

-- a clock has at most two orders for each generation up to the order's
few-taken : (stamp : Stamp) (count : ℕ) (order : RoleOrder) → count ≤ 2 * stamp.gener
    → (stamp.ctrl ≡ 0 → count ≤ 2 * stamp.gener - 1)
    → MayFollow stamp order.gener → 1 ≤ order.gener → order.gener ≤ ENTRIES_MAX → count + 1 ≤ 2 * order.gener
few-taken stamp count order most free follows first last =
    let after : stamp.gener ≤ order.gener = follows.0 in
    elim (cases_eq stamp.ctrl 0) [
      | inl none ↦ let less : count ≤ 2 * stamp.gener - 1 = free none in omega arith
      | inr some ↦ let newer : stamp.gener < order.gener = follows.1 some in omega arith
    ]

pub seats-take : (stamps : List Stamp) (seats : Seats) (order : RoleOrder) → SeatsAgree stamps seats
    → IsAllowed stamps order → SeatsTake seats order
seats-take stamps seats order a allowed =
    let long : length stamps ≡ length seats.logs = length-agreed stamps seats a in
    let there : order.clock < length stamps = allowed.there in
    let follows : MayFollow (stamp_in seats order.clock) order.gener =
    subst (λ (stamp : Stamp). MayFollow stamp order.gener) (stamp-agreed stamps seats order.clock a) allowed.follows in
    let few : HasFewOrders (log_of seats order.clock) = few-agreed stamps seats order.clock a there in
    let more : order_count (log_of seats order.clock) + 1 ≤ 2 * order.gener =
    few-taken (stamp_in seats order.clock) (order_count (log_of seats order.clock)) order few.most few.free
    follows allowed.first allowed.gener in
    let last : order.gener ≤ ENTRIES_MAX = allowed.gener in
    record {
      there = omega arith;
      ctrl = subst (λ (n : ℕ). IsController n order.ctrl) long allowed.ctrl;
      follows = follows;
      forest = subst (λ (ctrls : List ℕ). IsForest (set ctrls order.clock order.ctrl))
          (ctrls-agreed stamps seats a) allowed.forest;
      few = omega arith;
    }

few-ordered : (log : List LogEntry) (order : RoleOrder) → HasFewOrders log → MayFollow (stamp_after log) order.gener
    → 1 ≤ order.gener
    → order.gener ≤ ENTRIES_MAX → (order.ctrl ≡ 0 → (stamp_after log).gener < order.gener)
    → HasFewOrders (order_entry order ∷ log)
few-ordered log order few follows first last free =
    let most : order_count log ≤ 2 * (stamp_after log).gener = few.most in
    let more : order_count log + 1 ≤ 2 * order.gener =
    few-taken (stamp_after log) (order_count log) order few.most few.free follows first last in
    record { most = omega arith; free = λ none. let newer : (stamp_after log).gener < order.gener = free none in omega arith }

pub SeatsAgree-given : (stamps : List Stamp) (seats : Seats) (order : RoleOrder) → SeatsAgree stamps seats
    → IsAllowed stamps order
    → SeatsAgree (with_stamp stamps order) (with_given seats order)
SeatsAgree-given stamps seats order a allowed =
    let same : stamp_at stamps order.clock ≡ stamp_in seats order.clock = stamp-agreed stamps seats order.clock a in
    record {
      stamps_are = ap (λ (ss : List Stamp). with_stamp ss order) a.stamps_are
          ∙ sym (map-set stamp_after seats.logs order.clock (order_entry order ∷ log_of seats order.clock));
      orders = All-set HasFewOrders seats.logs order.clock (order_entry order ∷ log_of seats order.clock)
          (few-ordered (log_of seats order.clock) order (few-agreed stamps seats order.clock a allowed.there)
          (subst (λ (stamp : Stamp). MayFollow stamp order.gener) same allowed.follows) allowed.first allowed.gener
          (subst (λ (stamp : Stamp). order.ctrl ≡ 0 → stamp.gener < order.gener) same allowed.free))
          a.orders;
    }

-- ---- a change
SeatsAgree-changed : (stamps : List Stamp) (seats : Seats) (held : Held) (tick : ℕ) (step freq : ℤ) → SeatsAgree stamps seats
    → held.clock < length stamps → SeatsAgree stamps (with_entry seats held.clock (change_of held tick step freq))
SeatsAgree-changed stamps seats held tick step freq a there =
    let few : HasFewOrders (log_of seats held.clock) = few-agreed stamps seats held.clock a there in
    let log : List LogEntry = change_of held tick step freq ∷ log_of seats held.clock in
    record {
      stamps_are = a.stamps_are ∙ sym (map-set_same stamp_after seats.logs held.clock log [] refl);
      orders = All-set HasFewOrders seats.logs held.clock log (record { most = few.most; free = few.free }) a.orders;
    }

-- a change that was taken or refused
pub SeatsAgree-answered : (stamps : List Stamp) (seats new : Seats) (held : Held) (tick : ℕ) (step freq : ℤ)
    (answer : Result Receipt Refused)
    → SeatsAgree stamps seats → held.clock < length stamps
    → OnOk answer (new ≡ with_entry seats held.clock (change_of held tick step freq))
    → OnErr answer (new ≡ seats) → SeatsAgree stamps new
SeatsAgree-answered stamps seats new held tick step freq (Ok receipt) a there taken same =
    subst (SeatsAgree stamps) (sym taken) (SeatsAgree-changed stamps seats held tick step freq a there)
SeatsAgree-answered stamps seats new held tick step freq (Err refused) a there taken same =
    subst (SeatsAgree stamps) (sym same) a

-- ---- the opening
stamps-opened : (clocks : List ClockState) → replicate (length clocks) no_stamp ≡ map stamp_after (no_logs clocks)
stamps-opened [] = refl
stamps-opened (clock ∷ clocks) = ap (λ (stamps : List Stamp). no_stamp ∷ stamps) (stamps-opened clocks)

few-opened : (clocks : List ClockState) → All HasFewOrders (no_logs clocks)
few-opened [] = All-nil HasFewOrders
few-opened (clock ∷ clocks) =
    All-cons HasFewOrders [] (no_logs clocks) (record { most = omega arith; free = λ none. omega arith }) (few-opened clocks)

pub SeatsAgree-opened : (rows : ℕ) (clocks : List ClockState)
    → SeatsAgree (replicate (length clocks) no_stamp) (seats_at_opening rows clocks)
SeatsAgree-opened rows clocks = record { stamps_are = stamps-opened clocks; orders = few-opened clocks }

-- ---- who holds a clock
-- the stamp of a clock that somebody holds was ordered
pub held-ordered : (stamps : List Stamp) (seats : Seats) (clock : ℕ) → SeatsAgree stamps seats → (held_at stamps clock).ctrl ≢ 0
    → HasOrder (log_of seats clock) (held_at stamps clock).gener (held_at stamps clock).ctrl
held-ordered stamps seats clock a =
    subst (λ (stamp : Stamp). stamp.ctrl ≢ 0 → HasOrder (log_of seats clock) stamp.gener stamp.ctrl)
    (sym (stamp-agreed stamps seats clock a))
    (stamp_was_ordered (log_of seats clock))
