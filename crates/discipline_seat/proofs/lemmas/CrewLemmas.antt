-- A crew of ports and followers who have the clocks in turn.
use Rattle.std.proofs.Common.{Bool, ◌-◌, ◌*◌, drop, length-append, ◌≡◌, ◌≢◌, ℕ, zero, suc, ◌+◌, ◌<◌, ◌≤◌, inl, inr, ⊎_elim, List, [], ◌∷◌, ◌++◌, length, map, set, get_or, slice_index, refl, sym, ap, ◌∙◌, subst, arith}
use Rattle.std.specs.Prelude.{All}
use Rattle.std.proofs.lemmas.Bool.{cases_lt, le-ltb, lt-ltb}
use Rattle.std.proofs.lemmas.List.Elements.{All-append, All-cons, All-nil}
use Rattle.atomic_table.specs.Seated.{TableId}
use Rattle.model_clock.specs.declared.state.ClockState.{ClockState}
use Rattle.discipline_seat.specs.SeatValue.{Belongs, SeatValue}
use Rattle.discipline_seat.specs.declared.view.Owner.{Owner}
use Rattle.discipline_seat.specs.declared.view.Owner.TheVariants.{Follower, Hub, Port}
use native.Mathlib.Decide.{ℕ_discrete}
use mathlib.Core.Logic.{dite}
use Rattle.ptp_profile.specs.Roles.Forest.{IsForest}
use Rattle.ptp_profile.specs.Roles.SeatLogs.{HasOrder, IsController, MayFollow, order_count, stamp_after}
use Rattle.ptp_profile.specs.declared.roles.Stamp.{Stamp}
use Rattle.ptp_profile.specs.declared.seats.LogEntry.TheVariants.{Order}
use Rattle.discipline_seat.specs.declared.view.View.{View}
use Rattle.discipline_seat.specs.CrewOrders.{IsCrewHub, IsOneCopy, IsStar, crew_ctrl}
use Rattle.discipline_seat.specs.SeatCalls.{AreNewPasses, EntryAdded, HasSameOrders, IsNewHub, IsNewPass, LeavesOthers}
use Rattle.discipline_seat.specs.Rule.SeatLog.{Extends, HasNoneBy, SeatLog, ctrl_after, gener_after, one_owner, owner_named, pass_owner}
use Rattle.discipline_seat.specs.Rule.SeatView.{ctrls_with, seen_log}
use Rattle.discipline_seat.proofs.lemmas.HeldOrderLemmas.{first_has, still_has}
use Rattle.discipline_seat.proofs.lemmas.LogWordLemmas.{no_orders}

-- ---- who has a clock in a generation

-- clock 0 alone copies, or does not
low_copy : (c n : ℕ) → n < 128 → IsOneCopy c n
low_copy c n lt = record {
  below = omega (arith, lt);
  other = λ e. omega (arith, e, lt);
  low = λ o. lt;
}

-- nobody copies, or others copy clock 0
low_star : (c n : ℕ) → n < 128 → IsStar c n
low_star c n lt = record { below = omega (arith, lt); first = λ e. lt }

-- in the second generation the others are ports'
pub second_ctrl : (c : ℕ) → c ≢ 0 → crew_ctrl 2 c ≡ c + 16
second_ctrl zero o = absurd (o refl)
second_ctrl (suc c) o = omega arith

-- in the third the others copy clock 0
pub third_ctrl : (c : ℕ) → c ≢ 0 → crew_ctrl 3 c ≡ 128
third_ctrl zero o = absurd (o refl)
third_ctrl (suc c) o = refl

-- whom an order may name
pub crew_controller : (g c : ℕ) → c < 16 → IsController 16 (crew_ctrl g c)
crew_controller zero c few = inl (omega arith)
crew_controller (suc zero) c few = inl (omega (arith, few))
crew_controller (suc (suc zero)) zero few = inr (omega arith, omega arith)
crew_controller (suc (suc zero)) (suc c) few = inl (omega (arith, few))
crew_controller (suc (suc (suc g))) zero few = inl (omega arith)
crew_controller (suc (suc (suc g))) (suc c) few = inr (omega arith, omega arith)

copy_ctrl : (g c : ℕ) → 1 ≤ g → c < 16 → 16 * g + (c + 1) ≤ 48 → IsOneCopy c (crew_ctrl g c)
copy_ctrl zero c some few le = absurd (omega (arith, some))
copy_ctrl (suc zero) c some few le = low_copy c (c + 1) (omega (arith, few))
copy_ctrl (suc (suc zero)) zero some few le = record {
  below = omega arith;
  other = λ e. omega (arith, e);
  low = λ o. absurd (o refl);
}
copy_ctrl (suc (suc zero)) (suc c) some few le = low_copy (suc c) (c + 17) (omega (arith, few))
copy_ctrl (suc (suc (suc g))) c some few le = absurd (omega (arith, le))

star_ctrl : (g c : ℕ) → c < 16 → 48 < 16 * g + (c + 1) → IsStar c (crew_ctrl g c)
star_ctrl zero c few lt = absurd (omega (arith, few, lt))
star_ctrl (suc zero) c few lt = absurd (omega (arith, few, lt))
star_ctrl (suc (suc zero)) c few lt = absurd (omega (arith, few, lt))
star_ctrl (suc (suc (suc g))) zero few lt = low_star 0 32 (omega arith)
star_ctrl (suc (suc (suc g))) (suc c) few lt = record {
  below = omega arith;
  first = λ e. absurd (omega (arith, e));
}

-- ---- whose turn the passes have

port_named : (c k m : ℕ) → k < 128 → m < 32 → k ≡ suc m → owner_named c k ≡ pass_owner 32 m
port_named c k m low few is =
    ap (λ (t : Bool). one_owner t (Port k) (Follower c)) (lt-ltb k 128 low)
    ∙ ap Port is
    ∙ sym (ap (λ (t : Bool). one_owner t (Port (suc m)) (Follower (m - 32))) (lt-ltb m 32 few))

follower_named : (c k m : ℕ) → 128 ≤ k → 32 ≤ m → c ≡ m - 32 → owner_named c k ≡ pass_owner 32 m
follower_named c k m high many is =
    ap (λ (t : Bool). one_owner t (Port k) (Follower c)) (le-ltb k 128 high)
    ∙ ap Follower is
    ∙ sym (ap (λ (t : Bool). one_owner t (Port (suc m)) (Follower (m - 32))) (le-ltb m 32 many))

-- the passes of ports 1 to 16
pub first_named : (m : ℕ) → m < 16 → owner_named m (crew_ctrl 1 m) ≡ pass_owner 32 m
first_named m few = port_named m (m + 1) m (omega (arith, few)) (omega (arith, few)) (omega arith)

-- those of ports 17 to 31
pub second_named : (m : ℕ) → 16 ≤ m → m < 31 → owner_named (m - 15) (crew_ctrl 2 (m - 15)) ≡ pass_owner 32 m
second_named m many few =
    let is = second_ctrl (m - 15) (λ e. omega (arith, e, many)) in
    port_named (m - 15) (crew_ctrl 2 (m - 15)) m (omega (arith, is, few)) (omega (arith, few)) (omega (arith, is, many))

-- those of the followers of other clocks than clock 0
pub third_named : (m : ℕ) → 32 < m → owner_named (m - 32) (crew_ctrl 3 (m - 32)) ≡ pass_owner 32 m
third_named m many =
    let is = third_ctrl (m - 32) (λ e. omega (arith, e, many)) in
    follower_named (m - 32) (crew_ctrl 3 (m - 32)) m (omega (arith, is)) (omega (arith, many)) refl

-- ---- forests

-- where none but clock 0 copies, and not itself, none comes back
one_copy : (ctrls : List ℕ) → ((c : ℕ) → IsOneCopy c (slice_index ctrls c)) → IsForest ctrls
one_copy ctrls each c [] is contains = let lt = contains.1 in omega (arith, lt)
one_copy ctrls each (suc c) (d ∷ walk) is contains = let lt = (each (suc c)).low (λ e. omega (arith, e)) in let at = is.0 in omega (arith, lt, at)
one_copy ctrls each zero (zero ∷ walk) is contains = absurd ((each 0).other is.0)
one_copy ctrls each zero (suc d ∷ e ∷ walk) is contains = let lt = (each (suc d)).low (λ z. omega (arith, z)) in let at = is.1.0 in omega (arith, lt, at)
one_copy ctrls each zero (suc d ∷ []) is (zero, lt, at) = absurd (omega (arith, at))
one_copy ctrls each zero (suc d ∷ []) is (suc i, lt, at) = omega (arith, lt)

-- where all that copy copy clock 0, which copies nobody, none comes back
star_forest : (ctrls : List ℕ) → ((c : ℕ) → IsStar c (slice_index ctrls c)) → IsForest ctrls
star_forest ctrls each c [] is contains = let lt = contains.1 in omega (arith, lt)
star_forest ctrls each zero (d ∷ walk) is contains = let lt = (each 0).first refl in let at = is.0 in omega (arith, lt, at)
star_forest ctrls each (suc c) (zero ∷ []) is (zero, lt, at) = absurd (omega (arith, at))
star_forest ctrls each (suc c) (zero ∷ []) is (suc i, lt, at) = omega (arith, lt)
star_forest ctrls each (suc c) (zero ∷ e ∷ walk) is contains = let lt = (each 0).first refl in let at = is.1.0 in omega (arith, lt, at)
star_forest ctrls each (suc c) (suc d ∷ walk) is contains = let le = (each (suc c)).below in let at = is.0 in omega (arith, le, at)

ctrl_is : (logs : List SeatLog) (d : ℕ) → slice_index (map ctrl_after logs) d ≡ ctrl_after (get_or logs d [])
ctrl_is [] d = refl
ctrl_is (l ∷ ls) zero = refl
ctrl_is (l ∷ ls) (suc d) = ctrl_is ls d

-- what holds of all controllers once one is another
all_with : (P : ℕ → ℕ → Type 0) (logs : List SeatLog) (c k : ℕ) → ((d : ℕ) → P d 0) → P c k → ((d : ℕ) → d ≢ c → P d (ctrl_after (get_or logs d []))) → (d : ℕ) → P d (slice_index (set (map ctrl_after logs) c k) d)
all_with P [] c k none here there d = none d
all_with P (l ∷ ls) zero k none here there zero = here
all_with P (l ∷ ls) zero k none here there (suc d) = subst (P (suc d)) (sym (ctrl_is ls d)) (there (suc d) (λ e. omega (arith, e)))
all_with P (l ∷ ls) (suc c) k none here there zero = there 0 (λ e. omega (arith, e))
all_with P (l ∷ ls) (suc c) k none here there (suc d) = all_with (λ (e n : ℕ). P (suc e) n) ls c k (λ e. none (suc e)) here (λ e o. there (suc e) (λ same. o (omega (arith, same)))) d

copy_with : (v : View) (c k : ℕ) → IsOneCopy c k → ((d : ℕ) → d ≢ c → IsOneCopy d (ctrl_after (seen_log v d))) → IsForest (ctrls_with v c k)
copy_with v c k here there = one_copy (ctrls_with v c k) (all_with IsOneCopy v.seen c k (λ d. low_copy d 0 (omega arith)) here there)

star_with : (v : View) (c k : ℕ) → IsStar c k → ((d : ℕ) → d ≢ c → IsStar d (ctrl_after (seen_log v d))) → IsForest (ctrls_with v c k)
star_with v c k here there = star_forest (ctrls_with v c k) (all_with IsStar v.seen c k (λ d. low_star d 0 (omega arith)) here there)

-- ---- orders

-- what an order leaves
pub record Ordered (v w : View) (c g k : ℕ) : Type 0 where
  pub owner : w.owner ≡ v.owner
  pub others : (d : ℕ) → d ≢ c → seen_log w d ≡ seen_log v d
  pub gener : gener_after (seen_log w c) ≡ g
  pub ctrl : ctrl_after (seen_log w c) ≡ k
  pub count : order_count (seen_log w c) ≡ suc (order_count (seen_log v c))
  pub more : Extends (seen_log v c) (seen_log w c)
  pub has : HasOrder (seen_log w c) g k

pub ordered_by : (v w : View) (c g k n : ℕ) → v.owner ≡ Hub → LeavesOthers v c w → EntryAdded v c (Order g k) n w → Ordered v w c g k
ordered_by v w c g k n hub same added =
    let none = no_orders c added.grew.newer (seen_log v c) (subst (λ (o : Owner). HasNoneBy c o added.grew.newer) hub added.grew.none_mine) in
    let count : order_count added.log ≡ order_count (seen_log v c) = ap order_count added.grew.is ∙ none.2 in
    let now : order_count (seen_log w c) ≡ suc (order_count added.log) = ap order_count added.is in
    record {
      owner = same.owner;
      others = same.others;
      gener = ap gener_after added.is;
      ctrl = ap ctrl_after added.is;
      count = omega (arith, count, now);
      more = record { newer = Order g k ∷ added.grew.newer; is = added.is ∙ ap (λ (l : SeatLog). Order g k ∷ l) added.grew.is };
      has = subst (λ (l : SeatLog). HasOrder l g k) (sym added.is) (first_has g k added.log);
    }

-- nothing was ordered of a new hub's seat
pub crew_new : (ports made : ℕ) (v : View) → IsNewHub ports v made → IsCrewHub v 1 0
crew_new ports made v is =
    let gener : (c : ℕ) → gener_after (seen_log v c) ≡ 0 = λ c. ap gener_after (is.nothing c) in
    let ctrl : (c : ℕ) → ctrl_after (seen_log v c) ≡ 0 = λ c. ap ctrl_after (is.nothing c) in
    let count : (c : ℕ) → order_count (seen_log v c) ≡ 0 = λ c. ap order_count (is.nothing c) in
    record {
      owner = is.owner;
      given = λ g c some lt few. absurd (omega (arith, some, lt));
      now = λ c lt. absurd (omega (arith, lt));
      upto = λ c. let e = gener c in omega (arith, e);
      behind = λ c le. let e = gener c in omega (arith, e);
      few = λ c. let e = count c in omega (arith, e);
      fewer = λ c le. let e = count c in omega (arith, e);
      copy = λ le c. low_copy c (ctrl_after (seen_log v c)) (let e = ctrl c in omega (arith, e));
      star = λ lt c. absurd (omega (arith, lt));
    }

-- the order that takes a clock back
pub back_forest : (v : View) (g c : ℕ) → IsCrewHub v g c → IsForest (ctrls_with v c 0)
back_forest v g c is = ⊎_elim
    (λ lt. star_with v c 0 (low_star c 0 (omega arith)) (λ d o. is.star lt d))
    (λ le. copy_with v c 0 (low_copy c 0 (omega arith)) (λ d o. is.copy le d))
    (cases_lt 48 (16 * g + c))

pub back_follows : (v : View) (g c : ℕ) → IsCrewHub v g c → MayFollow (stamp_after (seen_log v c)) g
back_follows v g c is = let lt : gener_after (seen_log v c) < g = is.behind c (omega arith) in (omega (arith, lt), λ busy. lt)

-- the order that gives it, of a hub's seat that took it back
others_star : (v : View) (g c : ℕ) → g ≤ 3 → c < 16 → 48 < 16 * g + (c + 1) → IsCrewHub v g c → (d : ℕ) → d ≢ c → IsStar d (ctrl_after (seen_log v d))
others_star v g c last few many is d o = ⊎_elim
    (λ lt. is.star lt d)
    (λ le. low_star d (ctrl_after (seen_log v d)) ((is.copy le d).low (λ z. o (omega (arith, last, few, many, le, z)))))
    (cases_lt 48 (16 * g + c))

pub on_forest : (v u : View) (g c : ℕ) → 1 ≤ g → g ≤ 3 → c < 16 → IsCrewHub v g c → Ordered v u c g 0 → IsForest (ctrls_with u c (crew_ctrl g c))
on_forest v u g c some last few is back = ⊎_elim
    (λ lt. star_with u c (crew_ctrl g c) (star_ctrl g c few lt) (λ d o. subst (λ (l : SeatLog). IsStar d (ctrl_after l)) (sym (back.others d o)) (others_star v g c last few lt is d o)))
    (λ le. copy_with u c (crew_ctrl g c) (copy_ctrl g c some few le) (λ d o. subst (λ (l : SeatLog). IsOneCopy d (ctrl_after l)) (sym (back.others d o)) (is.copy (omega (arith, le)) d)))
    (cases_lt 48 (16 * g + (c + 1)))

pub on_follows : (v u : View) (g c : ℕ) → Ordered v u c g 0 → MayFollow (stamp_after (seen_log u c)) g
on_follows v u g c back = let e = back.gener in (omega (arith, e), λ busy. absurd (busy back.ctrl))

-- the clock was taken back and given
pub crew_ordered : (v u w : View) (g c : ℕ) → 1 ≤ g → g ≤ 3 → c < 16 → IsCrewHub v g c → Ordered v u c g 0 → Ordered u w c g (crew_ctrl g c) → IsCrewHub w g (c + 1)
crew_ordered v u w g c some last few is back on =
    let others : (d : ℕ) → d ≢ c → seen_log w d ≡ seen_log v d = λ d o. on.others d o ∙ back.others d o in
    let still : (d h k : ℕ) → HasOrder (seen_log v d) h k → HasOrder (seen_log w d) h k = λ d h k. dite (ℕ_discrete d c)
    (λ e. subst (λ (x : ℕ). HasOrder (seen_log v x) h k → HasOrder (seen_log w x) h k) (sym e)
    (λ has. still_has (seen_log u c) (seen_log w c) h k on.more (still_has (seen_log v c) (seen_log u c) h k back.more has)))
    (λ n has. subst (λ (l : SeatLog). HasOrder l h k) (sym (others d n)) has)
    in
    record {
      owner = on.owner ∙ back.owner ∙ is.owner;
      given = λ h d one lt there. still d h (crew_ctrl h d) (is.given h d one lt there);
      now = λ d lt. dite (ℕ_discrete d c)
          (λ e. subst (λ (x : ℕ). HasOrder (seen_log w x) g (crew_ctrl g x)) (sym e) on.has)
          (λ n. subst (λ (l : SeatLog). HasOrder l g (crew_ctrl g d)) (sym (others d n)) (is.now d (omega (arith, lt, n))));
      upto = λ d. dite (ℕ_discrete d c)
          (λ e. subst (λ (x : ℕ). gener_after (seen_log w x) ≤ g) (sym e) (let q = on.gener in omega (arith, q)))
          (λ n. subst (λ (l : SeatLog). gener_after l ≤ g) (sym (others d n)) (is.upto d));
      behind = λ d le. subst (λ (l : SeatLog). gener_after l < g) (sym (others d (λ e. omega (arith, e, le)))) (is.behind d (omega (arith, le)));
      few = λ d. dite (ℕ_discrete d c)
          (λ e. subst (λ (x : ℕ). order_count (seen_log w x) ≤ 2 * g) (sym e) (let a = on.count in let b = back.count in let f = is.fewer c (omega arith) in omega (arith, a, b, f)))
          (λ n. subst (λ (l : SeatLog). order_count l ≤ 2 * g) (sym (others d n)) (is.few d));
      fewer = λ d le. subst (λ (l : SeatLog). order_count l + 2 ≤ 2 * g) (sym (others d (λ e. omega (arith, e, le)))) (is.fewer d (omega (arith, le)));
      copy = λ le d. dite (ℕ_discrete d c)
          (λ e. subst (λ (x : ℕ). IsOneCopy x (ctrl_after (seen_log w x))) (sym e) (subst (IsOneCopy c) (sym on.ctrl) (copy_ctrl g c some few le)))
          (λ n. subst (λ (l : SeatLog). IsOneCopy d (ctrl_after l)) (sym (others d n)) (is.copy (omega (arith, le)) d));
      star = λ lt d. dite (ℕ_discrete d c)
          (λ e. subst (λ (x : ℕ). IsStar x (ctrl_after (seen_log w x))) (sym e) (subst (IsStar c) (sym on.ctrl) (star_ctrl g c few lt)))
          (λ n. subst (λ (l : SeatLog). IsStar d (ctrl_after l)) (sym (others d n)) (others_star v g c last few lt is d n));
    }

-- once all clocks were given, the next generation may begin
pub crew_next : (v : View) (g : ℕ) → IsCrewHub v g 16 → IsCrewHub v (g + 1) 0
crew_next v g is = record {
  owner = is.owner;
  given = λ h d some lt few. dite (ℕ_discrete h g)
      (λ e. subst (λ (x : ℕ). HasOrder (seen_log v d) x (crew_ctrl x d)) (sym e) (is.now d few))
      (λ n. is.given h d some (omega (arith, lt, n)) few);
  now = λ d lt. absurd (omega (arith, lt));
  upto = λ d. let a = is.upto d in omega (arith, a);
  behind = λ d le. let a = is.upto d in omega (arith, a);
  few = λ d. let a = is.few d in omega (arith, a);
  fewer = λ d le. let a = is.few d in omega (arith, a);
  copy = λ le. is.copy (omega (arith, le));
  star = λ lt. is.star (omega (arith, lt));
}

-- a meet leaves that
pub crew_met : (v w : View) (g n : ℕ) → w.owner ≡ v.owner → ((c : ℕ) → HasSameOrders (seen_log v c) (seen_log w c)) → ((c : ℕ) → Extends (seen_log v c) (seen_log w c)) → IsCrewHub v g n → IsCrewHub w g n
crew_met v w g n owner same more is = record {
  owner = owner ∙ is.owner;
  given = λ h c some lt few. still_has (seen_log v c) (seen_log w c) h (crew_ctrl h c) (more c) (is.given h c some lt few);
  now = λ c lt. still_has (seen_log v c) (seen_log w c) g (crew_ctrl g c) (more c) (is.now c lt);
  upto = λ c. subst (λ (s : Stamp). s.gener ≤ g) (sym (same c).stamp) (is.upto c);
  behind = λ c le. subst (λ (s : Stamp). s.gener < g) (sym (same c).stamp) (is.behind c le);
  few = λ c. subst (λ (k : ℕ). k ≤ 2 * g) (sym (same c).count) (is.few c);
  fewer = λ c le. subst (λ (k : ℕ). k + 2 ≤ 2 * g) (sym (same c).count) (is.fewer c le);
  copy = λ le c. subst (λ (s : Stamp). IsOneCopy c s.ctrl) (sym (same c).stamp) (is.copy le c);
  star = λ lt c. subst (λ (s : Stamp). IsStar c s.ctrl) (sym (same c).stamp) (is.star lt c);
}

-- ---- passes that are taken one after the other

drop_next : (xs : List SeatValue) (i : ℕ) (d : SeatValue) → i < length xs → drop i xs ≡ get_or xs i d ∷ drop (suc i) xs
drop_next [] i d lt = absurd (omega (arith, lt))
drop_next (x ∷ xs) zero d lt = refl
drop_next (x ∷ xs) (suc i) d lt = drop_next xs i d (omega (arith, lt))

-- the next of the new passes, and those that are then left
pub record NextPass (table : TableId) (os : List ClockState) (all : List SeatValue) (m : ℕ) (p : SeatValue) (rest : List SeatValue) : Type 0 where
  pub belongs : Belongs table os p
  pub owner : p.view.owner ≡ pass_owner 32 m
  pub left : rest ≡ drop (m + 1) all

pub next_pass : (table : TableId) (os : List ClockState) (all : List SeatValue) (m : ℕ) (now : List SeatValue) (p : SeatValue) (rest : List SeatValue) → AreNewPasses table os 32 all → m < length all → now ≡ drop m all → now ≡ p ∷ rest → NextPass table os all m p rest
next_pass table os all m now p rest new inside is first =
    let q : SeatValue = get_or all m p in
    let same : p ∷ rest ≡ q ∷ drop (suc m) all = sym first ∙ is ∙ drop_next all m p inside in
    let head : p ≡ q = cc (same) in
    let tail : rest ≡ drop (suc m) all = cc (same) in
    let its : IsNewPass table os 32 m p = subst (IsNewPass table os 32 m) (sym head) (new m p inside) in
    let next : suc m ≡ m + 1 = omega arith in
    record {
      belongs = its.belongs;
      owner = its.owner;
      left = tail ∙ ap (λ (n : ℕ). drop n all) next;
    }

-- none is left at the end
pub none_left : (n : ℕ) (xs : List SeatValue) → length xs ≤ n → drop n xs ≡ []
none_left zero [] le = refl
none_left zero (x ∷ xs) le = absurd (omega (arith, le))
none_left (suc n) [] le = refl
none_left (suc n) (x ∷ xs) le = none_left n xs (omega (arith, le))

-- ---- lists that lose or gain their last

front_of : {X : Type 0} (xs ys : List X) (i : ℕ) (d : X) → i < length xs → get_or (xs ++ ys) i d ≡ get_or xs i d
front_of [] ys i d lt = absurd (omega (arith, lt))
front_of (x ∷ xs) ys zero d lt = refl
front_of (x ∷ xs) ys (suc i) d lt = front_of xs ys i d (omega (arith, lt))

last_of : {X : Type 0} (xs : List X) (x d : X) → get_or (xs ++ x ∷ []) (length xs) d ≡ x
last_of [] x d = refl
last_of (y ∷ ys) x d = last_of ys x d

pub all_but_last : {X : Type 0} (all xs : List X) (x : X) (P : X → Type 0) → All P all → all ≡ xs ++ x ∷ [] → All P xs × P x
all_but_last all xs x P holds is =
    let here : All P (xs ++ x ∷ []) = subst (All P) is holds in
    let long = length-append xs (x ∷ []) in (
      (λ i d lt. subst P (front_of xs (x ∷ []) i d lt) (here i d (omega (arith, lt, long)))),
      subst P (last_of xs x x) (here (length xs) x (omega (arith, long))),
    )

pub all_and_last : {X : Type 0} (xs all : List X) (x : X) (P : X → Type 0) → All P xs → P x → all ≡ xs ++ x ∷ [] → All P all
all_and_last xs all x P holds one is = subst (All P) (sym is) (All-append P xs (x ∷ []) holds (All-cons P x [] one (All-nil P)))
