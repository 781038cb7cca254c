-- Controllers of which none copies another, and orders that a log still has.
use Rattle.std.proofs.Common.{◌≡◌, ◌≢◌, ℕ, zero, suc, ◌<◌, List, [], ◌∷◌, ◌++◌, map, set, get_or, slice_index, refl, sym, ap, ◌∙◌, subst, arith, Result, Ok, Err}
use Rattle.std.specs.Prelude.{ℤ}
use Rattle.ptp_profile.specs.Roles.Forest.{IsForest}
use Rattle.ptp_profile.specs.Roles.SeatLogs.{HasOrder}
use Rattle.ptp_profile.specs.declared.seats.LogEntry.TheVariants.{Order, Change}
use Rattle.ptp_profile.specs.declared.seats.Receipt.{Receipt}
use Rattle.ptp_profile.specs.declared.seats.Refused.{Refused}
use Rattle.ptp_profile.specs.declared.seats.Refused.TheVariants.{Superseded, Spent}
use Rattle.ptp_profile.specs.declared.roles.Stamp.{Stamp}
use Rattle.ptp_profile.specs.Roles.SeatLogs.{order_count, stamp_after}
use Rattle.discipline_seat.specs.HubOrders.{IsOrderedBy}
use Rattle.discipline_seat.specs.Rule.SeatLog.{HasNoneBy}
use Rattle.atomic_table.specs.Seated.{TableId}
use Rattle.model_clock.specs.declared.state.ClockState.{ClockState}
use Rattle.discipline_seat.specs.SeatValue.{SeatValue}
use Rattle.discipline_seat.specs.SeatCalls.{AreNewPasses, EntryAdded, HasSameOrders, IsNewHub, IsNewPass, LeavesOthers}
use Rattle.discipline_seat.specs.declared.view.Owner.{Owner}
use Rattle.discipline_seat.proofs.lemmas.LogWordLemmas.{no_orders}
use Rattle.discipline_seat.specs.declared.view.View.{View}
use Rattle.discipline_seat.specs.Rule.SeatLog.{SeatLog, ctrl_after, Extends}
use Rattle.discipline_seat.specs.Rule.SeatView.{seen_log, ctrls_with}
use Rattle.discipline_seat.specs.SeatCalls.{AdjustYields}

-- controllers below those of followers are a forest
pub low_forest : (ctrls : List ℕ) → ((c : ℕ) → slice_index ctrls c < 128) → IsForest ctrls
low_forest ctrls low c [] is contains = let lt = contains.1 in omega (arith, lt)
low_forest ctrls low c (d ∷ walk) is contains = let lt = low c in let at = is.0 in omega (arith, lt, at)

low_set : (logs : List SeatLog) (clock k : ℕ) → k < 128 → ((c : ℕ) → get_or logs c [] ≡ []) → (c : ℕ) → slice_index (set (map ctrl_after logs) clock k) c < 128
low_set [] clock k few none c = omega arith
low_set (l ∷ ls) zero k few none zero = few
low_set (l ∷ ls) zero k few none (suc c) = low_ctrls ls (λ d. none (suc d)) c
  where
    low_ctrls : (logs : List SeatLog) → ((c : ℕ) → get_or logs c [] ≡ []) → (c : ℕ) → slice_index (map ctrl_after logs) c < 128
    low_ctrls [] none c = omega arith
    low_ctrls (l ∷ ls) none zero = subst (λ (m : SeatLog). ctrl_after m < 128) (sym (none zero)) (omega arith)
    low_ctrls (l ∷ ls) none (suc c) = low_ctrls ls (λ d. none (suc d)) c
low_set (l ∷ ls) (suc clock) k few none zero = subst (λ (m : SeatLog). ctrl_after m < 128) (sym (none zero)) (omega arith)
low_set (l ∷ ls) (suc clock) k few none (suc c) = low_set ls clock k few (λ d. none (suc d)) c

pub first_forest : (v : View) (clock k : ℕ) → k < 128 → ((c : ℕ) → seen_log v c ≡ []) → IsForest (ctrls_with v clock k)
first_forest v clock k few none = low_forest (ctrls_with v clock k) (low_set v.seen clock k few none)

low_logs : (logs : List SeatLog) → ((c : ℕ) → get_or logs c [] ≡ []) → (c : ℕ) → slice_index (map ctrl_after logs) c < 128
low_logs [] none c = omega arith
low_logs (l ∷ ls) none zero = subst (λ (m : SeatLog). ctrl_after m < 128) (sym (none zero)) (omega arith)
low_logs (l ∷ ls) none (suc c) = low_logs ls (λ d. none (suc d)) c

low_but_0 : (logs : List SeatLog) (k : ℕ) → ((c : ℕ) → get_or logs c [] ≡ []) → (c : ℕ) → slice_index (set (map ctrl_after logs) 0 k) (suc c) < 128
low_but_0 [] k none c = omega arith
low_but_0 (l ∷ ls) k none c = low_logs ls (λ d. none (suc d)) c

-- a list of controllers of which only the first is a follower's, of another clock, is a forest
one_copy : (ctrls : List ℕ) → slice_index ctrls 0 < 130 → slice_index ctrls 0 ≢ 128 → ((c : ℕ) → slice_index ctrls (suc c) < 128) → IsForest ctrls
one_copy ctrls below other low c [] is contains = let lt = contains.1 in omega (arith, lt)
one_copy ctrls below other low (suc c) (d ∷ walk) is contains = let lt = low c in let at = is.0 in omega (arith, lt, at)
one_copy ctrls below other low zero (zero ∷ walk) is contains = absurd (other is.0)
one_copy ctrls below other low zero (suc d ∷ e ∷ walk) is contains = let lt = low d in let at = is.1.0 in omega (arith, lt, at)
one_copy ctrls below other low zero (suc d ∷ []) is (zero, lt, at) = absurd (omega (arith, at))
one_copy ctrls below other low zero (suc d ∷ []) is (suc i, lt, at) = omega (arith, lt)

-- the order of a follower, where nothing was ordered before
pub copy_forest : (v : View) → ((c : ℕ) → seen_log v c ≡ []) → IsForest (ctrls_with v 0 129)
copy_forest v none = one_copy (ctrls_with v 0 129) (first v.seen) (not_own v.seen) (low_but_0 v.seen 129 none)
  where
    first : (logs : List SeatLog) → slice_index (set (map ctrl_after logs) 0 129) 0 < 130
    first [] = omega arith
    first (l ∷ ls) = omega arith

    not_own : (logs : List SeatLog) → slice_index (set (map ctrl_after logs) 0 129) 0 ≢ 128
    not_own [] e = omega (arith, e)
    not_own (l ∷ ls) e = omega (arith, e)

-- a log that goes on from another has its orders
has_back : (newer old : SeatLog) (g k : ℕ) → HasOrder old g k → HasOrder (newer ++ old) g k
has_back [] old g k has = has
has_back (x ∷ xs) old g k has = let rest = has_back xs old g k has in (suc rest.0, (let lt = rest.1 in omega (arith, lt)), rest.2)

pub still_has : (old new : SeatLog) (g k : ℕ) → Extends old new → HasOrder old g k → HasOrder new g k
still_has old new g k e has = subst (λ (l : SeatLog). HasOrder l g k) (sym e.is) (has_back e.newer old g k has)

pub first_has : (g k : ℕ) (l : SeatLog) → HasOrder (Order g k ∷ l) g k
first_has g k l = (0, omega arith, refl)

-- what a view had seen is still seen after an adjustment
pub adjusted_extends : (v : View) (c g k t : ℕ) (s f : ℤ) (rows : ℕ) (r : Result Receipt Refused) (w : View) → AdjustYields v c g k t s f rows r w → Extends (seen_log v c) (seen_log w c)
adjusted_extends v c g k t s f rows (Ok n) w y = record { newer = Change g k t s f ∷ y.grew.newer; is = y.is ∙ ap (λ (l : SeatLog). Change g k t s f ∷ l) y.grew.is }
adjusted_extends v c g k t s f rows (Err (Superseded newer at)) w y = record { newer = y.3.newer; is = y.3.is }
adjusted_extends v c g k t s f rows (Err (Spent at)) w y = record { newer = y.4.newer; is = y.4.is }

low_set_0 : (logs : List SeatLog) (k : ℕ) → k < 128 → ((c : ℕ) → c ≢ 0 → ctrl_after (get_or logs c []) < 128) → (c : ℕ) → slice_index (set (map ctrl_after logs) 0 k) c < 128
low_set_0 [] k few low c = omega arith
low_set_0 (l ∷ ls) k few low zero = few
low_set_0 (l ∷ ls) k few low (suc c) = low_ctrls ls (λ d. low (suc d) (λ e. omega (arith, e))) c
  where
    low_ctrls : (logs : List SeatLog) → ((c : ℕ) → ctrl_after (get_or logs c []) < 128) → (c : ℕ) → slice_index (map ctrl_after logs) c < 128
    low_ctrls [] low c = omega arith
    low_ctrls (l ∷ ls) low zero = low zero
    low_ctrls (l ∷ ls) low (suc c) = low_ctrls ls (λ d. low (suc d)) c

-- another order of clock 0 leaves a forest
pub next_forest : (v : View) (g q n k : ℕ) → k < 128 → IsOrderedBy v g q n → IsForest (ctrls_with v 0 k)
next_forest v g q n k few is = low_forest (ctrls_with v 0 k) (low_set_0 v.seen k few is.others)

-- what the hub has then ordered
pub then_ordered : (v w : View) (g q n h k number : ℕ) → IsOrderedBy v g q n → LeavesOthers v 0 w → EntryAdded v 0 (Order h k) number w → IsOrderedBy w h k (suc n)
then_ordered v w g q n h k number is same added =
    let none = no_orders 0 added.grew.newer (seen_log v 0) (subst (λ (o : Owner). HasNoneBy 0 o added.grew.newer) is.owner added.grew.none_mine) in
    let count : order_count added.log ≡ order_count (seen_log v 0) = ap order_count added.grew.is ∙ none.2 in
    let now : order_count (seen_log w 0) ≡ suc (order_count added.log) = ap order_count added.is in
    let before = is.few in
    record {
      owner = same.owner ∙ is.owner;
      gener_is = ap (λ (l : SeatLog). (stamp_after l).gener) added.is;
      ctrl_is = ap (λ (l : SeatLog). (stamp_after l).ctrl) added.is;
      few = omega (arith, count, now, before);
      others = λ c n. subst (λ (l : SeatLog). ctrl_after l < 128) (sym (same.others c n)) (is.others c n);
    }

-- a meet leaves what the hub has ordered
pub met_ordered : (v w : View) (g q n : ℕ) → IsOrderedBy v g q n → w.owner ≡ v.owner → ((c : ℕ) → HasSameOrders (seen_log v c) (seen_log w c)) → IsOrderedBy w g q n
met_ordered v w g q n is owner same =
    let before = is.few in
    let count = (same 0).count in
    record {
      owner = owner ∙ is.owner;
      gener_is = ap (λ (s : Stamp). s.gener) (same 0).stamp ∙ is.gener_is;
      ctrl_is = ap (λ (s : Stamp). s.ctrl) (same 0).stamp ∙ is.ctrl_is;
      few = omega (arith, before, count);
      others = λ c o. let low = is.others c o in let e = ap (λ (s : Stamp). s.ctrl) (same c).stamp in omega (arith, low, e);
    }

-- a new hub's seat has ordered nothing
pub new_ordered : (ports made : ℕ) (v : View) → IsNewHub ports v made → IsOrderedBy v 0 0 0
new_ordered ports made v is = record {
  owner = is.owner;
  gener_is = ap (λ (l : SeatLog). (stamp_after l).gener) (is.nothing 0);
  ctrl_is = ap (λ (l : SeatLog). (stamp_after l).ctrl) (is.nothing 0);
  few = let e = ap order_count (is.nothing 0) in omega (arith, e);
  others = λ c n. subst (λ (l : SeatLog). ctrl_after l < 128) (sym (is.nothing c)) (omega arith);
}

-- the second of the new passes
pub second_new : (table : TableId) (os : List ClockState) (ports : ℕ) (all one two : List SeatValue) (p q : SeatValue) → AreNewPasses table os ports all → all ≡ p ∷ one → one ≡ q ∷ two → IsNewPass table os ports 1 q
second_new table os ports all one two p q new first next = subst (AreNewPasses table os ports) (first ∙ ap (λ (l : List SeatValue). p ∷ l) next) new 1 q (omega arith)
