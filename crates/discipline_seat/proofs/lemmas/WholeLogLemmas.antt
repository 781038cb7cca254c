-- What the seats made is the whole logs.
use Rattle.std.proofs.Common.{Bool, true, false, ltb, max, ◌≡◌, ◌≢◌, ℕ, zero, suc, ◌+◌, ◌-◌, ◌<◌, ◌≤◌, inl, inr, ⊎_elim, List, [], ◌∷◌, ◌++◌, length, map, reverse, drop, get_or, set, refl, sym, ap, ◌∙◌, subst, arith}
use Rattle.std.proofs.Math.Nat.{le-max_left, le-max_right, max-le}
use Rattle.std.proofs.lemmas.List.{reverse-reverse}
use Rattle.model_clock.specs.declared.state.ClockState.{ClockState}
use Rattle.ptp_profile.specs.Roles.SeatLogs.{logs_from}
use Rattle.ptp_profile.specs.declared.seats.Log.{Log}
use Rattle.ptp_profile.specs.declared.seats.LogEntry.{LogEntry}
use Rattle.ptp_profile.specs.declared.seats.LogEntry.TheVariants.{Order, Change}
use Rattle.discipline_seat.specs.declared.view.Owner.TheVariants.{Hub, Port, Follower}
use Rattle.discipline_seat.specs.declared.view.View.{View}
use Rattle.discipline_seat.specs.SeatValue.{SeatValue}
use Rattle.discipline_seat.specs.Rule.SeatLog.{SeatLog, one_owner, owner_named}
use Rattle.discipline_seat.specs.Rule.SeatView.{seen_log}
use Rattle.discipline_seat.specs.Rule.Story.{AreEntriesOf, receipts_of}
use Rattle.discipline_seat.specs.SeatEntries.{most_of, placed}
use Rattle.discipline_seat.specs.WholeLogs.{made_of, orders_of}
use Rattle.discipline_seat.proofs.lemmas.PlacedEntryLemmas.{length-placed}
use Rattle.discipline_seat.proofs.lemmas.SeatInvariantLemmas.{log_as}

abbrev Entries : Type 0
Entries = List (ℕ × LogEntry)

-- ---- the hub's entries are the orders

owner_not_hub : (b : Bool) (k c : ℕ) → one_owner b (Port k) (Follower c) ≢ Hub
owner_not_hub true k c e = absurd (cc (e))
owner_not_hub false k c e = absurd (cc (e))

pub orders_are : (c : ℕ) (l : SeatLog) (es : Entries) → AreEntriesOf c Hub l es → es ≡ orders_of l
orders_are c [] es own = own
orders_are c (Order g k ∷ l) es own = ⊎_elim
    (λ (t : (Hub ≢ Hub) × AreEntriesOf c Hub l es). absurd (t.0 refl))
    (λ (t : (Hub ≡ Hub) × ((rest : Entries) × (es ≡ (suc (length l), Order g k) ∷ rest) × AreEntriesOf c Hub l rest)). let q = t.1 in q.1 ∙ ap (λ (fs : Entries). (suc (length l), Order g k) ∷ fs) (orders_are c l q.0 q.2))
    own
orders_are c (Change g k t s f ∷ l) es own = ⊎_elim
    (λ (t : (owner_named c k ≢ Hub) × AreEntriesOf c Hub l es). orders_are c l es t.1)
    (λ (t : (owner_named c k ≡ Hub) × ((rest : Entries) × (es ≡ (suc (length l), Change g k t s f) ∷ rest) × AreEntriesOf c Hub l rest)). absurd (owner_not_hub (ltb k 128) k c t.0))
    own

-- ---- the largest number

most_append : (n : ℕ) (es fs : Entries) → most_of (most_of n fs) es ≡ most_of n (es ++ fs)
most_append n [] fs = refl
most_append n (e ∷ es) fs = ap (max e.0) (most_append n es fs)

pub most_later : (n : ℕ) (es fs : Entries) → most_of n fs ≤ most_of n (es ++ fs)
most_later n [] fs = omega arith
most_later n (e ∷ es) fs = let h = most_later n es fs in let r = le-max_right e.0 (most_of n (es ++ fs)) in omega arith

most_first : (n : ℕ) (es fs : Entries) → most_of n es ≤ most_of n (es ++ fs)
most_first n [] fs = least n fs
  where
    least : (n : ℕ) (fs : Entries) → n ≤ most_of n fs
    least n [] = omega arith
    least n (e ∷ es) = let h = least n es in let r = le-max_right e.0 (most_of n es) in omega arith
most_first n (e ∷ es) fs = max_on e.0 (most_of n es) (most_of n (es ++ fs)) (most_first n es fs)
  where
    max_on : (a b c : ℕ) → b ≤ c → max a b ≤ max a c
    max_on a b c le = let h = le-max_left a c in let k = le-max_right a c in max-le h (omega arith)

drop_next : (xs : List SeatValue) (i : ℕ) (d : SeatValue) → i < length xs → drop i xs ≡ get_or xs i d ∷ drop (suc i) xs
drop_next [] i d lt = absurd (omega arith)
drop_next (x ∷ xs) zero d lt = refl
drop_next (x ∷ xs) (suc i) d lt = drop_next xs i d (omega arith)

-- the pass before those that were looked at
pub most_with : (c : ℕ) (hub : View) (ps : List SeatValue) (left n : ℕ) (d : SeatValue) → 0 < left → left ≤ length ps → n ≡ most_of 0 (made_of c hub (drop left ps))
    → most_of n (receipts_of c (get_or ps (left - 1) d).view.stories.story) ≡ most_of 0 (made_of c hub (drop (left - 1) ps))
most_with c hub ps left n d pos le was =
    let at : suc (left - 1) ≡ left = omega arith in
    let here : drop (left - 1) ps ≡ get_or ps (left - 1) d ∷ drop left ps = drop_next ps (left - 1) d (omega arith) ∙ ap (λ (k : ℕ). get_or ps (left - 1) d ∷ drop k ps) at in
    let rs : Entries = receipts_of c (get_or ps (left - 1) d).view.stories.story in
    ap (λ (k : ℕ). most_of k rs) was ∙ most_append 0 rs (made_of c hub (drop left ps)) ∙ sym (ap (λ (qs : List SeatValue). most_of 0 (made_of c hub qs)) here)

-- what one pass made is no more than what all made
pub most_of_pass : (c : ℕ) (hub : View) (xs ys : List SeatValue) (p : SeatValue) → most_of 0 (receipts_of c p.view.stories.story) ≤ most_of 0 (made_of c hub (xs ++ p ∷ ys))
most_of_pass c hub [] ys p = most_first 0 (receipts_of c p.view.stories.story) (made_of c hub ys)
most_of_pass c hub (x ∷ xs) ys p = let h = most_of_pass c hub xs ys p in let k = most_later 0 (receipts_of c x.view.stories.story) (made_of c hub (xs ++ p ∷ ys)) in omega arith

pub most_of_hub : (c : ℕ) (hub : View) (ps : List SeatValue) → most_of 0 (orders_of (seen_log hub c)) ≤ most_of 0 (made_of c hub ps)
most_of_hub c hub [] = omega arith
most_of_hub c hub (p ∷ ps) = let h = most_of_hub c hub ps in let k = most_later 0 (receipts_of c p.view.stories.story) (made_of c hub ps) in omega arith

-- ---- logs of lists

pub logs_from-none : (clock : ℕ) (os : List ClockState) → logs_from clock os [] ≡ []
logs_from-none clock [] = refl
logs_from-none clock (o ∷ os) = refl

-- one list more
pub logs_from-next : (clock : ℕ) (os : List ClockState) (ls : List (List LogEntry)) (l : List LogEntry) (d : ClockState) → length ls < length os
    → logs_from clock os (map reverse ls) ++ log_as (clock + length ls) (get_or os (length ls) d) l ∷ [] ≡ logs_from clock os (map reverse (ls ++ l ∷ []))
logs_from-next clock [] ls l d lt = absurd (omega arith)
logs_from-next clock (o ∷ os) [] l d lt =
    let at : clock + 0 ≡ clock = omega arith in
    (λ i. log_as (at i) o (sym (reverse-reverse l) i) ∷ sym (logs_from-none (clock + 1) os) i)
logs_from-next clock (o ∷ os) (x ∷ ls) l d lt =
    let at : clock + suc (length ls) ≡ clock + 1 + length ls = omega arith in
    ap (λ (n : ℕ). log_as clock o (reverse (reverse x)) ∷ logs_from (clock + 1) os (map reverse ls) ++ log_as n (get_or os (length ls) d) l ∷ []) at
    ∙ ap (λ (logs : List Log). log_as clock o (reverse (reverse x)) ∷ logs) (logs_from-next (clock + 1) os ls l d (omega arith))

-- a log was pushed
pub pushed_log : (os : List ClockState) (now old : List Log) (ls : List (List LogEntry)) (l : List LogEntry) (n m : ℕ) (d : ClockState) → now ≡ old ++ log_as n (get_or os m d) l ∷ [] → m ≡ n → n ≡ length ls → length ls < length os
    → old ≡ logs_from 0 os (map reverse ls) → now ≡ logs_from 0 os (map reverse (ls ++ l ∷ []))
pushed_log os now old ls l n m d is at long lt was =
    let number : n ≡ 0 + length ls = omega (arith, long) in
    is ∙ (λ i. was i ++ log_as (number i) (get_or os ((at ∙ long) i) d) l ∷ []) ∙ logs_from-next 0 os ls l d lt

placed_append : (es fs : Entries) (places : List LogEntry) → placed es (placed fs places) ≡ placed (es ++ fs) places
placed_append [] fs places = refl
placed_append (e ∷ es) fs places = ap (λ (l : List LogEntry). set l (e.0 - 1) e.1) (placed_append es fs places)

-- a pass's entries are placed behind the others
pub placed_pass : (c : ℕ) (hub : View) (p : SeatValue) (done : List SeatValue) (new lists places : List LogEntry) → new ≡ placed (receipts_of c p.view.stories.story) lists → lists ≡ placed (made_of c hub done) places
    → new ≡ placed (made_of c hub (p ∷ done)) places
placed_pass c hub p done new lists places is was =
    is ∙ ap (placed (receipts_of c p.view.stories.story)) was ∙ placed_append (receipts_of c p.view.stories.story) (made_of c hub done) places

-- there is room for a pass's entries
pub room_for_pass : (c : ℕ) (hub : View) (ps xs done : List SeatValue) (p : SeatValue) (lists places : List LogEntry) → ps ≡ xs ++ p ∷ done → lists ≡ placed (made_of c hub done) places → most_of 0 (made_of c hub ps) ≤ length places
    → most_of 0 (receipts_of c p.view.stories.story) ≤ length lists
room_for_pass c hub ps xs done p lists places whole was room =
    let long : length lists ≡ length places = ap length was ∙ length-placed (made_of c hub done) places in
    let part = most_of_pass c hub xs done p in
    let all : most_of 0 (made_of c hub (xs ++ p ∷ done)) ≤ length places = subst (λ (qs : List SeatValue). most_of 0 (made_of c hub qs) ≤ length places) whole room in
    omega arith

-- the orders of a log are the hub's entries
pub own_orders : (c : ℕ) (l : SeatLog) → AreEntriesOf c Hub l (orders_of l)
own_orders c [] = refl
own_orders c (Order g k ∷ l) = inr (refl, (orders_of l, refl, own_orders c l))
own_orders c (Change g k t s f ∷ l) = inl (owner_not_hub (ltb k 128) k c, own_orders c l)
