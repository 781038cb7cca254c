-- Rows of changes: where they stand, and that steps keep them.
use Rattle.std.proofs.Common.{◌≡◌, ◌≢◌, ℕ, zero, suc, ◌+◌, ◌*◌, ◌<◌, ◌≤◌, ◌⊎◌, inl, inr, List, [], ◌∷◌, ◌++◌, length, slice_index, set, get_or-set_other, refl, sym, ap, ◌∙◌, subst, arith, append_assoc}
use Rattle.std.specs.Prelude.{ℤ}
use Rattle.std.proofs.Math.Nat.{mul-le-mul_right, suc-mul, zero-mul}
use Rattle.model_clock.specs.declared.state.ClockState.{ClockState}
use Rattle.model_clock.specs.Clock.{clock_at}
use Rattle.ptp_profile.specs.Roles.SeatLogs.{clock_after}
use Rattle.ptp_profile.specs.declared.seats.LogEntry.{LogEntry}
use Rattle.ptp_profile.specs.declared.seats.LogEntry.TheVariants.{Order, Change}
use Rattle.discipline_seat.specs.declared.view.Owner.{Owner}
use Rattle.discipline_seat.specs.declared.view.View.{View}
use Rattle.discipline_seat.specs.Rule.SeatLog.{Extends, GrewByOthers, HasNoneBy, IsSeatLog, SeatLog, ctrl_after, last_change, owner_named as named}
use Rattle.discipline_seat.specs.Rule.SeatRule.{DraftHolds, RowHolds, RowsHold, row_place}
use Rattle.discipline_seat.proofs.lemmas.LogWordLemmas.{lawful_tail, none_back, split_same}

-- ---- places
digits_by : (n c d r q : ℕ) → r < n → q < n → c * n + r ≡ d * n + q → (c ≡ d) × (r ≡ q)
digits_by n zero zero r q a b e = (refl, let none = zero-mul n in omega (arith, e, none))
digits_by n zero (suc d) r q a b e =
    let none = zero-mul n in
    let more = suc-mul d n in
    absurd (omega (arith, a, e, more, none))
digits_by n (suc c) zero r q a b e =
    let none = zero-mul n in
    let more = suc-mul c n in
    absurd (omega (arith, b, e, more, none))
digits_by n (suc c) (suc d) r q a b e =
    let one = suc-mul c n in
    let two = suc-mul d n in
    let less = digits_by n c d r q a b (omega (arith, e, one, two)) in
    (ap suc less.0, less.1)

pub same_place : (rows clocks c r k d q j : ℕ) → r < rows → q < rows → k < 3 → j < 3
    → row_place rows clocks c r k ≡ row_place rows clocks d q j → (c ≡ d) × (r ≡ q) × (k ≡ j)
same_place rows clocks c r k d q j a b x y e =
    let rest : c * rows + r ≡ d * rows + q = omega (arith, x, y, e) in
    let both = digits_by rows c d r q a b rest in
    (both.0, both.1, omega (arith, x, y, e))

pub place_within : (rows clocks c r k : ℕ) → c < clocks → r < rows → k < 3
    → row_place rows clocks c r k < clocks + clocks * rows * 3
place_within rows clocks c r k a b x =
    let more = suc-mul c rows in
    let le : suc c * rows ≤ clocks * rows = mul-le-mul_right {m = suc c} {n = clocks} rows a in
    omega (arith, b, x, more, le)

-- ---- words
pub no_draft : (rows clocks : ℕ) (words : List ℕ) (v : View) → v.draft ≡ [] → DraftHolds rows clocks words v
no_draft rows clocks words v e k h = absurd (omega (arith, h, ap length e))

pub other_word : (words : List ℕ) (c x i : ℕ) → i ≢ c → slice_index (set words c x) i ≡ slice_index words i
other_word words c x i n = get_or-set_other words c i x 0 n

pub row_kept : (rows clocks : ℕ) (words : List ℕ) (i x c r : ℕ) (s : ClockState) → ((k : ℕ) → k < 3 → row_place rows clocks c r k ≢ i)
    → RowHolds rows clocks words c r s → RowHolds rows clocks (set words i x) c r s
row_kept rows clocks words i x c r s apart h k few =
    other_word words i x (row_place rows clocks c r k) (apart k few) ∙ h k few

pub rows_kept : (rows clocks : ℕ) (os : List ClockState) (words : List ℕ) (c x d : ℕ) (l : SeatLog) → c < clocks
    → RowsHold rows clocks os words d l → RowsHold rows clocks os (set words c x) d l
rows_kept rows clocks os words c x d l near h g k t y f b ext =
    row_kept rows clocks words c x d (length b) (clock_after (clock_at os d) (Change g k t y f ∷ b)) (λ j few e. omega (arith, near, e)) (h g k t y f b ext)

pub draft_kept : (rows clocks : ℕ) (words : List ℕ) (c x : ℕ) (v : View) → c < clocks → DraftHolds rows clocks words v
    → DraftHolds rows clocks (set words c x) v
draft_kept rows clocks words c x v near h k in_draft =
    let w = h k in_draft in
    record { few = w.few; clock = w.clock; room = w.room; held = w.held; stands = other_word words c x _ (λ e. omega (arith, near, e)) ∙ w.stands }

-- ---- logs
pub part_or_whole : (x e : LogEntry) (b l : SeatLog) → Extends (x ∷ b) (e ∷ l) → ((x ≡ e) × (b ≡ l)) ⊎ Extends (x ∷ b) l
part_or_whole x e b l ext = go ext.newer ext.is
  where
    go : (xs : SeatLog) → e ∷ l ≡ xs ++ x ∷ b → ((x ≡ e) × (b ≡ l)) ⊎ Extends (x ∷ b) l
    go [] is = let heads : e ≡ x = cc (is) in let tails : l ≡ b = cc (is) in inl (sym heads, sym tails)
    go (y ∷ ys) is = inr record { newer = ys; is = cc (is) }

-- the last change of a log
pub record LastChange (o : ClockState) (l : SeatLog) (r : ℕ) : Type 0 where
  pub gener : ℕ
  pub ctrl : ℕ
  pub tick : ℕ
  pub step : ℤ
  pub freq : ℤ
  pub before : SeatLog
  pub ends : Extends (Change gener ctrl tick step freq ∷ before) l
  pub number : length before ≡ r
  pub state : clock_after o l ≡ clock_after o (Change gener ctrl tick step freq ∷ before)

pub last_of : (o : ClockState) (l : SeatLog) (r : ℕ) → last_change l ≡ suc r → LastChange o l r
last_of o [] r is = absurd (omega (arith, is))
last_of o (Order g k ∷ es) r is =
    let x = last_of o es r is in
    record { gener = x.gener; ctrl = x.ctrl; tick = x.tick; step = x.step; freq = x.freq; before = x.before; ends = record { newer = Order g k ∷ x.ends.newer; is = ap (λ (m : SeatLog). Order g k ∷ m) x.ends.is }; number = x.number; state = x.state }
last_of o (Change g k t s f ∷ es) r is =
    record { gener = g; ctrl = k; tick = t; step = s; freq = f; before = es; ends = record { newer = []; is = refl }; number = omega (arith, is); state = refl }

pub none_changed : (o : ClockState) (l : SeatLog) → last_change l ≡ 0 → clock_after o l ≡ o
none_changed o [] is = refl
none_changed o (Order g k ∷ es) is = none_changed o es is
none_changed o (Change g k t s f ∷ es) is = absurd (omega (arith, is))

pub one_drift : (o : ClockState) (l : SeatLog) → (clock_after o l).drift ≡ o.drift
one_drift o [] = refl
one_drift o (Order g k ∷ es) = one_drift o es
one_drift o (Change g k t s f ∷ es) = one_drift o es

-- behind what a view has seen of a clock that its owner holds stands no change
pub not_taken : (rows c : ℕ) (o : Owner) (seen l : SeatLog) (g k t : ℕ) (s f : ℤ) (b : SeatLog) → GrewByOthers c o seen l → IsSeatLog rows l
    → named c (ctrl_after seen) ≡ o → Extends (Change g k t s f ∷ b) l → length b ≢ length seen
not_taken rows c o seen l g k t s f b grew lawful holds ext same =
    let x : LogEntry = Change g k t s f in
    let parts : (ext.newer ++ x ∷ []) ++ b ≡ grew.newer ++ seen = append_assoc ext.newer (x ∷ []) b ∙ sym ext.is ∙ grew.is in
    let both = split_same (ext.newer ++ x ∷ []) grew.newer b seen parts same in
    let none = none_back c o ext.newer (x ∷ []) (subst (HasNoneBy c o) (sym both.0) grew.none_mine) in
    let law = lawful_tail rows ext.newer (x ∷ b) (subst (IsSeatLog rows) ext.is lawful) in
    none.0 (ap (named c) law.0.1 ∙ ap (λ (m : SeatLog). named c (ctrl_after m)) both.1 ∙ holds)

-- two that have seen as much of one log have seen the same
pub same_seen : (a b l : SeatLog) → Extends a l → Extends b l → length a ≡ length b → a ≡ b
same_seen a b l p q same = (split_same p.newer q.newer a b (sym p.is ∙ q.is) same).1
