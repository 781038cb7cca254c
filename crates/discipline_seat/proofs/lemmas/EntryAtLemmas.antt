-- The entry that a log has at a number.
use Rattle.std.proofs.Common.{Bool, cond, ◌≡◌, ◌≢◌, ℕ, zero, suc, ◌-◌, ◌<◌, ◌≤◌, ◌⊎◌, inl, inr, ⊎_elim, List, [], ◌∷◌, ◌++◌, length, reverse, get_or, set, refl, sym, ap, ◌∙◌, subst, arith, get_or-set_same, get_or-set_other}
use Rattle.std.specs.Prelude.{Some, None}
use native.Mathlib.Decide.{ℕ_discrete}
use mathlib.Core.Logic.{dite}
use Rattle.std.proofs.Math.Nat.{le-max_left, le-max_right, max-le}
use Rattle.std.proofs.lemmas.Bool.{eq-eqb}
use Rattle.std.proofs.lemmas.List.{reverse-append, length-reverse, ext_get_or}
use Rattle.ptp_profile.specs.Roles.SeatLogs.{entry_at}
use Rattle.ptp_profile.specs.declared.seats.LogEntry.{LogEntry}
use Rattle.ptp_profile.specs.declared.seats.LogEntry.TheVariants.{Order}
use Rattle.discipline_seat.specs.declared.view.Owner.{Owner}
use Rattle.discipline_seat.specs.declared.view.Owner.TheVariants.{Hub}
use Rattle.discipline_seat.specs.Rule.SeatLog.{AreMadeBy, SeatLog, maker_of, pass_owner}
use Rattle.discipline_seat.specs.Rule.Story.{AreEntriesOf}
use Rattle.discipline_seat.specs.SeatEntries.{most_of, placed}
use Rattle.discipline_seat.specs.WholeLogs.{IsMade, IsWhole}
use Rattle.discipline_seat.proofs.lemmas.PlacedEntryLemmas.{length-placed, not_eq}

abbrev Entries : Type 0
Entries = List (ℕ × LogEntry)

none_some : (e : LogEntry) → None ≡ Some e → ⊥
none_some e h = absurd (cc (h))

same_entry : (x e : LogEntry) → Some x ≡ Some e → x ≡ e
same_entry x e h = cc (h)

entry_here : (x : LogEntry) (l : SeatLog) (n : ℕ) → n ≡ suc (length l) → entry_at n (x ∷ l) ≡ Some x
entry_here x l n is = ap (λ (t : Bool). cond t (Some x) (entry_at n l)) (eq-eqb n (suc (length l)) is)

entry_else : (x : LogEntry) (l : SeatLog) (n : ℕ) → n ≢ suc (length l) → entry_at n (x ∷ l) ≡ entry_at n l
entry_else x l n other = ap (λ (t : Bool). cond t (Some x) (entry_at n l)) (not_eq n (suc (length l)) other)

-- an entry's number is one of the log's
pub entry_within : (l : SeatLog) (n : ℕ) (e : LogEntry) → entry_at n l ≡ Some e → (0 < n) × (n ≤ length l)
entry_within [] n e h = absurd (none_some e h)
entry_within (x ∷ l) n e h = dite (ℕ_discrete n (suc (length l)))
    (λ is. (omega (arith, is), omega (arith, is)))
    (λ other. let t = entry_within l n e (sym (entry_else x l n other) ∙ h) in (t.0, omega (arith, t.1)))

-- an owner's entries stand in the log
pub own_stands : (c : ℕ) (o : Owner) (l : SeatLog) (es : Entries) (n : ℕ) (e : LogEntry) → AreEntriesOf c o l es → IsMade n e es → entry_at n l ≡ Some e
own_stands c o [] es n e own made = absurd (subst (IsMade n e) own made)
own_stands c o (x ∷ l) es n e own made = ⊎_elim
    (λ (t : (maker_of c x ≢ o) × AreEntriesOf c o l es). behind (own_stands c o l es n e t.1 made))
    (λ (t : (maker_of c x ≡ o) × ((rest : Entries) × (es ≡ (suc (length l), x) ∷ rest) × AreEntriesOf c o l rest)).
    let q = t.1 in
    ⊎_elim
    (λ (is : (suc (length l), x) ≡ (n, e)). entry_here x l n (sym (ap (λ (p : ℕ × LogEntry). p.0) is)) ∙ ap (λ (p : ℕ × LogEntry). Some p.1) is)
    (λ (later : IsMade n e q.0). behind (own_stands c o l q.0 n e q.2 later))
    (subst (IsMade n e) q.1 made))
    own
  where
    behind : entry_at n l ≡ Some e → entry_at n (x ∷ l) ≡ Some e
    behind h = let w = entry_within l n e h in entry_else x l n (λ is. absurd (omega (arith, is, w.1))) ∙ h

-- and what the owner made in the log is among its entries
pub own_covers : (c : ℕ) (o : Owner) (l : SeatLog) (es : Entries) (n : ℕ) (e : LogEntry) → AreEntriesOf c o l es → entry_at n l ≡ Some e → maker_of c e ≡ o → IsMade n e es
own_covers c o [] es n e own at mine = absurd (none_some e at)
own_covers c o (x ∷ l) es n e own at mine = dite (ℕ_discrete n (suc (length l)))
    (λ is.
    let same : x ≡ e = same_entry x e (sym (entry_here x l n is) ∙ at) in
    ⊎_elim
    (λ (t : (maker_of c x ≢ o) × AreEntriesOf c o l es). absurd (t.0 (ap (maker_of c) same ∙ mine)))
    (λ (t : (maker_of c x ≡ o) × ((rest : Entries) × (es ≡ (suc (length l), x) ∷ rest) × AreEntriesOf c o l rest)). subst (IsMade n e) (sym t.1.1) (inl (λ i. (sym is i, same i))))
    own)
    (λ other.
    let before : entry_at n l ≡ Some e = sym (entry_else x l n other) ∙ at in
    ⊎_elim
    (λ (t : (maker_of c x ≢ o) × AreEntriesOf c o l es). own_covers c o l es n e t.1 before mine)
    (λ (t : (maker_of c x ≡ o) × ((rest : Entries) × (es ≡ (suc (length l), x) ∷ rest) × AreEntriesOf c o l rest)). subst (IsMade n e) (sym t.1.1) (inr (own_covers c o l t.1.0 n e t.1.2 before mine)))
    own)

-- who made an entry of the log
pub made_at : (c ports count : ℕ) (l : SeatLog) (n : ℕ) (e : LogEntry) → AreMadeBy c ports count l → entry_at n l ≡ Some e → (maker_of c e ≡ Hub) ⊎ ((m : ℕ) × (m < count) × (maker_of c e ≡ pass_owner ports m))
made_at c ports count [] n e made at = absurd (none_some e at)
made_at c ports count (x ∷ l) n e made at = dite (ℕ_discrete n (suc (length l)))
    (λ is. subst (λ (y : LogEntry). (maker_of c y ≡ Hub) ⊎ ((m : ℕ) × (m < count) × (maker_of c y ≡ pass_owner ports m))) (same_entry x e (sym (entry_here x l n is) ∙ at)) made.0)
    (λ other. made_at c ports count l n e made.1 (sym (entry_else x l n other) ∙ at))

front : (xs ys : List LogEntry) (i : ℕ) (d : LogEntry) → i < length xs → get_or (xs ++ ys) i d ≡ get_or xs i d
front [] ys i d lt = absurd (omega (arith, lt))
front (x ∷ xs) ys zero d lt = refl
front (x ∷ xs) ys (suc i) d lt = front xs ys i d (omega (arith, lt))

middle : (xs : List LogEntry) (x d : LogEntry) → get_or (xs ++ x ∷ []) (length xs) d ≡ x
middle [] x d = refl
middle (y ∷ ys) x d = middle ys x d

-- the log from its oldest entry on has them by number
pub entry_reverse : (l : SeatLog) (i : ℕ) (d : LogEntry) → i < length l → entry_at (suc i) l ≡ Some (get_or (reverse l) i d)
entry_reverse [] i d lt = absurd (omega (arith, lt))
entry_reverse (x ∷ l) i d lt =
    let whole : reverse (x ∷ l) ≡ reverse l ++ x ∷ [] = reverse-append (x ∷ []) l in
    let long : length (reverse l) ≡ length l = length-reverse l in
    dite (ℕ_discrete i (length l))
    (λ is. entry_here x l (suc i) (ap suc is) ∙ sym (ap Some (ap (λ (k : List LogEntry). get_or k i d) whole ∙ ap (λ (k : ℕ). get_or (reverse l ++ x ∷ []) k d) (is ∙ sym long) ∙ middle (reverse l) x d)))
    (λ other.
    let below : i < length l = omega (arith, lt, other) in
    entry_else x l (suc i) (λ e. other (omega (arith, e))) ∙ entry_reverse l i d below ∙ sym (ap Some (ap (λ (k : List LogEntry). get_or k i d) whole ∙ front (reverse l) (x ∷ []) i d (omega (arith, below, long)))))

-- no number is above the largest
made_most : (es : Entries) (n : ℕ) (e : LogEntry) → IsMade n e es → n ≤ most_of 0 es
made_most [] n e made = absurd made
made_most (x ∷ es) n e made =
    let l = le-max_left x.0 (most_of 0 es) in
    let r = le-max_right x.0 (most_of 0 es) in
    ⊎_elim (λ is. let same : x.0 ≡ n = ap (λ (p : ℕ × LogEntry). p.0) is in omega (arith, same, l)) (λ later. let h = made_most es n e later in omega (arith, h, r)) made

most_least : (es : Entries) (m : ℕ) → ((n : ℕ) (e : LogEntry) → IsMade n e es → n ≤ m) → most_of 0 es ≤ m
most_least [] m all = omega arith
most_least (x ∷ es) m all = max-le (all x.0 x.1 (inl refl)) (most_least es m (λ n e h. all n e (inr h)))

-- what stands at a place
placed_at : (es : Entries) (places : List LogEntry) (i : ℕ) (e d : LogEntry) → i < length places → ((n : ℕ) (x : LogEntry) → IsMade n x es → 0 < n) → ((x : LogEntry) → IsMade (suc i) x es → x ≡ e) → IsMade (suc i) e es → get_or (placed es places) i d ≡ e
placed_at [] places i e d lt pos one made = absurd made
placed_at (x ∷ es) places i e d lt pos one made =
    let first = pos x.0 x.1 (inl refl) in
    let long = length-placed es places in
    dite (ℕ_discrete x.0 (suc i))
    (λ is.
    let at : x.0 - 1 ≡ i = omega (arith, is) in
    ap (λ (k : ℕ). get_or (set (placed es places) k x.1) i d) at ∙ get_or-set_same (placed es places) i x.1 d (omega (arith, lt, long)) ∙ one x.1 (inl (λ j. (is j, x.1))))
    (λ other.
    get_or-set_other (placed es places) (x.0 - 1) i x.1 d (λ at. other (omega (arith, at, first)))
    ∙ placed_at es places i e d lt (λ n y h. pos n y (inr h)) (λ y h. one y (inr h)) (⊎_elim (λ is. absurd (other (ap (λ (p : ℕ × LogEntry). p.0) is))) (λ h. h) made))

-- entries at their places are the log, where they are all that it has, and there are so many places
pub placed_whole : (es : Entries) (l : SeatLog) (places : List LogEntry) → IsWhole es l → length places ≡ most_of 0 es → placed es places ≡ reverse l
placed_whole es l places whole sized =
    let d : LogEntry = Order 0 0 in
    let high : most_of 0 es ≤ length l = most_least es (length l) (λ n e h. (entry_within l n e (whole.each n e h)).1) in
    let low : length l ≤ most_of 0 es = reaches (length l) refl in
    let long : length (placed es places) ≡ length l = omega (arith, length-placed es places, sized, high, low) in
    ext_get_or d (placed es places) (reverse l) (long ∙ sym (length-reverse l)) (λ i lt.
    let below : i < length l = omega (arith, lt, long) in
    let e : LogEntry = get_or (reverse l) i d in
    let at : entry_at (suc i) l ≡ Some e = entry_reverse l i d below in
    placed_at es places i e d (omega (arith, below, low, sized)) (λ n x h. (entry_within l n x (whole.each n x h)).0) (λ x h. same_entry x e (sym (whole.each (suc i) x h) ∙ at)) (whole.others (suc i) e at))
  where
    reaches : (n : ℕ) → n ≡ length l → n ≤ most_of 0 es
    reaches zero is = omega arith
    reaches (suc n) is =
        let d : LogEntry = Order 0 0 in
        made_most es (suc n) (get_or (reverse l) n d) (whole.others (suc n) (get_or (reverse l) n d) (entry_reverse l n d (omega (arith, is))))
