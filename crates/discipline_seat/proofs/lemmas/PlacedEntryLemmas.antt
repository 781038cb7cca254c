-- Entries and the places that their numbers have.
use Rattle.std.proofs.Common.{Bool, true, false, eqb, max, ◌≡◌, ◌≢◌, ℕ, zero, suc, ◌-◌, ◌<◌, ◌≤◌, ⊎_elim, List, [], ◌∷◌, ◌++◌, length, reverse, take, drop, get_or, set, refl, sym, ap, ◌∙◌, subst, arith, length-set, get_or-set_same, get_or-set_other}
use native.Mathlib.Decide.{ℕ_discrete}
use mathlib.Core.Logic.{dite}
use Rattle.std.proofs.Math.Nat.{le-max_left, le-max_right}
use Rattle.std.proofs.Math.Seq.{take-suc}
use Rattle.std.proofs.lemmas.Bool.{eq-eqb}
use Rattle.std.proofs.lemmas.Bool.Decides.{eqb_tells}
use Rattle.std.proofs.lemmas.List.{reverse-append, get_or_past, take-append-drop}
use Rattle.ptp_profile.specs.Roles.SeatLogs.{log_at}
use Rattle.ptp_profile.specs.declared.seats.LogEntry.{LogEntry}
use Rattle.discipline_seat.specs.declared.entries.Numbered.{Numbered}
use Rattle.discipline_seat.specs.declared.view.Owner.{Owner}
use Rattle.discipline_seat.specs.Rule.SeatLog.{SeatLog, maker_of}
use Rattle.discipline_seat.specs.Rule.Story.{AreEntriesOf, with_entry_if}
use Rattle.discipline_seat.specs.SeatEntries.{AreWithin, entries_at, most_of, placed}
use Rattle.discipline_seat.proofs.lemmas.ReversalLemmas.{reverse_push}

abbrev Entries : Type 0
Entries = List (ℕ × LogEntry)

abbrev Lists : Type 0
Lists = List (List LogEntry)

-- ---- one entry more

-- the newest of the first i + 1 entries
pub next_of : (xs : List Numbered) (i : ℕ) (d : Numbered) → i < length xs → reverse (take (suc i) xs) ≡ get_or xs i d ∷ reverse (take i xs)
next_of xs i d lt = ap reverse (take-suc xs i d lt) ∙ reverse_push (take i xs) (get_or xs i d)

pub not_eq : (a b : ℕ) → a ≢ b → eqb a b ≡ false
not_eq a b n = ⊎_elim (λ (h : (eqb a b ≡ true) × (a ≡ b)). absurd (n h.1)) (λ (h : (eqb a b ≡ false) × (a ≢ b)). h.0) (eqb_tells a b)

-- the largest number, where an entry is of the clock, and where it isn't
pub most_here : (least c n : ℕ) (xs : List Numbered) (i : ℕ) (d : Numbered) → i < length xs → (get_or xs i d).clock ≡ c → n ≡ most_of least (entries_at c (reverse (take i xs)))
    → max (get_or xs i d).number n ≡ most_of least (entries_at c (reverse (take (suc i) xs)))
most_here least c n xs i d lt is was =
    ap (max (get_or xs i d).number) was
    ∙ sym (ap (λ (es : List Numbered). most_of least (entries_at c es)) (next_of xs i d lt)
    ∙ ap (λ (t : Bool). most_of least (with_entry_if t ((get_or xs i d).number, (get_or xs i d).entry) (entries_at c (reverse (take i xs))))) (eq-eqb (get_or xs i d).clock c is))

pub most_else : (least c n : ℕ) (xs : List Numbered) (i : ℕ) (d : Numbered) → i < length xs → (get_or xs i d).clock ≢ c → n ≡ most_of least (entries_at c (reverse (take i xs)))
    → n ≡ most_of least (entries_at c (reverse (take (suc i) xs)))
most_else least c n xs i d lt other was =
    was
    ∙ sym (ap (λ (es : List Numbered). most_of least (entries_at c es)) (next_of xs i d lt)
    ∙ ap (λ (t : Bool). most_of least (with_entry_if t ((get_or xs i d).number, (get_or xs i d).entry) (entries_at c (reverse (take i xs))))) (not_eq (get_or xs i d).clock c other))

-- ---- places

pub length-placed : (es : Entries) (places : List LogEntry) → length (placed es places) ≡ length places
length-placed [] places = refl
length-placed (e ∷ es) places = length-set (placed es places) (e.0 - 1) e.1 ∙ length-placed es places

within_append : (n : ℕ) (es fs : Entries) → AreWithin n (es ++ fs) → AreWithin n fs
within_append n [] fs h = h
within_append n (e ∷ es) fs h = within_append n es fs h.2

entries_append : (c : ℕ) (xs ys : List Numbered) → entries_at c (xs ++ ys) ≡ entries_at c xs ++ entries_at c ys
entries_append c [] ys = refl
entries_append c (x ∷ xs) ys = go (eqb x.clock c) (entries_append c xs ys)
  where
    go : (t : Bool) → entries_at c (xs ++ ys) ≡ entries_at c xs ++ entries_at c ys → with_entry_if t (x.number, x.entry) (entries_at c (xs ++ ys)) ≡ with_entry_if t (x.number, x.entry) (entries_at c xs) ++ entries_at c ys
    go true e = ap (λ (es : Entries). (x.number, x.entry) ∷ es) e
    go false e = e

-- each entry of a list has a place
pub has_place : (xs : List Numbered) (i n : ℕ) (d : Numbered) → i < length xs → AreWithin n (entries_at (get_or xs i d).clock (reverse xs)) → (0 < (get_or xs i d).number) × ((get_or xs i d).number ≤ n)
has_place xs i n d lt h =
    let x : Numbered = get_or xs i d in
    let c : ℕ = x.clock in
    let whole : reverse xs ≡ reverse (drop (suc i) xs) ++ x ∷ reverse (take i xs)
    = ap reverse (sym (take-append-drop (suc i) xs)) ∙ reverse-append (take (suc i) xs) (drop (suc i) xs) ∙ ap (λ (l : List Numbered). reverse (drop (suc i) xs) ++ l) (next_of xs i d lt) in
    let parts : entries_at c (reverse xs) ≡ entries_at c (reverse (drop (suc i) xs)) ++ (x.number, x.entry) ∷ entries_at c (reverse (take i xs))
    = ap (entries_at c) whole ∙ entries_append c (reverse (drop (suc i) xs)) (x ∷ reverse (take i xs))
    ∙ ap (λ (t : Bool). entries_at c (reverse (drop (suc i) xs)) ++ with_entry_if t (x.number, x.entry) (entries_at c (reverse (take i xs)))) (eq-eqb c c refl) in
    let inside = within_append n (entries_at c (reverse (drop (suc i) xs))) ((x.number, x.entry) ∷ entries_at c (reverse (take i xs))) (subst (AreWithin n) parts h) in
    (inside.0, inside.1)

-- a clock with a place is there
pub list_there : (lists : Lists) (c n : ℕ) → 0 < n → n ≤ length (log_at lists c) → c < length lists
list_there [] c n pos le = absurd (omega arith)
list_there (l ∷ ls) zero n pos le = omega arith
list_there (l ∷ ls) (suc c) n pos le = let h = list_there ls c n pos le in omega arith

-- one entry more at its place
pub placed_next : (lists olds : Lists) (xs : List Numbered) (i : ℕ) (d : Numbered) → i < length xs → (get_or xs i d).clock < length lists
    → ((c : ℕ) → log_at lists c ≡ placed (entries_at c (reverse (take i xs))) (log_at olds c)) → (c : ℕ)
    → log_at (set lists (get_or xs i d).clock (set (log_at lists (get_or xs i d).clock) ((get_or xs i d).number - 1) (get_or xs i d).entry)) c
    ≡ placed (entries_at c (reverse (take (suc i) xs))) (log_at olds c)
placed_next lists olds xs i d lt there was c =
    let x : Numbered = get_or xs i d in
    let e : ℕ × LogEntry = (x.number, x.entry) in
    let before : Entries = entries_at c (reverse (take i xs)) in
    let next : entries_at c (reverse (take (suc i) xs)) ≡ with_entry_if (eqb x.clock c) e before = ap (entries_at c) (next_of xs i d lt) in
    let new : List LogEntry = set (log_at lists x.clock) (x.number - 1) x.entry in
    dite (ℕ_discrete c x.clock)
    (λ same.
    ap (log_at (set lists x.clock new)) same ∙ get_or-set_same lists x.clock new [] there
    ∙ ap (λ (l : List LogEntry). set l (x.number - 1) x.entry) (ap (log_at lists) (sym same) ∙ was c)
    ∙ sym (ap (λ (es : Entries). placed es (log_at olds c)) (next ∙ ap (λ (t : Bool). with_entry_if t e before) (eq-eqb x.clock c (sym same)))))
    (λ other.
    get_or-set_other lists x.clock c new [] other ∙ was c
    ∙ sym (ap (λ (es : Entries). placed es (log_at olds c)) (next ∙ ap (λ (t : Bool). with_entry_if t e before) (not_eq x.clock c (λ q. other (sym q))))))

-- ---- an owner's entries

-- the numbers of an owner's entries are those of places
pub within_owned : (c : ℕ) (o : Owner) (l : SeatLog) (es : Entries) (n : ℕ) → AreEntriesOf c o l es → most_of 0 es ≤ n → AreWithin n es
within_owned c o [] es n own le = subst (AreWithin n) (sym own) tt
within_owned c o (x ∷ l) es n own le = ⊎_elim
    (λ (t : (maker_of c x ≢ o) × AreEntriesOf c o l es). within_owned c o l es n t.1 le)
    (λ (t : (maker_of c x ≡ o) × ((rest : Entries) × (es ≡ (suc (length l), x) ∷ rest) × AreEntriesOf c o l rest)).
    let q = t.1 in
    let bound : max (suc (length l)) (most_of 0 q.0) ≤ n = subst (λ (fs : Entries). most_of 0 fs ≤ n) q.1 le in
    let a = le-max_left (suc (length l)) (most_of 0 q.0) in
    let b = le-max_right (suc (length l)) (most_of 0 q.0) in
    subst (AreWithin n) (sym q.1) (omega arith, omega arith, within_owned c o l q.0 n q.2 (omega arith)))
    own

-- a clock that is not there has none
pub none_owned : (c : ℕ) (o : Owner) (seen : List SeatLog) (es : Entries) (n : ℕ) → length seen ≤ c → AreEntriesOf c o (log_at seen c) es → AreWithin n es
none_owned c o seen es n past own = subst (AreWithin n) (sym (subst (λ (l : SeatLog). AreEntriesOf c o l es) (get_or_past seen c [] past) own)) tt

-- the next entry has its place, in the list of a clock that is there
pub place_of_next : (lists olds : Lists) (xs ys : List Numbered) (i : ℕ) (d : Numbered) → xs ≡ ys → i < length xs → ((c : ℕ) → AreWithin (length (log_at olds c)) (entries_at c (reverse ys)))
    → ((c : ℕ) → log_at lists c ≡ placed (entries_at c (reverse (take i ys))) (log_at olds c))
    → (0 < (get_or xs i d).number) × ((get_or xs i d).number ≤ length (log_at lists (get_or xs i d).clock)) × ((get_or xs i d).clock < length lists)
place_of_next lists olds xs ys i d same lt inside was =
    subst (λ (l : List Numbered). (0 < (get_or l i d).number) × ((get_or l i d).number ≤ length (log_at lists (get_or l i d).clock)) × ((get_or l i d).clock < length lists)) (sym same) go
  where
    c : ℕ
    c = (get_or ys i d).clock

    go : (0 < (get_or ys i d).number) × ((get_or ys i d).number ≤ length (log_at lists c)) × (c < length lists)
    go =
        let h = has_place ys i (length (log_at olds c)) d (subst (λ (l : List Numbered). i < length l) same lt) (inside c) in
        let long : length (log_at lists c) ≡ length (log_at olds c) = ap length (was c) ∙ length-placed (entries_at c (reverse (take i ys))) (log_at olds c) in
        let pos = h.0 in
        let le : (get_or ys i d).number ≤ length (log_at lists c) = omega (arith, long, h.1) in
        (pos, le, list_there lists c (get_or ys i d).number pos le)

-- a list that is there, whatever stands for one that isn't
pub same_list : (lists : Lists) (c : ℕ) (d : List LogEntry) → c < length lists → get_or lists c d ≡ log_at lists c
same_list [] c d lt = absurd (omega arith)
same_list (l ∷ ls) zero d lt = refl
same_list (l ∷ ls) (suc c) d lt = same_list ls c d (omega arith)
