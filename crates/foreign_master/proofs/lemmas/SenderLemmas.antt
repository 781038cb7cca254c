-- The senders of the kept Announces, and those of the masters.
use Rattle.std.proofs.Common.{◌≡◌, ℕ, ◌+◌, ◌<◌, ◌≤◌, Bool, true, false, cond, ◌&&◌, ◌||◌, leb, List, [], ◌∷◌, length, get_or, map, Option, Some, None, refl, sym, ap, subst, ◌∙◌, arith, ⊎_elim, zero, suc}
use Rattle.std.specs.Ordering.{ordering_reverse}
use Rattle.std.specs.declared.cmp.Ordering.TheVariants.{Less, Equal, Greater}
use Rattle.std.specs.List.{find, filter, count_by, IsDistinct, AllByRecursion}
use Rattle.std.specs.List.Sorted.{IsStrictlySortedBy}
use Rattle.std.specs.Set.{is_member}
use Rattle.std.proofs.lemmas.Cmp.{eq_by_cmp_equiv}
use Rattle.std.proofs.lemmas.Map.Keys.{IsDistinct-from_sorted}
use Rattle.std.proofs.lemmas.Map.Made.{length-from_same_keys, is_member-filter}
use Rattle.std.proofs.lemmas.List.Kept.{IsStrictlySortedBy-filter}
use Rattle.std.proofs.lemmas.List.{length-map}
use Rattle.std.proofs.lemmas.List.Sums.{length-filter, count_by-le-length, sum_by-cons}
use Rattle.std.proofs.lemmas.Bool.{cases_Bool, leb-true, and_right, and_left, le-leb, lt-leb, eqb-true, eq-eqb, false_from_ne_true, and_from}
use Rattle.ptp_base.specs.declared.limits.TheConstants.{SENDERS_MAX}
use Rattle.ptp_base.specs.declared.identity.PortId.{PortId}
use Rattle.ptp_profile.specs.declared.foreign_master.KeptAnnounce.{KeptAnnounce}
use Rattle.ptp_profile.specs.Best.PortIdentity.{is_same_port, port_cmp}
use Rattle.ptp_profile.specs.Best.ForeignMasters.{is_from, count_from, with_sender_by, with_sender, senders, present}
use Rattle.ptp_profile.specs.Best.ForeignMasters.{is_crowded}
use Rattle.foreign_master.specs.declared.foreign_master.ForeignMaster.{ForeignMaster}
use Rattle.foreign_master.specs.ForeignMasterTable.{is_of, master_of, is_present, IsReached, MasterRepresents}
use Rattle.foreign_master.proofs.lemmas.PortOrderLemmas.{same_from_is_same_port, is_same_port-refl, is_same_port-symm, port_cmp_total, ties, ties_is, same_from_equal, all_below}
use Rattle.foreign_master.proofs.lemmas.ForeignMasterTableLemmas.{count_from-other}
use Rattle.foreign_master.proofs.lemmas.RisingLemmas.{AreApart}
use Rattle.foreign_master.proofs.lemmas.RecordsViewLemmas.{Keeps}

-- ---- one more sender
below_with : (t s : PortId) (ts : List PortId) → port_cmp t s ≡ Less → AllByRecursion (λ y. port_cmp t y ≡ Less) ts → AllByRecursion (λ y. port_cmp t y ≡ Less) (with_sender s ts)
below_with t s [] lt all = (lt, tt)
below_with t s (x ∷ ts) lt all =
    elim (port_cmp s x) as (λ o. AllByRecursion (λ y. port_cmp t y ≡ Less) (with_sender_by s x ts (with_sender s ts) o)) [
      | Less ↦ (lt, all)
      | Equal ↦ all
      | Greater ↦ (all.0, below_with t s ts lt all.1)
    ]

pub sorted-with_sender : (s : PortId) (ts : List PortId) → IsStrictlySortedBy port_cmp ts → IsStrictlySortedBy port_cmp (with_sender s ts)
unfolding IsStrictlySortedBy
sorted-with_sender s [] up = (tt, tt)
sorted-with_sender s (t ∷ ts) up =
    elim (port_cmp s t) as (λ o. port_cmp s t ≡ o → IsStrictlySortedBy port_cmp (with_sender_by s t ts (with_sender s ts) o)) [
      | Less ↦ λ e. ((e, all_below s t ts e up.0), up)
      | Equal ↦ λ e. up
      | Greater ↦ λ e. (below_with t s ts (port_cmp_total.antisymm t s ∙ ap ordering_reverse e) up.0, sorted-with_sender s ts up.1)
    ] refl

pub sorted-senders : (kept : List KeptAnnounce) → IsStrictlySortedBy port_cmp (senders kept)
unfolding IsStrictlySortedBy
sorted-senders [] = tt
sorted-senders (h ∷ kept) = sorted-with_sender h.said.sender (senders kept) (sorted-senders kept)

twice : (b r : Bool) → (b || r) ≡ (b || (b || r))
twice true r = refl
twice false r = refl

swapped : (a b r : Bool) → (b || (a || r)) ≡ (a || (b || r))
swapped true true r = refl
swapped true false r = refl
swapped false true r = refl
swapped false false r = refl

pub is_member-with_sender : (q s : PortId) (ts : List PortId) → is_member ties (with_sender s ts) q ≡ (ties q s || is_member ties ts q)
is_member-with_sender q s [] = refl
is_member-with_sender q s (t ∷ ts) =
    elim (port_cmp s t) as (λ o. port_cmp s t ≡ o → is_member ties (with_sender_by s t ts (with_sender s ts) o) q ≡ (ties q s || (ties q t || is_member ties ts q))) [
      | Less ↦ λ e. refl
      | Equal ↦ λ e. subst (λ (x : PortId). (ties q t || is_member ties ts q) ≡ (ties q x || (ties q t || is_member ties ts q))) (sym (same_from_equal s t e)) (twice (ties q t) (is_member ties ts q))
      | Greater ↦ λ e. ap (λ r. ties q t || r) (is_member-with_sender q s ts) ∙ swapped (ties q s) (ties q t) (is_member ties ts q)
    ] refl

or_true : (b : Bool) → (b || true) ≡ true
or_true true = refl
or_true false = refl

-- a sender that is counted is one of the senders
pub counted : (w m : ℕ) (q : PortId) (n : ℕ) (kept : List KeptAnnounce) → leb (suc n) (count_from w m q kept) ≡ true → is_member ties (senders kept) q ≡ true
counted w m q n [] e =
    let le = leb-true (suc n) 0 e in
    absurd (omega arith)
counted w m q n (h ∷ kept) e =
    is_member-with_sender q h.said.sender (senders kept)
    ∙ ⊎_elim
    (λ (from : is_from q h ≡ true).
    let same : h.said.sender ≡ q = same_from_is_same_port h.said.sender q from in
    ap (λ b. b || is_member ties (senders kept) q) (ties_is q h.said.sender ∙ subst (λ (x : PortId). is_same_port x h.said.sender ≡ true) same (is_same_port-refl h.said.sender)))
    (λ (other : is_from q h ≡ false).
    let rest = counted w m q n kept (sym (ap (leb (suc n)) (count_from-other w m q h kept other)) ∙ e) in
    ap (λ r. ties q h.said.sender || r) rest ∙ or_true (ties q h.said.sender))
    (cases_Bool (is_from q h))

abbrev pub sender_of : ForeignMaster → PortId
sender_of p = p.said.sender

abbrev pub present_in : ℕ → ℕ → List ForeignMaster → List PortId
present_in w m xs = map sender_of (filter (is_present w m) xs)

ties_of : (q : PortId) (x : ForeignMaster) (b : Bool) → is_of q x ≡ b → ties q (sender_of x) ≡ b
ties_of q x b e = ties_is q (sender_of x) ∙ is_same_port-symm q (sender_of x) ∙ e

tail_apart : (x : ForeignMaster) (xs : List ForeignMaster) → AreApart (x ∷ xs) → AreApart xs
tail_apart x xs apart i j d lt m = apart (suc i) (suc j) d (omega arith) (omega arith)

head_apart : (x : ForeignMaster) (xs : List ForeignMaster) → AreApart (x ∷ xs) → (k : ℕ) (d : ForeignMaster) → k < length xs → is_of (sender_of x) (get_or xs k d) ≡ false
head_apart x xs apart k d l = is_same_port-symm (sender_of (get_or xs k d)) (sender_of x) ∙ apart 0 (suc k) d (omega arith) (omega arith)

-- masters of other senders, whichever stay
none_of : (f : ForeignMaster → Bool) (q : PortId) (xs : List ForeignMaster) → ((k : ℕ) (d : ForeignMaster) → k < length xs → is_of q (get_or xs k d) ≡ false) → is_member ties (map sender_of (filter f xs)) q ≡ false
none_of f q [] away = refl
none_of f q (x ∷ xs) away =
    let rest = none_of f q xs (λ k d l. away (suc k) d (omega arith)) in
    elim (f x) as (λ b. is_member ties (map sender_of (cond b (x ∷ filter f xs) (filter f xs))) q ≡ false) [
      | true ↦ ap (λ b. b || is_member ties (map sender_of (filter f xs)) q) (ties_of q x false (away 0 x (omega arith))) ∙ rest
      | false ↦ rest
    ]

all_other : (f : ForeignMaster → Bool) (q : PortId) (xs : List ForeignMaster) → ((k : ℕ) (d : ForeignMaster) → k < length xs → is_of q (get_or xs k d) ≡ false) → AllByRecursion (λ y. ties q y ≡ false) (map sender_of (filter f xs))
all_other f q [] away = tt
all_other f q (x ∷ xs) away =
    let rest = all_other f q xs (λ k d l. away (suc k) d (omega arith)) in
    elim (f x) as (λ b. AllByRecursion (λ y. ties q y ≡ false) (map sender_of (cond b (x ∷ filter f xs) (filter f xs)))) [
      | true ↦ (ties_of q x false (away 0 x (omega arith)), rest)
      | false ↦ rest
    ]

pub distinct_places : (f : ForeignMaster → Bool) (xs : List ForeignMaster) → AreApart xs → IsDistinct ties (map sender_of (filter f xs))
unfolding IsDistinct
distinct_places f [] apart = tt
distinct_places f (x ∷ xs) apart =
    let rest = distinct_places f xs (tail_apart x xs apart) in
    elim (f x) as (λ b. IsDistinct ties (map sender_of (cond b (x ∷ filter f xs) (filter f xs)))) [
      | true ↦ (all_other f (sender_of x) xs (head_apart x xs apart), rest)
      | false ↦ rest
    ]

-- whether a test passes at the foreign master of a sender
abbrev pub passes_at : (ForeignMaster → Bool) → Option ForeignMaster → Bool
passes_at f None = false
passes_at f (Some p) = f p

pub is_member-masters : (f : ForeignMaster → Bool) (q : PortId) (xs : List ForeignMaster) → AreApart xs → is_member ties (map sender_of (filter f xs)) q ≡ passes_at f (master_of q xs)
is_member-masters f q [] apart = refl
is_member-masters f q (x ∷ xs) apart =
    ⊎_elim
    (λ (of : is_of q x ≡ true).
    let same : sender_of x ≡ q = same_from_is_same_port (sender_of x) q of in
    let away = subst (λ (s : PortId). (k : ℕ) (d : ForeignMaster) → k < length xs → is_of s (get_or xs k d) ≡ false) same (head_apart x xs apart) in
    let none = none_of f q xs away in
    (elim (f x) as (λ b. is_member ties (map sender_of (cond b (x ∷ filter f xs) (filter f xs))) q ≡ b) [
      | true ↦ ap (λ b. b || is_member ties (map sender_of (filter f xs)) q) (ties_of q x true of)
      | false ↦ none
    ]) ∙ sym (ap (λ b. passes_at f (cond b (Some x) (find (is_of q) xs))) of))
    (λ (other : is_of q x ≡ false).
    let rest = is_member-masters f q xs (tail_apart x xs apart) in
    (elim (f x) as (λ b. is_member ties (map sender_of (cond b (x ∷ filter f xs) (filter f xs))) q ≡ is_member ties (map sender_of (filter f xs)) q) [
      | true ↦ ap (λ b. b || is_member ties (map sender_of (filter f xs)) q) (ties_of q x false other)
      | false ↦ refl
    ]) ∙ rest ∙ sym (ap (λ b. passes_at f (cond b (Some x) (find (is_of q) xs))) other))
    (cases_Bool (is_of q x))

pub present_at : (w m : ℕ) (q : PortId) (kept : List KeptAnnounce) (o : Option ForeignMaster) → MasterRepresents w m kept q o → passes_at (is_present w m) o ≡ leb 1 (count_from w m q kept)
present_at w m q kept None t = sym (lt-leb 1 (count_from w m q kept) (omega (arith, t)))
present_at w m q kept (Some p) t = sym t.present

counted_test : (w m : ℕ) (kept : List KeptAnnounce) (q x : PortId) → ties q x ≡ true → leb 1 (count_from w m q kept) ≡ leb 1 (count_from w m x kept)
counted_test w m kept q x e = ap (λ (s : PortId). leb 1 (count_from w m s kept)) (same_from_is_same_port q x (sym (ties_is q x) ∙ e))

and_known : (a b : Bool) → (b ≡ true → a ≡ true) → (a && b) ≡ b
and_known true b h = refl
and_known false true h = h refl
and_known false false h = refl

pub is_member-present : (w m : ℕ) (kept : List KeptAnnounce) (q : PortId) → is_member ties (present w m kept) q ≡ leb 1 (count_from w m q kept)
is_member-present w m kept q =
    is_member-filter (eq_by_cmp_equiv port_cmp_total) (λ (s : PortId). leb 1 (count_from w m s kept)) q (counted_test w m kept q) (senders kept)
    ∙ and_known (is_member ties (senders kept) q) (leb 1 (count_from w m q kept)) (counted w m q 0 kept)

-- as many masters are in the window as senders
pub length-present : (w m : ℕ) (kept : List KeptAnnounce) (xs : List ForeignMaster) → Keeps w xs kept → IsReached m kept → length (present w m kept) ≡ count_by (is_present w m) xs
length-present w m kept xs keeps reached =
    length-from_same_keys (eq_by_cmp_equiv port_cmp_total) (present w m kept) (present_in w m xs)
    (IsDistinct-from_sorted port_cmp _ (IsStrictlySortedBy-filter port_cmp (λ (s : PortId). leb 1 (count_from w m s kept)) (senders kept) (sorted-senders kept)))
    (distinct_places (is_present w m) xs keeps.apart)
    (λ q. is_member-present w m kept q ∙ sym (present_at w m q kept _ (keeps.tells q m reached)) ∙ sym (is_member-masters (is_present w m) q xs keeps.apart))
    ∙ length-map (filter (is_present w m) xs) sender_of
    ∙ length-filter (is_present w m) xs

-- ---- crowded or not
pub count_lt : {X : Type 0} (p : X → Bool) (xs : List X) (i : ℕ) (d : X) → i < length xs → p (get_or xs i d) ≡ false → count_by p xs < length xs
count_lt p [] i d l fails = absurd (omega arith)
count_lt p (x ∷ xs) zero d l fails =
    let e : count_by p (x ∷ xs) ≡ cond {A = ℕ} (p x) 1 0 + count_by p xs = sum_by-cons _ x xs in
    let z : cond {A = ℕ} (p x) 1 0 ≡ 0 = ap (λ b. cond {A = ℕ} b 1 0) fails in
    omega (arith, e, z, count_by-le-length p xs)
count_lt p (x ∷ xs) (suc i) d l fails =
    let e : count_by p (x ∷ xs) ≡ cond {A = ℕ} (p x) 1 0 + count_by p xs = sum_by-cons _ x xs in
    let z : cond {A = ℕ} (p x) 1 0 ≤ 1 = elim (p x) as (λ b. cond {A = ℕ} b 1 0 ≤ 1) [ true ↦ omega arith | false ↦ omega arith ] in
    omega (arith, e, z, count_lt p xs i d (omega arith) fails)

pub count_all : {X : Type 0} (p : X → Bool) (xs : List X) → ((k : ℕ) (d : X) → k < length xs → p (get_or xs k d) ≡ true) → count_by p xs ≡ length xs
count_all p [] all = refl
count_all p (x ∷ xs) all =
    let e : count_by p (x ∷ xs) ≡ cond {A = ℕ} (p x) 1 0 + count_by p xs = sum_by-cons _ x xs in
    let z : cond {A = ℕ} (p x) 1 0 ≡ 1 = ap (λ b. cond {A = ℕ} b 1 0) (all 0 x (omega arith)) in
    omega (arith, e, z, count_all p xs (λ k d l. all (suc k) d (omega arith)))

-- fewer than SENDERS_MAX masters are in the window
pub not_crowded_few : (w m : ℕ) (kept : List KeptAnnounce) (xs : List ForeignMaster) (s : PortId) → Keeps w xs kept → IsReached m kept → count_by (is_present w m) xs < SENDERS_MAX → is_crowded w m kept s ≡ false
not_crowded_few w m kept xs s keeps reached few =
    and_right _ _ (lt-leb SENDERS_MAX _ (subst (λ n. n < SENDERS_MAX) (sym (length-present w m kept xs keeps reached)) few))

pub not_crowded_own : (w m : ℕ) (kept : List KeptAnnounce) (xs : List ForeignMaster) (s : PortId) (i : ℕ) (d : ForeignMaster) → Keeps w xs kept → IsReached m kept → i < length xs → master_of s xs ≡ Some (get_or xs i d) → is_crowded w m kept s ≡ false
not_crowded_own w m kept xs s i d keeps reached l found =
    let t = subst (MasterRepresents w m kept s) found (keeps.tells s m reached) in
    ⊎_elim
    (λ (in_it : is_present w m (get_or xs i d) ≡ true).
    and_left _ _ (false_from_ne_true _ (λ e.
    let zero_is = eqb-true (count_from w m s kept) 0 e in
    let le = leb-true 1 (count_from w m s kept) (t.present ∙ in_it) in
    omega arith)))
    (λ (left : is_present w m (get_or xs i d) ≡ false).
    not_crowded_few w m kept xs s keeps reached (let lt = count_lt (is_present w m) xs i d l left in let few = keeps.few in omega arith))
    (cases_Bool (is_present w m (get_or xs i d)))

pub crowded_full : (w m : ℕ) (kept : List KeptAnnounce) (xs : List ForeignMaster) (s : PortId) → Keeps w xs kept → IsReached m kept → master_of s xs ≡ None → SENDERS_MAX ≤ length xs → ((k : ℕ) (d : ForeignMaster) → k < length xs → is_present w m (get_or xs k d) ≡ true) → is_crowded w m kept s ≡ true
crowded_full w m kept xs s keeps reached none many all =
    let n = length-present w m kept xs keeps reached in
    let c = count_all (is_present w m) xs all in
    and_from _ _ (eq-eqb (count_from w m s kept) 0 (subst (MasterRepresents w m kept s) none (keeps.tells s m reached))) (le-leb SENDERS_MAX _ (omega (arith, n, c)))
