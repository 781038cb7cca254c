-- Lists with one more element at their end: what holds of the others, and of that one.
use Rattle.std.proofs.Common.{◌≡◌, ℕ, zero, suc, ◌-◌, ◌<◌, ◌≤◌, false, refl, ◌∙◌, arith, List, [], ◌∷◌, ◌++◌, length, length-append, get_or, drop, leb, le-leb, subst}
use Rattle.std.specs.Prelude.{All, AllPairs, slice_index_or, nat_lt}
use Rattle.std.proofs.lemmas.Bool.Decides.{leb_tells}
use Rattle.std.proofs.lemmas.List.Elements.{All-head, All-tail, All-cons, All-nil}
use Rattle.ptp_profile.specs.declared.seats.Log.{Log}
use Rattle.transcript.specs.NextLines.{is_above, is_empty}

pub All-unpush : {X : Type 0} (P : X → Type 0) (xs : List X) (x : X) → All P (xs ++ x ∷ []) → All P xs × P x
All-unpush P [] x all = (All-nil P, All-head P x [] all)
All-unpush P (y ∷ xs) x all =
    let rest = All-unpush P xs x (All-tail P y (xs ++ x ∷ []) all) in
    (All-cons P y xs (All-head P y (xs ++ x ∷ []) all) rest.0, rest.1)

-- parts of a list of two
pub All-front : {X : Type 0} (P : X → Type 0) (xs ys : List X) → All P (xs ++ ys) → All P xs
All-front P [] ys all = All-nil P
All-front P (x ∷ xs) ys all = All-cons P x xs (All-head P x (xs ++ ys) all) (All-front P xs ys (All-tail P x (xs ++ ys) all))

pub All-back : {X : Type 0} (P : X → Type 0) (xs ys : List X) → All P (xs ++ ys) → All P ys
All-back P [] ys all = all
All-back P (x ∷ xs) ys all = All-back P xs ys (All-tail P x (xs ++ ys) all)

front_at : {X : Type 0} (xs : List X) (x : X) (k : ℕ) (d : X) → k < length xs → slice_index_or (xs ++ x ∷ []) k d ≡ slice_index_or xs k d
front_at [] x k d h = absurd (omega (arith, h))
front_at (y ∷ xs) x zero d h = refl
front_at (y ∷ xs) x (suc k) d h = front_at xs x k d (omega arith)

last_at : {X : Type 0} (xs : List X) (x d : X) → slice_index_or (xs ++ x ∷ []) (length xs) d ≡ x
last_at [] x d = refl
last_at (y ∷ xs) x d = last_at xs x d

pub pairs_front : {X : Type 0} (R : X → X → Type 0) (xs : List X) (x : X) → AllPairs R (xs ++ x ∷ []) → AllPairs R xs
pairs_front {X} R xs x pairs = λ i j d lt below.
    let long = length-append xs (x ∷ []) in
    let both : R (slice_index_or (xs ++ x ∷ []) i d) (slice_index_or (xs ++ x ∷ []) j d) = pairs i j d lt (omega (arith, long)) in
    subst (λ (a : X). R a (slice_index_or xs j d)) (front_at xs x i d (omega arith))
    (subst (λ (b : X). R (slice_index_or (xs ++ x ∷ []) i d) b) (front_at xs x j d below) both)

pub pairs_last : {X : Type 0} (R : X → X → Type 0) (xs : List X) (x : X) → AllPairs R (xs ++ x ∷ []) → (k : ℕ) (d : X) → k < length xs → R (slice_index_or xs k d) x
pairs_last {X} R xs x pairs k d below =
    let long = length-append xs (x ∷ []) in
    let both : R (slice_index_or (xs ++ x ∷ []) k d) (slice_index_or (xs ++ x ∷ []) (length xs) d) = pairs k (length xs) d below (omega (arith, long)) in
    subst (λ (a : X). R a x) (front_at xs x k d below) (subst (λ (b : X). R (slice_index_or (xs ++ x ∷ []) k d) b) (last_at xs x d) both)

-- the last log says which clocks are above all
pub is_above-last : (logs : List Log) (clock : ℕ) (d : Log) → 1 ≤ length logs → is_above logs clock ≡ nat_lt (get_or logs (length logs - 1) d).clock clock
is_above-last [] clock d h = absurd (omega (arith, h))
is_above-last (a ∷ []) clock d h = refl
is_above-last (a ∷ b ∷ logs) clock d h =
    let one : suc (suc (length logs)) - 1 ≡ suc (suc (length logs) - 1) = omega arith in
    rw one (is_above-last (b ∷ logs) clock d (omega arith))

more_than_none : (n : ℕ) → leb (suc n) 0 ≡ false
more_than_none n = grind (arith, leb_tells (suc n) 0)

one_less : (m n : ℕ) → leb (suc m) (suc n) ≡ leb m n
one_less m n = grind (arith, leb_tells (suc m) (suc n), leb_tells m n)

-- nothing is left of a list behind its end
pub drop-empty : {X : Type 0} (xs : List X) (n : ℕ) → leb (length xs) n ≡ is_empty (drop n xs)
drop-empty [] zero = refl
drop-empty [] (suc n) = le-leb 0 (suc n) (omega arith)
drop-empty (x ∷ xs) zero = more_than_none (length xs)
drop-empty (x ∷ xs) (suc n) = one_less (length xs) n ∙ drop-empty xs n
