-- The numbers in rising order are the given ones.
use Rattle.std.proofs.Common.{◌≡◌, ℤ, ◌+◌, ◌≤ℤ◌, Bool, true, false, cond, List, [], ◌∷◌, suc, arith, refl, get_or}
use Rattle.std.proofs.lemmas.Int.{ints}
use Rattle.std.proofs.lemmas.List.Elements.{All-cons}
use Rattle.std.proofs.lemmas.List.Kept.{AllPairs-cons}
use Rattle.std.proofs.lemmas.List.Sorted.{IsPermutation-refl, IsPermutation-sym, IsPermutation-cons, IsPermutation-trans, IsPermutation-middle, All-permutation}
use Rattle.std.specs.Prelude.{int_le, All, AllPairs, IsPermutation, IsSorted}
use Rattle.std.specs.Ordering.{int_cmp, is_lt}
use Rattle.ptp_profile.specs.Timing.OffsetAndDelay.{with_number, in_rising_order}

-- one more number is put somewhere
IsPermutation-with_number : (x : ℤ) (ys : List ℤ) → IsPermutation (x ∷ ys) (with_number x ys)
IsPermutation-with_number x [] = IsPermutation-refl (x ∷ [])
IsPermutation-with_number x (y ∷ ys) = placed (int_le x y) (IsPermutation-cons y (x ∷ ys) (with_number x ys) (IsPermutation-with_number x ys))
  where
    placed : (b : Bool) → IsPermutation (y ∷ x ∷ ys) (y ∷ with_number x ys) → IsPermutation (x ∷ y ∷ ys) (cond b (x ∷ y ∷ ys) (y ∷ with_number x ys))
    placed true behind = IsPermutation-refl (x ∷ y ∷ ys)
    placed false behind =
        IsPermutation-trans (x ∷ y ∷ ys) (y ∷ x ∷ ys) (y ∷ with_number x ys)
        (IsPermutation-sym (y ∷ x ∷ ys) (x ∷ y ∷ ys) (IsPermutation-middle (y ∷ []) x ys)) behind

pub IsPermutation-rising : (xs : List ℤ) → IsPermutation xs (in_rising_order xs)
IsPermutation-rising [] = IsPermutation-refl []
IsPermutation-rising (x ∷ xs) =
    IsPermutation-trans (x ∷ xs) (x ∷ in_rising_order xs) (with_number x (in_rising_order xs)) (IsPermutation-cons x xs (in_rising_order xs) (IsPermutation-rising xs))
    (IsPermutation-with_number x (in_rising_order xs))

abbrev Rises : List ℤ → Type 0
Rises xs = AllPairs (λ x y. x ≤ℤ y) xs

Rises-one : (x : ℤ) → Rises (x ∷ [])
Rises-one x i j d lo hi = absurd (omega arith)

-- the first is at most each of the others, and the others rise
first_least : (y : ℤ) (ys : List ℤ) → Rises (y ∷ ys) → All (λ z. y ≤ℤ z) ys
first_least y ys up = λ k d h. up 0 (suc k) d (omega arith) (omega arith)

others_rise : (y : ℤ) (ys : List ℤ) → Rises (y ∷ ys) → Rises ys
others_rise y ys up = λ i j d lo hi. up (suc i) (suc j) d (omega arith) (omega arith)

Rises-with_number : (x : ℤ) (ys : List ℤ) → Rises ys → Rises (with_number x ys)
Rises-with_number x [] up = Rises-one x
Rises-with_number x (y ∷ ys) up = placed (int_le x y) refl (Rises-with_number x ys (others_rise y ys up))
  where
    front : x ≤ℤ y → All (λ z. x ≤ℤ z) (y ∷ ys)
    front le = All-cons (λ z. x ≤ℤ z) y ys le (λ k d h. let far : y ≤ℤ get_or ys k d = first_least y ys up k d h in omega (arith, ints, far, le))

    later : y ≤ℤ x → All (λ z. y ≤ℤ z) (with_number x ys)
    later le = All-permutation (λ z. y ≤ℤ z) (x ∷ ys) (with_number x ys) (IsPermutation-with_number x ys)
        (All-cons (λ z. y ≤ℤ z) x ys le (first_least y ys up))

    placed : (b : Bool) → int_le x y ≡ b → Rises (with_number x ys) → Rises (cond b (x ∷ y ∷ ys) (y ∷ with_number x ys))
    placed true is rest = AllPairs-cons (λ a b. a ≤ℤ b) x (y ∷ ys) (front (grind (arith, ints))) up
    placed false is rest = AllPairs-cons (λ a b. a ≤ℤ b) y (with_number x ys) (later (grind (arith, ints))) rest

Rises-rising : (xs : List ℤ) → Rises (in_rising_order xs)
Rises-rising [] = λ i j d lo hi. absurd (omega arith)
Rises-rising (x ∷ xs) = Rises-with_number x (in_rising_order xs) (Rises-rising xs)

-- a number isn't less than one that is at most as great
not_less : (a b : ℤ) → a ≤ℤ b → is_lt (int_cmp b a) ≡ false
not_less a b h = grind (arith, ints)

pub IsSorted-rising : (xs : List ℤ) → IsSorted int_cmp (in_rising_order xs)
IsSorted-rising xs k d lo hi = not_less (get_or (in_rising_order xs) k d) (get_or (in_rising_order xs) (k + 1) d) (Rises-rising xs k (k + 1) d (omega arith) hi)
