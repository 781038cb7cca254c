-- Two lists in rising order that are permutations of each other are equal.
use Rattle.std.proofs.Common.{◌≡◌, ℕ, ℤ, ◌+◌, ◌≤ℤ◌, int_lt, false, cond, List, [], ◌∷◌, length, suc, arith, refl, sym, ap, ◌∙◌, get_or, sum_by, Some, All, IsPermutation, IsSorted}
use Rattle.std.proofs.lemmas.Int.{ints}
use Rattle.std.proofs.lemmas.List.Elements.{All-cons}
use Rattle.std.proofs.lemmas.List.Sorted.{sum_by-IsPermutation}
use Rattle.std.proofs.lemmas.List.Sums.{sum_by-cons}
use native.Mathlib.Numerals.{unary_clauses}
use Rattle.std.specs.Ordering.{int_cmp, is_lt}
use Rattle.ptp_profile.specs.Timing.OffsetAndDelay.{in_rising_order, middle, median}
use Rattle.ptp_profile.proofs.lemmas.MedianLemmas.{IsPermutation-rising, IsSorted-rising}

tail_sorted : (a : ℤ) (xs : List ℤ) → IsSorted int_cmp (a ∷ xs) → IsSorted int_cmp xs
tail_sorted a xs up k d lo hi = let next = up (suc k) d (omega arith) (omega arith) in simp unary_clauses (simp unary_clauses at next)

-- a number isn't above one that isn't less
not_above : (a b : ℤ) → is_lt (int_cmp b a) ≡ false → a ≤ℤ b
not_above a b h = grind (arith, ints)

-- the first is the least
first_least : (a : ℤ) (xs : List ℤ) → IsSorted int_cmp (a ∷ xs) → All (λ z. a ≤ℤ z) xs
first_least a [] up = λ k d h. absurd (omega arith)
first_least a (b ∷ xs) up =
    let le : a ≤ℤ b = not_above a b (up 0 a (omega arith) (omega arith)) in
    let far : All (λ z. b ≤ℤ z) xs = first_least b xs (tail_sorted a (b ∷ xs) up) in
    All-cons (λ z. a ≤ℤ z) b xs le (λ k d h. let more : b ≤ℤ get_or xs k d = far k d h in omega (arith, ints, more, le))

-- 1 for a number below another
abbrev below : ℤ → ℤ → ℕ
below a x = cond (int_lt x a) 1 0

below_none : (a x : ℤ) → a ≤ℤ x → below a x ≡ 0
below_none a x h = grind (arith, ints)

not_below : (a x : ℤ) → below a x ≡ 0 → a ≤ℤ x
not_below a x h = grind (arith, ints)

none_below : (a : ℤ) (xs : List ℤ) → All (λ z. a ≤ℤ z) xs → sum_by (below a) xs ≡ 0
none_below a [] all = refl
none_below a (x ∷ xs) all =
    let one : below a x ≡ 0 = below_none a x (all 0 x (omega arith)) in
    let rest : sum_by (below a) xs ≡ 0 = none_below a xs (λ k d h. all (suc k) d (omega arith)) in
    sum_by-cons (below a) x xs ∙ omega (arith, one, rest)

abbrev HaveSums : List ℤ → List ℤ → Type 0
HaveSums xs ys = (f : ℤ → ℕ) → sum_by f xs ≡ sum_by f ys

-- the first of one list is at most that of the other
first_le : (a b : ℤ) (xs ys : List ℤ) → IsSorted int_cmp (a ∷ xs) → HaveSums (a ∷ xs) (b ∷ ys) → a ≤ℤ b
first_le a b xs ys up same =
    let own : below a a ≡ 0 = below_none a a (omega (arith, ints)) in
    let none : sum_by (below a) xs ≡ 0 = none_below a xs (first_least a xs up) in
    let sums : below a a + sum_by (below a) xs ≡ below a b + sum_by (below a) ys = sym (sum_by-cons (below a) a xs) ∙ same (below a) ∙ sum_by-cons (below a) b ys in
    not_below a b (omega (arith, own, none, sums))

both_first : (a b : ℤ) → a ≤ℤ b → b ≤ℤ a → a ≡ b
both_first a b le ge = omega (arith, ints)

pub sorted_alike : (xs ys : List ℤ) → IsSorted int_cmp xs → IsSorted int_cmp ys → HaveSums xs ys → xs ≡ ys
sorted_alike [] [] up rise same = refl
sorted_alike [] (b ∷ ys) up rise same = let sums : 0 ≡ 1 + sum_by (λ z. 1) ys = same (λ z. 1) ∙ sum_by-cons (λ z. 1) b ys in absurd (omega (arith, sums))
sorted_alike (a ∷ xs) [] up rise same = let sums : 1 + sum_by (λ z. 1) xs ≡ 0 = sym (sum_by-cons (λ z. 1) a xs) ∙ same (λ z. 1) in absurd (omega (arith, sums))
sorted_alike (a ∷ xs) (b ∷ ys) up rise same =
    let first : a ≡ b = both_first a b (first_le a b xs ys up same) (first_le b a ys xs rise (λ f. sym (same f))) in
    let rest : xs ≡ ys = sorted_alike xs ys (tail_sorted a xs up) (tail_sorted b ys rise)
    (λ f. let all : f a + sum_by f xs ≡ f b + sum_by f ys = sym (sum_by-cons f a xs) ∙ same f ∙ sum_by-cons f b ys in let one : f a ≡ f b = ap f first in omega (arith, all, one)) in
    ap (λ z. z ∷ xs) first ∙ ap (λ (zs : List ℤ). b ∷ zs) rest

-- what a sort leaves is the numbers in rising order
pub sorted_is_rising : (xs ys : List ℤ) → IsPermutation xs ys → IsSorted int_cmp ys → ys ≡ in_rising_order xs
sorted_is_rising xs ys moved up =
    sorted_alike ys (in_rising_order xs) up (IsSorted-rising xs)
    (λ f. sum_by-IsPermutation f xs ys moved ∙ sym (sum_by-IsPermutation f xs (in_rising_order xs) (IsPermutation-rising xs)))

pub median_sorted : (x : ℤ) (xs ys : List ℤ) → IsPermutation (x ∷ xs) ys → IsSorted int_cmp ys → Some (middle ys) ≡ median (x ∷ xs)
median_sorted x xs ys moved up = ap (λ (zs : List ℤ). Some (middle zs)) (sorted_is_rising (x ∷ xs) ys moved up)

-- the same of a list that isn't empty
pub median_of_sorted : (xs ys : List ℤ) → (length xs ≡ 0 → ⊥) → IsPermutation xs ys → IsSorted int_cmp ys → Some (middle ys) ≡ median xs
median_of_sorted [] ys some moved up = absurd (some refl)
median_of_sorted (x ∷ xs) ys some moved up = median_sorted x xs ys moved up
