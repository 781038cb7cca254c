-- Ticks that rise, told by tests: those of each master are those of master 0, moved.
use Rattle.std.proofs.Common.{◌≡◌, ℕ, zero, suc, ◌+◌, ◌<◌, ◌≤◌, Bool, true, false, ◌&&◌, nat_lt, List, [], ◌∷◌, All, map, length, get_or, refl, arith}
use Rattle.std.specs.List.{list_all}
use Rattle.std.specs.List.Sorted.{IsStrictlyIncreasing}
use Rattle.std.proofs.lemmas.Bool.{ltb-true}
use Rattle.std.proofs.lemmas.List.Elements.{All-map}
use Rattle.std.proofs.lemmas.List.Sums.{AllPass-from_list_all}
use Rattle.bc_gen.specs.MadeRecords.{beginning}

-- each number is below the next
abbrev pub rises : List ℕ → Bool
rises [] = true
rises (x ∷ []) = true
rises (x ∷ y ∷ ys) = nat_lt x y && rises (y ∷ ys)

both : (a b : Bool) → (a && b) ≡ true → (a ≡ true) × (b ≡ true)
both true b is = (refl, is)
both false true is = (is, refl)
both false false is = (is, is)

-- numbers that rise still rise where each is as much greater
pub increasing : (b : ℕ) (xs : List ℕ) → rises xs ≡ true → IsStrictlyIncreasing (map (λ x. b + x) xs)
increasing b [] is k less = omega (arith, less)
increasing b (x ∷ []) is k less = omega (arith, less)
increasing b (x ∷ y ∷ ys) is zero less =
    let first : x < y = ltb-true x y ((both (nat_lt x y) (rises (y ∷ ys)) is).0) in
    omega (arith, first)
increasing b (x ∷ y ∷ ys) is (suc k) less =
    let same : suc k + 1 ≡ suc (k + 1) = omega arith in
    let fewer : k + 1 < length (map (λ x. b + x) (y ∷ ys)) = omega (arith, less) in
    rw same (increasing b (y ∷ ys) ((both (nat_lt x y) (rises (y ∷ ys)) is).1) k fewer)

-- numbers below 20 seconds lie, behind the beginning of a master, before that of the next
pub within : (e : ℕ) (xs : List ℕ) → list_all (λ x. nat_lt x 20000000000) xs ≡ true → All (λ (t : ℕ). (beginning e ≤ t) × (t < beginning (e + 1))) (map (λ x. beginning e + x) xs)
within e xs is = All-map (λ (t : ℕ). (beginning e ≤ t) × (t < beginning (e + 1))) (λ x. beginning e + x) xs (λ k d less.
    let below : get_or xs k d < 20000000000 = ltb-true (get_or xs k d) 20000000000 (AllPass-from_list_all (λ x. nat_lt x 20000000000) xs is k d less) in
    (omega arith, omega (arith, below)))
