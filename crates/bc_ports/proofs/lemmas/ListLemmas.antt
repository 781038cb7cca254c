-- The next element of a list.
use Rattle.std.proofs.Common.{◌≡◌, ℕ, zero, suc, ◌<◌, ◌≤◌, List, [], ◌∷◌, length, drop, get_or, refl, arith}

pub drop-next : {X : Type 0} (xs : List X) (i : ℕ) (d : X) → i < length xs → drop i xs ≡ get_or xs i d ∷ drop (suc i) xs
drop-next [] i d lt = absurd (omega arith)
drop-next (y ∷ xs) zero d lt = refl
drop-next (y ∷ xs) (suc i) d lt = drop-next xs i d (omega arith)

pub drop-end : {X : Type 0} (xs : List X) (i : ℕ) → length xs ≤ i → drop i xs ≡ []
drop-end [] zero le = refl
drop-end [] (suc i) le = refl
drop-end (y ∷ xs) zero le = absurd (omega arith)
drop-end (y ∷ xs) (suc i) le = drop-end xs i (omega arith)
