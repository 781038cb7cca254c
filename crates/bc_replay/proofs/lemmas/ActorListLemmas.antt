-- Lists of actors: one is changed, and one more is looked at.
use Rattle.std.proofs.Common.{◌≡◌, ◌≢◌, ℕ, zero, suc, ◌+◌, refl, sym, ap, ◌∙◌, subst, arith, List, [], ◌∷◌, ◌++◌, take, Some, slice_get, add-one}
use Rattle.std.specs.Prelude.{map, slice_set}
use Rattle.std.proofs.Math.Seq.{take-suc}
use Rattle.std.proofs.lemmas.Option.{slice_get_within, get_or_from_slice_get, same_Some}

-- what holds of each other element, and of the one that is set, holds of each element
pub each-set : {X : Type 0} (P : ℕ → X → Type 0) (xs : List X) (i : ℕ) (y : X) → ((j : ℕ) (x : X) → j ≢ i → slice_get xs j ≡ Some x → P j x) → P i y
    → (j : ℕ) (x : X) → slice_get (slice_set xs i y) j ≡ Some x → P j x
each-set P [] i y others one j x there = cc
each-set P (z ∷ xs) zero y others one zero x there = subst (P 0) (same_Some y x there) one
each-set P (z ∷ xs) zero y others one (suc j) x there = others (suc j) x (λ e. cc) there
each-set P (z ∷ xs) (suc i) y others one zero x there = others 0 x (λ e. cc) there
each-set P (z ∷ xs) (suc i) y others one (suc j) x there =
    each-set (λ (k : ℕ). P (suc k)) xs i y (λ k u other at. others (suc k) u (λ e. other (let same : k ≡ i = omega (arith, e) in same)) at) one j x there

-- a function that does not tell the new element from the old one does not tell the lists
pub map-set : {X Y : Type 0} (f : X → Y) (xs : List X) (i : ℕ) (x y : X) → slice_get xs i ≡ Some x → f y ≡ f x → map f (slice_set xs i y) ≡ map f xs
map-set f [] i x y there same = refl
map-set f (z ∷ xs) zero x y there same = ap (λ u. u ∷ map f xs) (same ∙ ap f (sym (same_Some z x there)))
map-set f (z ∷ xs) (suc i) x y there same = ap (λ us. f z ∷ us) (map-set f xs i x y there same)

-- one element more
pub take-more : {X : Type 0} (xs : List X) (i : ℕ) (x : X) → slice_get xs i ≡ Some x → take (i + 1) xs ≡ take i xs ++ x ∷ []
take-more xs i x there =
    rw add-one (take-suc xs i x (slice_get_within xs i x there) ∙ ap (λ u. take i xs ++ u ∷ []) (get_or_from_slice_get xs i x x there))
