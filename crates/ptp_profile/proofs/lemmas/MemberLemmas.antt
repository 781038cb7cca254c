-- Members of lists.
use Rattle.std.proofs.Common.{◌≡◌, ℕ, ◌+◌, List, [], ◌∷◌, Option, Some, None, refl, sym, ap, ◌∙◌, arith, inl, inr, ⊎_elim, zero, suc}
use Rattle.std.specs.Prelude.{◌⊎◌}
use Rattle.std.specs.Option.{option_map}
use Rattle.std.specs.List.{Contains, filter_map, cons_option, slice_get, enumerate_from}
use Rattle.std.proofs.lemmas.Option.{same_Some}

-- x is a member, by recursion on the list
abbrev pub Has : {X : Type 0} → List X → X → Type 0
Has [] x = ⊥
Has (y ∷ ys) x = (y ≡ x) ⊎ Has ys x

pub has_from_contains : {X : Type 0} (xs : List X) (x : X) → Contains xs x → Has xs x
has_from_contains [] x (k, l, e) = absurd (omega arith)
has_from_contains (y ∷ ys) x (zero, l, e) = inl e
has_from_contains (y ∷ ys) x (suc k, l, e) = inr (has_from_contains ys x (k, omega arith, e))

pub contains_from_has : {X : Type 0} (xs : List X) (x : X) → Has xs x → Contains xs x
contains_from_has [] x h = absurd h
contains_from_has (y ∷ ys) x h =
    ⊎_elim
    (λ e. (zero, omega arith, e))
    (λ rest. let found = contains_from_has ys x rest in (suc found.0, (let l = found.1 in omega arith), found.2))
    h

-- ---- what a filter_map gives
pub has_filter_map : {X Y : Type 0} (f : X → Option Y) (xs : List X) (y : Y) → Has (filter_map f xs) y → (x : X) × Has xs x × (f x ≡ Some y)
has_filter_map f [] y h = absurd h
has_filter_map {X} {Y} f (x ∷ xs) y h =
    elim (f x) as (λ o. f x ≡ o → Has (cons_option o (filter_map f xs)) y → (z : X) × Has (x ∷ xs) z × (f z ≡ Some y)) [
      | None ↦ λ e found. let rest = has_filter_map f xs y found in (rest.0, inr rest.1, rest.2)
      | Some v ↦ λ e found. ⊎_elim
          (λ (same : v ≡ y). (x, inl refl, e ∙ ap (λ (t : Y). Some t) same))
          (λ later. let rest = has_filter_map f xs y later in (rest.0, inr rest.1, rest.2))
          found
    ] refl h

pub filter_map_has : {X Y : Type 0} (f : X → Option Y) (xs : List X) (x : X) (y : Y) → Has xs x → f x ≡ Some y → Has (filter_map f xs) y
filter_map_has f [] x y h e = absurd h
filter_map_has {X} {Y} f (z ∷ xs) x y h e =
    elim (f z) as (λ o. f z ≡ o → Has (cons_option o (filter_map f xs)) y) [
      | None ↦ λ none. ⊎_elim
          (λ (same : z ≡ x). let both : None ≡ Some y = sym none ∙ ap f same ∙ e in absurd cc)
          (λ rest. filter_map_has f xs x y rest e)
          h
      | Some v ↦ λ some. ⊎_elim
          (λ (same : z ≡ x). inl (same_Some v y (sym some ∙ ap f same ∙ e)))
          (λ rest. inr (filter_map_has f xs x y rest e))
          h
    ] refl

-- ---- what stands at a place
pub slice_get-enumerate_from : {X : Type 0} (n : ℕ) (xs : List X) (i : ℕ) →
    slice_get (enumerate_from n xs) i ≡ option_map (λ x. (n + i, x)) (slice_get xs i)
slice_get-enumerate_from n [] i = refl
slice_get-enumerate_from {X} n (x ∷ xs) zero = let e : n ≡ n + 0 = omega arith in ap (λ (k : ℕ). let pair : ℕ × X = (k, x) in Some pair) e
slice_get-enumerate_from {X} n (x ∷ xs) (suc i) =
    let e : (n + 1) + i ≡ n + suc i = omega arith in
    slice_get-enumerate_from (n + 1) xs i ∙ ap (λ (k : ℕ). option_map (λ (y : X). let pair : ℕ × X = (k, y) in pair) (slice_get xs i)) e

-- a member stands at some place
pub place_of_has : {X : Type 0} (xs : List X) (x : X) → Has xs x → (i : ℕ) × (slice_get xs i ≡ Some x)
place_of_has [] x h = absurd h
place_of_has {X} (y ∷ ys) x h =
    ⊎_elim
    (λ (e : y ≡ x). (zero, ap (λ (t : X). Some t) e))
    (λ rest. let found = place_of_has ys x rest in (suc found.0, found.1))
    h
