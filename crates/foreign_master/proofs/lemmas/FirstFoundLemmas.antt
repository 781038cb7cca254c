-- What a search for the first that passes a test gives.
use Rattle.std.proofs.Common.{◌≡◌, ℕ, ◌<◌, ◌≤◌, Bool, true, false, not, cond, ltb, List, length, get_or, Some, None, refl, sym, ap, subst, ◌∙◌, arith}
use Rattle.std.specs.List.{position, position_or_len, find, slice_get}
use Rattle.std.proofs.lemmas.List.Sums.{passes_at_first, fails_before_first, prefix_len-le-length}
use Rattle.std.proofs.lemmas.List.Folds.{find_at}
use Rattle.std.proofs.lemmas.Option.{same_Some, slice_get-get_or}
use Rattle.std.proofs.lemmas.Bool.{ltb-true, ltb-false}
use Rattle.foreign_master.proofs.lemmas.SearchAfterWriteLemmas.{find_past_end}

-- it is the first place, and within the list
pub first_of : {X : Type 0} (p : X → Bool) (xs : List X) (n : ℕ) →
    Some n ≡ position p xs → (n ≡ position_or_len p xs) × (n < length xs)
first_of p xs n e =
    elim (ltb (position_or_len p xs) (length xs)) as (λ b.
    ltb (position_or_len p xs) (length xs) ≡ b → Some n ≡ cond b (Some (position_or_len p xs)) None → (n ≡ position_or_len p xs) × (n < length xs)) [
      | true ↦ λ test found.
          let same = same_Some n (position_or_len p xs) found in
          (same, subst (λ k. k < length xs) (sym same) (ltb-true _ _ test))
      | false ↦ λ test found. absurd cc
    ] refl e

-- the search went to the end
past_all : {X : Type 0} (p : X → Bool) (xs : List X) → None ≡ position p xs → length xs ≤ position_or_len p xs
past_all p xs e =
    elim (ltb (position_or_len p xs) (length xs)) as (λ b.
    ltb (position_or_len p xs) (length xs) ≡ b → None ≡ cond b (Some (position_or_len p xs)) None → length xs ≤ position_or_len p xs) [
      | true ↦ λ test found. absurd cc
      | false ↦ λ test found. ltb-false _ _ test
    ] refl e

-- where none is found, that is where the list ends
pub end_of : {X : Type 0} (p : X → Bool) (xs : List X) → None ≡ position p xs → length xs ≡ position_or_len p xs
end_of p xs e = omega (arith, past_all p xs e, prefix_len-le-length (λ x. not (p x)) xs)

pub passes_there : {X : Type 0} (p : X → Bool) (xs : List X) (n : ℕ) (d : X) → Some n ≡ position p xs → p (get_or xs n d) ≡ true
passes_there p xs n d e =
    let there = first_of p xs n e in
    subst (λ k. p (get_or xs k d) ≡ true) (sym there.0) (passes_at_first p xs d (subst (λ k. k < length xs) there.0 there.1))

pub found_there : {X : Type 0} (p : X → Bool) (xs : List X) (n : ℕ) (d : X) → Some n ≡ position p xs → find p xs ≡ Some (get_or xs n d)
found_there p xs n d e =
    let there = first_of p xs n e in
    find_at p xs ∙ ap (slice_get xs) (sym there.0) ∙ slice_get-get_or xs n d there.1

pub found_none : {X : Type 0} (p : X → Bool) (xs : List X) → None ≡ position p xs → find p xs ≡ None
found_none p xs e =
    let past = past_all p xs e in
    let within = prefix_len-le-length (λ x. not (p x)) xs in
    let end : position_or_len p xs ≡ length xs = omega arith in
    find_past_end p xs end

pub fails_all : {X : Type 0} (p : X → Bool) (xs : List X) → None ≡ position p xs → (k : ℕ) (d : X) → k < length xs → p (get_or xs k d) ≡ false
fails_all p xs e k d l =
    let past = past_all p xs e in
    fails_before_first p xs k d (omega arith)
