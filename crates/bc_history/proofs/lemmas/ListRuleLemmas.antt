-- Lists whose last element is changed, and lists with one more element.
use Rattle.std.proofs.Common.{◌≡◌, ℕ, ◌+◌, ◌-◌, ◌<◌, List, [], ◌∷◌, ◌++◌, length, get_or, Option, Some, None, refl, sym, ◌∙◌, ap, arith, inl, inr}
use Rattle.std.specs.Prelude.{slice_get}
use Rattle.std.specs.List.{All}
use Rattle.std.specs.Option.{IfSome}
use Rattle.std.proofs.lemmas.Bool.{cases_eq}
use Rattle.std.proofs.lemmas.List.{length-set, get_or-set_other, length_push, get_or_push}
use Rattle.std.proofs.lemmas.List.Elements.{All-set, All-push}
use Rattle.std.proofs.lemmas.Option.{slice_get_within, get_or_from_slice_get, slice_get-get_or}
use Rattle.std.proofs.lemmas.Grind.{get_or-set_at}
use Rattle.bc_history.specs.Scenario.Draft.{with_last}
use Rattle.bc_history.specs.Scenario.LineFaults.{and_one}

length_found : {T : Type 0} (f : T → T) (xs : List T) (found : Option T) → slice_get xs (length xs - 1) ≡ found → length (with_last f xs) ≡ length xs
length_found f xs None e = rw e refl
length_found f xs (Some x) e = rw e (length-set xs (length xs - 1) (f x))

pub length-last : {T : Type 0} (f : T → T) (xs : List T) → length (with_last f xs) ≡ length xs
length-last f xs = length_found f xs (slice_get xs (length xs - 1)) refl

all_found : {T : Type 0} (P : T → Type 0) (f : T → T) → ((x : T) → P x → P (f x)) → (xs : List T) (found : Option T) → slice_get xs (length xs - 1) ≡ found → All P xs → All P (with_last f xs)
all_found P f keep xs None e h = rw e h
all_found P f keep xs (Some x) e h =
    let there : P x = rw (get_or_from_slice_get xs (length xs - 1) x x e) at (h (length xs - 1) x (slice_get_within xs (length xs - 1) x e)) in
    rw e (All-set P xs (length xs - 1) (f x) (keep x there) h)

-- what a change keeps, it keeps of all when it changes the last
pub all-last : {T : Type 0} (P : T → Type 0) (f : T → T) → ((x : T) → P x → P (f x)) → (xs : List T) → All P xs → All P (with_last f xs)
all-last P f keep xs h = all_found P f keep xs (slice_get xs (length xs - 1)) refl h

same_found : {T : Type 0} (g : T → ℕ) (f : T → T) → ((x : T) → g (f x) ≡ g x) → (xs : List T) (found : Option T) → slice_get xs (length xs - 1) ≡ found → (i : ℕ) (d : T) → g (get_or (with_last f xs) i d) ≡ g (get_or xs i d)
same_found g f keep xs None e i d = rw e refl
same_found g f keep xs (Some x) e i d =
    let within : length xs - 1 < length xs = slice_get_within xs (length xs - 1) x e in
    let here : get_or xs (length xs - 1) d ≡ x = get_or_from_slice_get xs (length xs - 1) x d e in
    rw e (elim (cases_eq i (length xs - 1)) [
      | inl same ↦ ap g (get_or-set_at xs (length xs - 1) i (f x) d same within) ∙ keep x ∙ sym (ap g (ap (λ k. get_or xs k d) same ∙ here))
      | inr other ↦ ap g (get_or-set_other xs (length xs - 1) i (f x) d other)
    ])

pub same-last : {T : Type 0} (g : T → ℕ) (f : T → T) → ((x : T) → g (f x) ≡ g x) → (xs : List T) (i : ℕ) (d : T) → g (get_or (with_last f xs) i d) ≡ g (get_or xs i d)
same-last g f keep xs = same_found g f keep xs (slice_get xs (length xs - 1)) refl

-- one more, or none
pub all-and_one : {T : Type 0} (P : T → Type 0) (xs : List T) (x : Option T) → All P xs → IfSome x P → All P (and_one xs x)
all-and_one P xs None h one = h
all-and_one P xs (Some x) h one = All-push P xs x h one

pub last_of_push : {T : Type 0} (xs : List T) (x : T) → slice_get (xs ++ x ∷ []) (length (xs ++ x ∷ []) - 1) ≡ Some x
last_of_push xs x =
    let more : length (xs ++ x ∷ []) ≡ length xs + 1 = length_push xs x in
    let at : length (xs ++ x ∷ []) - 1 ≡ length xs = omega (arith, more) in
    let within : length xs < length (xs ++ x ∷ []) = omega (arith, more) in
    ap (slice_get (xs ++ x ∷ [])) at ∙ slice_get-get_or (xs ++ x ∷ []) (length xs) x within ∙ ap Some (get_or_push xs x x (length xs) refl)
