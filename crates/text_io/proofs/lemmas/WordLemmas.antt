-- How a line falls into words from its front.
use Rattle.std.proofs.Common.{◌≡◌, ℕ, suc, ◌+◌, ◌<◌, ◌≤◌, List, [], ◌∷◌, length, take, drop, Bool, true, false, cond, not, Some, None, nat_lt, refl, sym, ap, ◌∙◌, arith, lt-ltb, length-drop}
use Rattle.std.proofs.lemmas.Bool.{ltb-true, ltb-false}
use Rattle.std.proofs.lemmas.List.Sums.{prefix_len-le-length}
use Rattle.std.proofs.lemmas.List.Folds.{length-prefix_len}
use Rattle.std.proofs.lemmas.List.Splits.{slice_split-cons_yes, slice_split-cons_no}
use Rattle.std.specs.List.{filter, slice_split, position_or_len, position, onto_first}
use Rattle.text_io.specs.TextLines.{is_filled}

-- a search, by whether it found
found_step : (n len m : ℕ) (v : Bool) → nat_lt n len ≡ v → Some m ≡ cond v (Some n) None → (m ≡ n) × (m < len)
found_step n len m true is some =
    let same : m ≡ n = cc in
    let within : n < len = ltb-true n len is in
    (same, omega arith)
found_step n len m false is some = cc

pub found : (p : ℕ → Bool) (xs : List ℕ) (m : ℕ) → Some m ≡ position p xs → (m ≡ position_or_len p xs) × (m < length xs)
found p xs m some = found_step (position_or_len p xs) (length xs) m (nat_lt (position_or_len p xs) (length xs)) refl some

missed_step : (n len : ℕ) → n ≤ len → (v : Bool) → nat_lt n len ≡ v → None ≡ cond v (Some n) None → n ≡ len
missed_step n len within true is none = cc
missed_step n len within false is none = let all : len ≤ n = ltb-false n len is in omega arith

pub missed : (p : ℕ → Bool) (xs : List ℕ) → None ≡ position p xs → position_or_len p xs ≡ length xs
missed p xs none = missed_step (position_or_len p xs) (length xs) (prefix_len-le-length (λ x. not (p x)) xs) (nat_lt (position_or_len p xs) (length xs)) refl none

one_more : (n : ℕ) → 1 + n ≡ suc n
one_more n = omega arith

-- the words by a test of what stands between them
abbrev pub parts : (ℕ → Bool) → List ℕ → List (List ℕ)
parts p xs = filter is_filled (slice_split p xs)

-- how much stands before the first that fails
abbrev pub skipped : (ℕ → Bool) → List ℕ → ℕ
skipped p xs = position_or_len (λ x. not (p x)) xs

skip_step : (p : ℕ → Bool) (x : ℕ) (xs : List ℕ) → parts p (drop (skipped p xs) xs) ≡ parts p xs → (v : Bool) → p x ≡ v
    → parts p (drop (cond (not (not v)) (1 + skipped p xs) 0) (x ∷ xs)) ≡ filter is_filled (cond v ([] ∷ slice_split p xs) (onto_first x (slice_split p xs)))
skip_step p x xs same true is = rw (one_more (skipped p xs)) same
skip_step p x xs same false is = ap (filter is_filled) (slice_split-cons_no p x xs is)

-- what stands at the front and passes makes no part
pub skip : (p : ℕ → Bool) (xs : List ℕ) → parts p (drop (skipped p xs) xs) ≡ parts p xs
skip p [] = refl
skip p (x ∷ xs) = skip_step p x xs (skip p xs) (p x) refl

-- the first piece, and the rest
record Run (p : ℕ → Bool) (xs : List ℕ) (e : ℕ) : Type 0 where
  rest : List (List ℕ)
  cut : slice_split p xs ≡ take e xs ∷ rest
  same : filter is_filled rest ≡ parts p (drop e xs)

run_step : (p : ℕ → Bool) (x : ℕ) (xs : List ℕ) → Run p xs (position_or_len p xs) → (v : Bool) → p x ≡ v → Run p (x ∷ xs) (cond (not v) (1 + position_or_len p xs) 0)
run_step p x xs run true is = record { rest = slice_split p xs; cut = slice_split-cons_yes p x xs is; same = sym (ap (filter is_filled) (slice_split-cons_yes p x xs is)) }
run_step p x xs run false is =
    let whole : Run p (x ∷ xs) (suc (position_or_len p xs)) = record { rest = run.rest; cut = slice_split-cons_no p x xs is ∙ ap (onto_first x) run.cut; same = run.same } in
    rw (one_more (position_or_len p xs)) whole

run : (p : ℕ → Bool) (xs : List ℕ) → Run p xs (position_or_len p xs)
run p [] = record { rest = []; cut = refl; same = refl }
run p (x ∷ xs) = run_step p x xs (run p xs) (p x) refl

-- what stands before the first that passes is the first part, where it isn't empty
pub first_part : (p : ℕ → Bool) (xs : List ℕ) → 0 < position_or_len p xs → parts p xs ≡ take (position_or_len p xs) xs ∷ parts p (drop (position_or_len p xs) xs)
first_part p xs some =
    let first = run p xs in
    let len : length (take (position_or_len p xs) xs) ≡ position_or_len p xs = length-prefix_len (λ x. not (p x)) xs in
    let filled : nat_lt 0 (length (take (position_or_len p xs) xs)) ≡ true = rw len (lt-ltb _ _ some) in
    ap (filter is_filled) first.cut ∙ rw filled (ap (λ ps. take (position_or_len p xs) xs ∷ ps) first.same)

front_step : (p : ℕ → Bool) (x : ℕ) (xs : List ℕ) → (0 < length (drop (skipped p xs) xs) → 0 < position_or_len p (drop (skipped p xs) xs)) → (v : Bool) → p x ≡ v
    → 0 < length (drop (cond (not (not v)) (1 + skipped p xs) 0) (x ∷ xs)) → 0 < position_or_len p (drop (cond (not (not v)) (1 + skipped p xs) 0) (x ∷ xs))
front_step p x xs more true is = rw (one_more (skipped p xs)) more
front_step p x xs more false is = λ _. rw is (let some : 0 < 1 + position_or_len p xs = omega arith in some)

-- the first that is left fails
pub front : (p : ℕ → Bool) (xs : List ℕ) → 0 < length (drop (skipped p xs) xs) → 0 < position_or_len p (drop (skipped p xs) xs)
front p [] = λ some. absurd (omega arith)
front p (x ∷ xs) = front_step p x xs (front p xs) (p x) refl

pub no_parts : (p : ℕ → Bool) (xs : List ℕ) → length xs ≡ 0 → parts p xs ≡ []
no_parts p [] none = refl
no_parts p (x ∷ xs) none = absurd (omega arith)

-- nothing but blanks
pub no_more : (p : ℕ → Bool) (xs : List ℕ) → None ≡ position (λ x. not (p x)) xs → parts p xs ≡ []
no_more p xs none =
    let all : skipped p xs ≡ length xs = missed (λ x. not (p x)) xs none in
    let empty : length (drop (skipped p xs) xs) ≡ 0 = omega (arith, length-drop (skipped p xs) xs) in
    sym (skip p xs) ∙ no_parts p (drop (skipped p xs) xs) empty

-- the first part begins at the first that fails, and ends before the next that passes
pub one_part : (p : ℕ → Bool) (xs from part rest : List ℕ) (b : ℕ) → Some b ≡ position (λ x. not (p x)) xs → from ≡ drop b xs
    → part ≡ take (position_or_len p from) from → rest ≡ drop (position_or_len p from) from → parts p xs ≡ part ∷ parts p rest
one_part p xs from part rest b some is part_is rest_is =
    let at = found (λ x. not (p x)) xs b some in
    let from_is : from ≡ drop (skipped p xs) xs = rw (← at.0) is in
    let left : 0 < length (drop (skipped p xs) xs) = omega (arith, length-drop (skipped p xs) xs, at.0, at.1) in
    let filled : 0 < position_or_len p from = rw from_is (front p xs left) in
    sym (skip p xs) ∙ sym (ap (parts p) from_is) ∙ first_part p from filled ∙ rw (part_is, rest_is) refl
