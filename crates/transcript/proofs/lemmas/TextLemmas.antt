-- Texts of lists, element by element: a loop that adds the text of each element adds the text of the list.
use Rattle.std.proofs.Common.{◌≡◌, ℕ, suc, ◌+◌, ◌<◌, List, [], ◌∷◌, ◌++◌, length, take, get_or, sym, ap, ◌∙◌, arith, append_assoc, Option, Some, None}
use Rattle.std.specs.Fmt.{WritesText, AppendsText}
use Rattle.std.proofs.lemmas.Fmt.{contents_after_writes}
use Rattle.std.proofs.lemmas.List.{append-nil, take_more, length-take-le}

-- a format whose pieces are each added is added
pub appended : (format : Option (List ℕ)) (old new : List ℕ) → WritesText (λ before piece after. after ≡ before ++ piece) old format new → AppendsText old new format
appended None old new wrote = tt
appended (Some text) old new wrote = contents_after_writes _ (λ w. w) (λ before piece after added. added) old text new wrote

-- one text is added, and then another
pub followed : (out between new first second : List ℕ) → between ≡ out ++ first → new ≡ between ++ second → new ≡ out ++ (first ++ second)
followed out between new first second one two = rw (two, one) (append_assoc out first second)

-- the text of a list whose elements are numbered is the texts of its elements, one behind another
pub record IsByOne {A : Type 0} (one : ℕ → A → List ℕ) (all : ℕ → List A → List ℕ) : Type 0 where
  pub none : (n : ℕ) → all n [] ≡ []
  pub more : (n : ℕ) (x : A) (xs : List A) → all n (x ∷ xs) ≡ one n x ++ all (n + 1) xs

by_one-push : {A : Type 0} (one : ℕ → A → List ℕ) (all : ℕ → List A → List ℕ) → IsByOne one all → (n : ℕ) (xs : List A) (x : A) → all n (xs ++ x ∷ []) ≡ all n xs ++ one (n + length xs) x
by_one-push one all by n [] x =
    let zero : n + 0 ≡ n = omega arith in
    rw (zero, by.more n x [], by.none (n + 1), by.none n) (append-nil (one n x))
by_one-push one all by n (y ∷ xs) x =
    let same : n + suc (length xs) ≡ n + 1 + length xs = omega arith in
    rw (by.more n y (xs ++ x ∷ []), by.more n y xs, by_one-push one all by (n + 1) xs x, same) (sym (append_assoc (one n y) (all (n + 1) xs) (one (n + 1 + length xs) x)))

pub numbered-grown : {A : Type 0} (one : ℕ → A → List ℕ) (all : ℕ → List A → List ℕ) → IsByOne one all → (n : ℕ) (xs : List A) (i number : ℕ) (d : A) (front out new : List ℕ) → i < length xs → number ≡ n + i
    → out ≡ front ++ all n (take i xs) → new ≡ out ++ one number (get_or xs i d) → new ≡ front ++ all n (take (i + 1) xs)
numbered-grown one all by n xs i number d front out new lt number_is is more =
    let len : n + length (take i xs) ≡ n + i = omega (arith, length-take-le i xs) in
    rw (more, number_is, is, take_more xs i d lt, by_one-push one all by n (take i xs) (get_or xs i d)) (rw len (append_assoc front (all n (take i xs)) (one (n + i) (get_or xs i d))))

-- the same where they are not numbered
pub grown : {A : Type 0} (one : A → List ℕ) (all : List A → List ℕ) → all [] ≡ [] → ((x : A) (xs : List A) → all (x ∷ xs) ≡ one x ++ all xs) → (xs : List A) (i : ℕ) (d : A) (front out new : List ℕ) → i < length xs
    → out ≡ front ++ all (take i xs) → new ≡ out ++ one (get_or xs i d) → new ≡ front ++ all (take (i + 1) xs)
grown one all none more xs i d front out new lt is is_more =
    numbered-grown (λ n x. one x) (λ n xs. all xs) (record { none = λ n. none; more = λ n x xs. more x xs }) 0 xs i i d front out new lt (omega arith) is is_more

-- the same for an element that was lent
pub numbered-met : {A : Type 0} (one : ℕ → A → List ℕ) (all : ℕ → List A → List ℕ) → IsByOne one all → (n : ℕ) (xs : List A) (i number : ℕ) (x : A) (front out new : List ℕ) → i < length xs → number ≡ n + i → x ≡ get_or xs i x
    → out ≡ front ++ all n (take i xs) → new ≡ out ++ one number x → new ≡ front ++ all n (take (i + 1) xs)
numbered-met {A} one all by n xs i number x front out new lt number_is here is more =
    numbered-grown one all by n xs i number x front out new lt number_is is (more ∙ ap (λ (y : A). out ++ one number y) here)

pub met : {A : Type 0} (one : A → List ℕ) (all : List A → List ℕ) → all [] ≡ [] → ((x : A) (xs : List A) → all (x ∷ xs) ≡ one x ++ all xs) → (xs : List A) (i : ℕ) (x : A) (front out new : List ℕ) → i < length xs → x ≡ get_or xs i x
    → out ≡ front ++ all (take i xs) → new ≡ out ++ one x → new ≡ front ++ all (take (i + 1) xs)
met one all none more xs i x front out new lt here is is_more =
    numbered-met (λ n x. one x) (λ n xs. all xs) (record { none = λ n. none; more = λ n x xs. more x xs }) 0 xs i i x front out new lt (omega arith) here is is_more
