-- Numbers as they are printed: what their readers make of them, and that no space stands in them.
use Rattle.std.proofs.Common.{◌≡◌, ℕ, suc, ℤ, pos, negsuc, ◌+◌, ◌-◌, ◌*◌, ◌/◌, ◌%◌, ◌^◌, ◌<◌, ◌≤◌, Bool, true, false, not, nat_eq, List, [], ◌∷◌, ◌++◌, codes, Some, refl, ap, ◌∙◌, arith, lt-ltb}
use Rattle.std.proofs.lemmas.Int.{ints}
use Rattle.std.specs.Fmt.{decimal, signed_decimal}
use Rattle.std.specs.Char.{is_ascii_digit}
use Rattle.std.specs.List.{list_all, starts_with}
use Rattle.std.proofs.lemmas.Fmt.{decimal_by_steps_wide}
use Rattle.std.proofs.lemmas.List.Sums.{fold-append}
use Rattle.std.proofs.lemmas.List.Folds.{list_all-append}
use Rattle.bc_history.specs.Scenario.SectionHeaders.{is_word}
use Rattle.transcript.specs.TypedLines.{IsWithin, IsWithinSigned}
use Rattle.transcript.specs.WordReaders.{with_digit, natural_of, number_of, fits, integer_of, signed_of}

-- no space among them
abbrev pub is_plain : List ℕ → Bool
is_plain word = list_all (λ octet. not (nat_eq octet 32)) word

-- ---- digits

digit_is : (d : ℕ) → d < 10 → is_ascii_digit (48 + d) ≡ true
digit_is d less = grind arith

-- a digit more
digit_step : (v d : ℕ) → d < 10 → v * 10 + d < 2 ^ 128 → with_digit (Some v) (48 + d) ≡ Some (v * 10 + d)
digit_step v d less small =
    let same : 48 + d - 48 ≡ d = omega arith in
    rw (digit_is d less, same, lt-ltb _ _ small) refl

natural_more : (n : ℕ) (ds : List ℕ) → 10 ≤ n → (n / 10 < 2 ^ 128 → natural_of ds ≡ Some (n / 10)) → n < 2 ^ 128 → natural_of (ds ++ ((48 + n % 10) ∷ [])) ≡ Some n
natural_more n ds large before small =
    let so_far : natural_of ds ≡ Some (n / 10) = before (omega arith) in
    let whole : n / 10 * 10 + n % 10 ≡ n = omega arith in
    fold-append with_digit (Some 0) ds ((48 + n % 10) ∷ []) ∙ ap (λ o. with_digit o (48 + n % 10)) so_far
    ∙ digit_step (n / 10) (n % 10) (omega arith) (omega (arith, whole)) ∙ ap Some whole

pub natural-decimal : (n : ℕ) → n < 2 ^ 128 → natural_of (decimal n) ≡ Some n
natural-decimal n small =
    decimal_by_steps_wide (λ m ds. m < 2 ^ 128 → natural_of ds ≡ Some m)
    (λ m less small. let same : 0 * 10 + m ≡ m = omega arith in digit_step 0 m less (omega arith) ∙ ap Some same)
    natural_more n (omega arith) small

digits_more : (n : ℕ) (ds : List ℕ) → 10 ≤ n → list_all is_ascii_digit ds ≡ true → list_all is_ascii_digit (ds ++ ((48 + n % 10) ∷ [])) ≡ true
digits_more n ds large before = list_all-append is_ascii_digit ds ((48 + n % 10) ∷ []) ∙ rw (before, digit_is (n % 10) (omega arith)) refl

digits-decimal : (n : ℕ) → n < 2 ^ 128 → list_all is_ascii_digit (decimal n) ≡ true
digits-decimal n small =
    decimal_by_steps_wide (λ m ds. list_all is_ascii_digit ds ≡ true) (λ m less. rw (digit_is m less) refl) digits_more n (omega arith)

digit_plain : (c : ℕ) → is_ascii_digit c ≡ true → not (nat_eq c 32) ≡ true
digit_plain c digit = grind arith

digits_plain : (ds : List ℕ) → list_all is_ascii_digit ds ≡ true → is_plain ds ≡ true
digits_plain [] all = refl
digits_plain (c ∷ ds) all = grind (arith, digit_plain, digits_plain ds)

pub plain-decimal : (n : ℕ) → n < 2 ^ 128 → is_plain (decimal n) ≡ true
plain-decimal n small = digits_plain (decimal n) (digits-decimal n small)

-- ---- numbers of a type

pub number-decimal : (bits n : ℕ) → bits ≤ 128 → n < 2 ^ 128 → IsWithin bits n → number_of bits (decimal n) ≡ Some n
number-decimal bits n few small within = rw (natural-decimal n small, lt-ltb _ _ within) refl

no_name : (ds : List ℕ) → list_all is_ascii_digit ds ≡ true → is_word ds (codes "none") ≡ false
no_name [] all = refl
no_name (c ∷ ds) all = let no : nat_eq c 110 ≡ false = grind arith in rw no refl

-- a number is no name
pub number_no_name : (n : ℕ) → IsWithin 32 n → is_word (decimal n) (codes "none") ≡ false
number_no_name n within = no_name (decimal n) (digits-decimal n (omega (arith, within)))

-- ---- signed numbers

no_sign : (ds : List ℕ) → list_all is_ascii_digit ds ≡ true → starts_with nat_eq ds (codes "-") ≡ false
no_sign [] all = refl
no_sign (c ∷ ds) all = grind arith

pub fits_within : (bits : ℕ) (z : ℤ) → IsWithinSigned bits z → fits bits z ≡ true
fits_within bits (pos n) within = lt-ltb _ _ (omega (arith, ints, within.1))
fits_within bits (negsuc n) within = lt-ltb _ _ (omega (arith, ints, within.0))

pub integer-signed : (z : ℤ) → IsWithinSigned 127 z → integer_of (signed_decimal z) ≡ Some z
integer-signed (pos n) within =
    let small : n < 2 ^ 127 = omega (arith, ints, within.1) in
    rw (no_sign (decimal n) (digits-decimal n (omega arith)), natural-decimal n (omega arith), lt-ltb _ _ small) refl
integer-signed (negsuc n) within =
    let small : n < 2 ^ 127 = omega (arith, ints, within.0) in
    rw (natural-decimal (suc n) (omega arith), lt-ltb _ _ small) refl

pub plain-signed : (z : ℤ) → IsWithinSigned 127 z → is_plain (signed_decimal z) ≡ true
plain-signed (pos n) within = plain-decimal n (omega (arith, ints, within.1))
plain-signed (negsuc n) within = plain-decimal (suc n) (omega (arith, ints, within.0))

-- a narrower signed number is a wider one
pub wider : (z : ℤ) → IsWithinSigned 63 z → IsWithinSigned 127 z
wider (pos n) within = (omega (arith, ints, within.0), omega (arith, ints, within.1))
wider (negsuc n) within = (omega (arith, ints, within.0), omega (arith, ints, within.1))

pub signed-decimal : (z : ℤ) → IsWithinSigned 63 z → signed_of 63 (signed_decimal z) ≡ Some z
signed-decimal z within = rw (integer-signed z (wider z within), fits_within 63 z within) refl
