-- Numbers as words of a line: they are whole words, and their readers give them back.
use Rattle.std.proofs.Common.{◌≡◌, ℕ, suc, ℤ, pos, negsuc, ◌-◌, ◌^◌, ◌<◌, ◌≤◌, true, false, nat_eq, nat_le, nat_lt, List, [], ◌∷◌, ◌++◌, codes, length, take, drop, Some, refl, ap, ◌∙◌, arith, lt-ltb, le-leb, length-append}
use Rattle.std.specs.Fmt.{decimal, signed_decimal}
use Rattle.std.specs.Char.{is_digit, digit_value}
use Rattle.std.specs.List.{list_all, starts_with}
use Rattle.std.specs.Str.Parse.{AllDigits}
use Rattle.std.proofs.lemmas.Bool.{and_from}
use Rattle.std.proofs.lemmas.Fmt.{decimal_is_IsNumeral, length-decimal-le}
use Rattle.text_io.specs.Numerals.{number_of, signed_of}
use Rattle.bc_history.specs.Scenario.SectionHeaders.{closed_of}
use Rattle.bc_gen.proofs.lemmas.JoinedWordLemmas.{is_solid, are_solid, is_whole, whole-append}

-- ---- digits

digit_between : (c : ℕ) → digit_value c < 10 → (48 ≤ c) × (c ≤ 57)
digit_between c less = grind arith

digits_solid : (ds : List ℕ) → AllDigits 10 ds → are_solid ds ≡ true
digits_solid [] all = refl
digits_solid (c ∷ cs) all =
    let between = digit_between c all.0 in
    let solid : is_solid c ≡ true = and_from (nat_le 33 c) (nat_le c 126) (le-leb _ _ (omega (arith, between.0))) (le-leb _ _ (omega (arith, between.1))) in
    and_from (is_solid c) (are_solid cs) solid (digits_solid cs all.1)

digits_pass : (ds : List ℕ) → AllDigits 10 ds → list_all (λ octet. is_digit octet 10) ds ≡ true
digits_pass [] all = refl
digits_pass (c ∷ cs) all = and_from (is_digit c 10) (list_all (λ octet. is_digit octet 10) cs) (lt-ltb _ _ all.0) (digits_pass cs all.1)

-- a character that is no digit is not the first
no_mark : (mark : ℕ) (ds : List ℕ) → AllDigits 10 ds → mark < 48 → starts_with nat_eq ds (mark ∷ []) ≡ false
no_mark mark [] all low = refl
no_mark mark (c ∷ cs) all low =
    let between = digit_between c all.0 in
    grind (arith, between.0)

no_bracket : (ds : List ℕ) → AllDigits 10 ds → starts_with nat_eq ds (codes "[") ≡ false
no_bracket [] all = refl
no_bracket (c ∷ cs) all =
    let between = digit_between c all.0 in
    grind (arith, between.1)

-- ---- natural numbers

pub solid-decimal : (n : ℕ) → n < 2 ^ 64 → are_solid (decimal n) ≡ true
solid-decimal n small = digits_solid (decimal n) (decimal_is_IsNumeral n small).0.1

pub whole-decimal : (n : ℕ) → n < 2 ^ 64 → is_whole (decimal n) ≡ true
whole-decimal n small = and_from (nat_lt 0 (length (decimal n))) (are_solid (decimal n)) (lt-ltb _ _ (decimal_is_IsNumeral n small).0.0) (solid-decimal n small)

pub number_of-decimal : (n : ℕ) → n < 2 ^ 64 → number_of (decimal n) ≡ Some n
number_of-decimal n small =
    let is = decimal_is_IsNumeral n small in
    let short : length (decimal n) ≤ 20 = length-decimal-le 20 n (omega arith) (omega arith) small in
    rw (lt-ltb _ _ is.0.0, le-leb _ _ short, digits_pass (decimal n) is.0.1) (ap Some is.1)

-- a number begins no comment and no header
pub decimal-no_comment : (n : ℕ) → n < 2 ^ 64 → starts_with nat_eq (decimal n) (codes "#") ≡ false
decimal-no_comment n small = no_mark 35 (decimal n) (decimal_is_IsNumeral n small).0.1 (omega arith)

pub decimal-no_header : (n : ℕ) → n < 2 ^ 64 → starts_with nat_eq (decimal n) (codes "[") ≡ false
decimal-no_header n small = no_bracket (decimal n) (decimal_is_IsNumeral n small).0.1

-- ---- a number before a closing bracket

pub whole-closed : (n : ℕ) → n < 2 ^ 64 → is_whole (decimal n ++ codes "]") ≡ true
whole-closed n small = whole-append (decimal n) (codes "]") (whole-decimal n small) refl

drop-front : (xs ys : List ℕ) → drop (length xs) (xs ++ ys) ≡ ys
drop-front [] ys = refl
drop-front (x ∷ xs) ys = drop-front xs ys

take-front : (xs ys : List ℕ) → take (length xs) (xs ++ ys) ≡ xs
take-front [] ys = refl
take-front (x ∷ xs) ys = ap (λ zs. x ∷ zs) (take-front xs ys)

closed-is : (word : List ℕ) → closed_of (word ++ codes "]") ≡ number_of word
closed-is word =
    let last : length (word ++ codes "]") - 1 ≡ length word = omega (arith, length-append word (codes "]")) in
    rw (last, drop-front word (codes "]"), take-front word (codes "]")) refl

pub closed_of-decimal : (n : ℕ) → n < 2 ^ 64 → closed_of (decimal n ++ codes "]") ≡ Some n
closed_of-decimal n small = closed-is (decimal n) ∙ number_of-decimal n small

-- ---- whole numbers, of magnitude up to 2^63

-- how far it is from 0
abbrev pub IsNear : ℤ → Type 0
IsNear (pos n) = n < 2 ^ 63
IsNear (negsuc n) = n < 2 ^ 63

pub whole-signed : (z : ℤ) → IsNear z → is_whole (signed_decimal z) ≡ true
whole-signed (pos n) near = whole-decimal n (omega arith)
whole-signed (negsuc n) near = and_from (nat_lt 0 (suc (length (decimal (suc n))))) (are_solid (decimal (suc n))) (lt-ltb _ _ (omega arith)) (solid-decimal (suc n) (omega arith))

pub signed_of-signed : (z : ℤ) → IsNear z → signed_of (signed_decimal z) ≡ Some z
signed_of-signed (pos n) near =
    let small : n < 2 ^ 64 = omega arith in
    rw (no_mark 45 (decimal n) (decimal_is_IsNumeral n small).0.1 (omega arith), number_of-decimal n small) refl
signed_of-signed (negsuc n) near =
    let small : suc n < 2 ^ 64 = omega arith in
    rw (number_of-decimal (suc n) small) refl
