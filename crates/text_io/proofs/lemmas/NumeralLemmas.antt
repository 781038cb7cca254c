-- Numerals read from the left: what one more digit makes of the number so far.
use Rattle.std.proofs.Common.{◌≡◌, ℕ, ◌+◌, ◌*◌, ◌^◌, ◌<◌, ◌≤◌, List, length, take, get_or, true, refl, ap, ◌∙◌, add-one, arith, lt-ltb, lit<, ◌-◌, Option, Some, None, IfSome}
use Rattle.std.proofs.Math.Nat.{pow-suc, pow-le-pow_right, one-le-pow, mul-le-mul_right}
use Rattle.std.proofs.lemmas.Nat.{pow-add}
use Rattle.std.proofs.lemmas.Int.Digits.{digits_value_more}
use Rattle.std.proofs.lemmas.List.Folds.{list_all_more}
use Rattle.std.specs.Char.{digit_value, is_digit}
use Rattle.std.specs.List.{list_all}
use Rattle.std.specs.Str.Parse.{digits_value}

-- it stays below the next power
pub bound_more : (v d r q i : ℕ) → q ≡ r → v < r ^ i → d < r → v * q + d < r ^ (i + 1)
bound_more v d r q i same below digit =
    let room : (v + 1) * r ≤ r ^ i * r = mul-le-mul_right r (omega arith) in
    let next : r ^ (i + 1) ≡ r ^ i * r = ap (λ k. r ^ k) (add-one i) ∙ pow-suc r i in
    rw same (omega (arith, room, next))

pub power_below : (r i n : ℕ) → 0 < r → i ≤ n → r ^ i ≤ r ^ n
power_below r i n some more = pow-le-pow_right some more

-- and fits where all its digits have room
pub more_fits : (v d r q i n : ℕ) → q ≡ r → v < r ^ i → d < r → i < n → r ^ n ≤ 2 ^ 128 → v * q + d < 2 ^ 128
more_fits v d r q i n same below digit more room =
    let up : r ^ (i + 1) ≤ r ^ n = power_below r (i + 1) n (omega arith) (omega arith) in
    omega (arith, bound_more v d r q i same below digit, up)

pub value_more : (r : ℕ) (word : List ℕ) (i v q d : ℕ) → i < length word → v ≡ digits_value r (take i word) → q ≡ r → d ≡ digit_value (get_or word i 0)
    → v * q + d ≡ digits_value r (take (i + 1) word)
value_more r word i v q d within value same digit = let more = digits_value_more r word i within in cc

pub digits_more : (r : ℕ) (word : List ℕ) (i : ℕ) → i < length word → list_all (λ octet. is_digit octet r) (take i word) ≡ true → digit_value (get_or word i 0) < r
    → list_all (λ octet. is_digit octet r) (take (i + 1) word) ≡ true
digits_more r word i within so_far digit = list_all_more (λ octet. is_digit octet r) word i 0 within ∙ rw (so_far, lt-ltb _ _ digit) refl

-- digits behind the point, padded to nine
pub padded : (n len : ℕ) → n < 10 ^ len → len ≤ 9 → n * 10 ^ (9 - len) < 10 ^ 9
padded n len below short =
    let whole : 10 ^ 9 ≡ 10 ^ len * 10 ^ (9 - len) = ap (λ k. 10 ^ k) (let e : 9 ≡ len + (9 - len) = omega arith in e) ∙ pow-add 10 len (9 - len) in
    let some : 0 < 10 ^ (9 - len) = one-le-pow (9 - len) 10 (lit< tt) in
    let room : (n + 1) * 10 ^ (9 - len) ≤ 10 ^ len * 10 ^ (9 - len) = mul-le-mul_right (10 ^ (9 - len)) (omega arith) in
    rw whole (omega (arith, room, some))

pub number_bound : (word : List ℕ) (r : Option ℕ) → IfSome r (λ n. n < 10 ^ length word) → IfSome r (λ _. length word ≤ 20) → IfSome r (λ n. n < 10 ^ 20)
number_bound word None below short = tt
number_bound word (Some n) below short =
    let up : 10 ^ length word ≤ 10 ^ 20 = power_below 10 (length word) 20 (lit< tt) short in
    omega (arith, below, up)

pub hex_below : (len most n : ℕ) → n < 16 ^ len → len ≤ most → n < 16 ^ most
hex_below len most n below short =
    let up : 16 ^ len ≤ 16 ^ most = power_below 16 len most (lit< tt) short in
    omega (arith, below, up)
