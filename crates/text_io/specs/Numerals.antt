-- Words that stand for numbers (project).
use Rattle.std.specs.Prelude.{ℕ, ℤ, pos, neg_ℤ, ◌+◌, ◌-◌, ◌*◌, ◌^◌, Bool, ◌==◌, ◌&&◌, nat_eq, nat_lt, nat_le, if◌then◌else◌, List, length, take, drop, slice_index, codes, Option, Some, None}
use Rattle.std.specs.Char.{is_digit}
use Rattle.std.specs.List.{list_all, starts_with, position}
use Rattle.std.specs.Option.{option_map}
use Rattle.std.specs.Str.Parse.{digits_value}

-- 1 to most digits of a radix, and nothing else; digits above 9 are letters of either case
abbrev pub is_numeral : ℕ → ℕ → List ℕ → Bool
is_numeral radix most word =
    nat_lt 0 (length word) && nat_le (length word) most
    && list_all (λ octet. is_digit octet radix) word

-- the number that such a word stands for
abbrev pub numeral_of : ℕ → ℕ → List ℕ → Option ℕ
numeral_of radix most word =
    if is_numeral radix most word then Some (digits_value radix word) else None

-- a number: 1 to 20 decimal digits, leading zeros allowed
abbrev pub number_of : List ℕ → Option ℕ
number_of word = numeral_of 10 20 word

-- a number, or a number behind a minus sign
abbrev pub signed_of : List ℕ → Option ℤ
signed_of word =
    if starts_with nat_eq word (codes "-") then option_map (λ n. neg_ℤ (pos n)) (number_of (drop 1 word))
    else option_map pos (number_of word)

-- 0x, and 1 to most hex digits of either case
abbrev pub hex_of : ℕ → List ℕ → Option ℕ
hex_of most word =
    if starts_with nat_eq word (codes "0x") then numeral_of 16 most (drop 2 word) else None

-- ---- seconds, in ns

-- whole seconds
abbrev pub whole_of : List ℕ → Option ℕ
whole_of word = option_map (λ seconds. seconds * 1000000000) (number_of word)

-- the digits behind the point: 1 to 9 of them, of which the first is worth 100,000,000 ns
abbrev pub fraction_of : List ℕ → Option ℕ
fraction_of digits = option_map (λ n. n * 10 ^ (9 - length digits)) (numeral_of 10 9 digits)

-- whole and fraction together; a fraction alone is none
abbrev pub sum_of : Option ℕ → Option ℕ → Option ℕ
sum_of (Some whole) (Some fraction) = Some (whole + fraction)
sum_of (Some whole) None = None
sum_of None fraction = None

-- the octet is a point
abbrev pub is_point : ℕ → Bool
is_point octet = octet == 46

-- by where the first point stands
abbrev pub seconds_at : Option ℕ → List ℕ → Option ℕ
seconds_at None word = whole_of word
seconds_at (Some k) word = sum_of (whole_of (take k word)) (fraction_of (drop (k + 1) word))

-- a number, or a number, a point and a fraction
abbrev pub seconds_of : List ℕ → Option ℕ
seconds_of word = seconds_at (position is_point word) word

-- ---- a clock's identity (EUI-64)

-- its three parts, the first the most significant
abbrev pub parts_of : Option ℕ → Option ℕ → Option ℕ → Option ℕ
parts_of (Some a) (Some b) (Some c) = Some (a * 2 ^ 40 + b * 2 ^ 24 + c)
parts_of (Some a) (Some b) None = None
parts_of (Some a) None c = None
parts_of None b c = None

-- six, four and six hex digits of either case, with points between
abbrev pub identity_of : List ℕ → Option ℕ
identity_of word =
    if length word == 18 && is_point (slice_index word 6) && is_point (slice_index word 11)
    then parts_of (numeral_of 16 6 (take 6 word)) (numeral_of 16 4 (take 4 (drop 7 word)))
    (numeral_of 16 6 (drop 12 word))
    else None
