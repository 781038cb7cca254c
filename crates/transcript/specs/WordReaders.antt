-- What the words of a line stand for. These readers find whatever may have been printed so, and are
-- lenient with the rest: a line is taken only where printing it gives its octets back (project).
use Rattle.std.specs.Prelude.{ℕ, zero, suc, ℤ, pos, negsuc, ◌+◌, ◌-◌, ◌*◌, ◌*ℤ◌, ◌^◌, ◌==◌, ◌&&◌, Bool, nat_eq, nat_lt, if◌then◌else◌, List, [], ◌++◌, length, get_or, take, drop, codes, Option, Some, None, option_map, Result, Ok, Err}
use Rattle.std.specs.Char.{is_ascii_digit}
use Rattle.std.specs.List.{fold, find, starts_with}
use Rattle.hex.specs.Hex.{decode_of}
use Rattle.hex.specs.declared.error.FromHexError.{FromHexError}
use Rattle.byteorder.specs.Endian.{big_from}
use Rattle.ptp_base.specs.declared.identity.PortId.{PortId}
use Rattle.bc_history.specs.Scenario.SectionHeaders.{is_word}

-- ---- fields together: something only where each of them is there

abbrev pub all2 : {A B C : Type 0} → (A → B → C) → Option A → Option B → Option C
all2 f (Some a) (Some b) = Some (f a b)
all2 f (Some a) None = None
all2 f None b = None

abbrev pub all3 : {A B C D : Type 0} → (A → B → C → D) → Option A → Option B → Option C → Option D
all3 f (Some a) b c = all2 (f a) b c
all3 f None b c = None

abbrev pub all4 : {A B C D E : Type 0} → (A → B → C → D → E) → Option A → Option B → Option C → Option D
    → Option E
all4 f (Some a) b c d = all3 (f a) b c d
all4 f None b c d = None

abbrev pub all5 : {A B C D E F : Type 0} → (A → B → C → D → E → F) → Option A → Option B → Option C
    → Option D → Option E → Option F
all5 f (Some a) b c d e = all4 (f a) b c d e
all5 f None b c d e = None

-- ---- words

-- a word of a line, and the empty one behind the last
abbrev pub word_at : List (List ℕ) → ℕ → List ℕ
word_at words i = get_or words i []

-- ---- numbers

-- one digit more
abbrev pub with_digit : Option ℕ → ℕ → Option ℕ
with_digit None octet = None
with_digit (Some value) octet =
    if is_ascii_digit octet && nat_lt (value * 10 + (octet - 48)) (2 ^ 128)
    then Some (value * 10 + (octet - 48)) else None

-- the number below 2 ^ 128 that decimal digits stand for
abbrev pub natural_of : List ℕ → Option ℕ
natural_of word = fold with_digit (Some 0) word

abbrev pub narrowed : ℕ → Option ℕ → Option ℕ
narrowed bits None = None
narrowed bits (Some n) = if nat_lt n (2 ^ bits) then Some n else None

-- a number of so many bits
abbrev pub number_of : ℕ → List ℕ → Option ℕ
number_of bits word = narrowed bits (natural_of word)

-- the magnitude of a signed number has so many bits
abbrev pub fits : ℕ → ℤ → Bool
fits bits (pos n) = nat_lt n (2 ^ bits)
fits bits (negsuc n) = nat_lt n (2 ^ bits)

abbrev pub narrowed_signed : ℕ → Option ℤ → Option ℤ
narrowed_signed bits None = None
narrowed_signed bits (Some n) = if fits bits n then Some n else None

-- behind a minus sign
abbrev pub negated : Option ℕ → Option ℤ
negated None = None
negated (Some zero) = None
negated (Some (suc n)) = if nat_lt n (2 ^ 127) then Some (negsuc n) else None

-- with no sign
abbrev pub positive : Option ℕ → Option ℤ
positive None = None
positive (Some n) = if nat_lt n (2 ^ 127) then Some (pos n) else None

-- the signed number of 128 bits that a word stands for
abbrev pub integer_of : List ℕ → Option ℤ
integer_of word =
    if starts_with nat_eq word (codes "-") then negated (natural_of (drop 1 word))
    else positive (natural_of word)

-- a signed number whose magnitude has so many bits
abbrev pub signed_of : ℕ → List ℕ → Option ℤ
signed_of bits word = narrowed_signed bits (integer_of word)

-- a whole number of ppb, as ppb times 65,536
abbrev pub scaled_of : List ℕ → Option ℤ
scaled_of word = narrowed_signed 63 (option_map (λ (n : ℤ). n *ℤ pos 65536) (signed_of 63 word))

-- ---- octets

abbrev pub decoded : Result (List ℕ) FromHexError → Option (List ℕ)
decoded (Ok octets) = Some octets
decoded (Err error) = None

-- the octets that hex digits stand for
abbrev pub octets_of : List ℕ → Option (List ℕ)
octets_of word = decoded (decode_of word)

-- ---- identities of ports

-- the hex digits of a clock's identity
abbrev pub digits_of : List ℕ → List ℕ
digits_of word = take 6 word ++ take 4 (drop 7 word) ++ take 6 (drop 12 word)

abbrev pub identity_in : Option (List ℕ) → Option ℕ
identity_in None = None
identity_in (Some octets) = if length octets == 8 then Some (big_from 0 8 octets) else None

abbrev pub port_from : ℕ → ℕ → PortId
port_from id port = record { clock = record { id = id }; port = port }

abbrev pub port_of : List ℕ → Option PortId
port_of word =
    if nat_lt 18 (length word)
    then all2 port_from (identity_in (octets_of (digits_of word))) (number_of 16 (drop 19 word))
    else None

-- ---- names

-- the first of some values whose name a word is
abbrev pub named : {A : Type 0} → (A → List ℕ) → List A → List ℕ → Option A
named name values word = find (λ value. is_word (name value) word) values
