-- The identity of a port as it is printed: what its reader makes of it, and that no space stands in it.
use Rattle.std.proofs.Common.{◌≡◌, ℕ, zero, suc, ◌%◌, ◌^◌, ◌<◌, true, not, nat_eq, nat_lt, List, [], ◌∷◌, ◌++◌, length, take, drop, codes, Some, refl, ap, ◌∙◌, arith, lt-ltb}
use Rattle.std.specs.Fmt.{decimal}
use Rattle.std.specs.Int.{bytes_high_first, byte_at}
use Rattle.std.specs.List.{slice_index}
use Rattle.hex.specs.Hex.{encode_lower, encode_with}
use Rattle.std.proofs.lemmas.List.Folds.{list_all-append}
use Rattle.hex.proofs.HexLemmas.{decode_of-encode_lower}
use Rattle.byteorder.specs.Endian.{big_bytes}
use Rattle.byteorder.specs.Numbers.{big_from-bytes}
use Rattle.ptp_base.specs.declared.identity.PortId.{PortId}
use Rattle.ptp_profile.specs.Port.PrintedNames.{identity_text, port_text}
use Rattle.transcript.specs.TypedLines.{IsWithin, IsTypedPort}
use Rattle.transcript.specs.WordReaders.{decoded, octets_of, digits_of, identity_in, port_of}
use Rattle.transcript.proofs.lemmas.ReadNumberLemmas.{is_plain}
use Rattle.transcript.proofs.lemmas.JoinedWordLemmas.{plain-hex}
use Rattle.transcript.proofs.lemmas.ReadPartLemmas.{reads16, plain16}

-- sixteen digits, of which the text of an identity is made
record AreSixteen (digits : List ℕ) : Type 0 where
  again : (rest : List ℕ) → digits_of (identity_text digits ++ (45 ∷ rest)) ≡ digits
  behind : (rest : List ℕ) → drop 19 (identity_text digits ++ (45 ∷ rest)) ≡ rest
  long : (rest : List ℕ) → nat_lt 18 (length (identity_text digits ++ (45 ∷ rest))) ≡ true

plain-append : (xs ys : List ℕ) → is_plain xs ≡ true → is_plain ys ≡ true → is_plain (xs ++ ys) ≡ true
plain-append xs ys one two = list_all-append (λ octet. not (nat_eq octet 32)) xs ys ∙ rw (one, two) refl

plain-take : (k : ℕ) (xs : List ℕ) → is_plain xs ≡ true → is_plain (take k xs) ≡ true
plain-take zero xs plain = refl
plain-take (suc k) [] plain = refl
plain-take (suc k) (c ∷ cs) plain = let more = plain-take k cs (grind arith) in grind (arith, more)

plain-drop : (k : ℕ) (xs : List ℕ) → is_plain xs ≡ true → is_plain (drop k xs) ≡ true
plain-drop zero xs plain = plain
plain-drop (suc k) [] plain = refl
plain-drop (suc k) (c ∷ cs) plain = plain-drop k cs (grind arith)

-- points and a dash among plain digits
pointed_plain : (digits rest : List ℕ) → is_plain digits ≡ true → is_plain rest ≡ true → is_plain (identity_text digits ++ (45 ∷ rest)) ≡ true
pointed_plain digits rest plain more =
    plain-append (identity_text digits) (45 ∷ rest)
    (plain-append (take 6 digits) (codes "." ++ (take 4 (drop 6 digits) ++ (codes "." ++ drop 10 digits))) (plain-take 6 digits plain)
    (plain-append (codes ".") (take 4 (drop 6 digits) ++ (codes "." ++ drop 10 digits)) refl
    (plain-append (take 4 (drop 6 digits)) (codes "." ++ drop 10 digits) (plain-take 4 (drop 6 digits) (plain-drop 6 digits plain))
    (plain-append (codes ".") (drop 10 digits) refl (plain-drop 10 digits plain)))))
    (plain-append (codes "-") rest refl more)

sixteen : (a b c d e f g h i j k l m n o p : ℕ) → AreSixteen (a ∷ b ∷ c ∷ d ∷ e ∷ f ∷ g ∷ h ∷ i ∷ j ∷ k ∷ l ∷ m ∷ n ∷ o ∷ p ∷ [])
sixteen a b c d e f g h i j k l m n o p = record {
  again = λ rest. refl;
  behind = λ rest. refl;
  long = λ rest. lt-ltb _ _ (omega arith);
}

byte_below : (k n : ℕ) → byte_at k n < 256
byte_below zero n = omega arith
byte_below (suc k) n = omega arith

-- eight octets are octets
bytes_below : (k n i : ℕ) → slice_index (bytes_high_first k n) i < 256
bytes_below zero n i = omega arith
bytes_below (suc k) n zero = byte_below k n
bytes_below (suc k) n (suc i) = bytes_below k n i

identity_digits : (id : ℕ) → AreSixteen (encode_lower (big_bytes 8 id))
unfolding encode_with
identity_digits id = sixteen _ _ _ _ _ _ _ _ _ _ _ _ _ _ _ _

identity_again : (id : ℕ) → IsWithin 64 id → identity_in (octets_of (encode_lower (big_bytes 8 id))) ≡ Some id
identity_again id within =
    let read = decode_of-encode_lower (big_bytes 8 id) (bytes_below 8 id) in
    let whole : id % 256 ^ 8 ≡ id = omega (arith, within) in
    ap (λ r. identity_in (decoded r)) read ∙ ap Some (big_from-bytes 8 id [] ∙ whole)

port_spelled : (p : PortId) → port_text p ≡ identity_text (encode_lower (big_bytes 8 p.clock.id)) ++ (45 ∷ decimal p.port)
port_spelled p = refl

pub port-reads : (p : PortId) → IsTypedPort p → port_of (port_text p) ≡ Some p
port-reads p typed =
    let digits = identity_digits p.clock.id in
    rw (port_spelled p, digits.long (decimal p.port), digits.again (decimal p.port), digits.behind (decimal p.port), identity_again p.clock.id typed.0, reads16 p.port typed.1) refl

pub plain-port : (p : PortId) → IsTypedPort p → is_plain (port_text p) ≡ true
plain-port p typed =
    rw (port_spelled p) (pointed_plain (encode_lower (big_bytes 8 p.clock.id)) (decimal p.port) (plain-hex (big_bytes 8 p.clock.id)) (plain16 p.port typed.1))
