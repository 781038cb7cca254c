-- Hex digits of a list that is taken a piece at a time.
use Rattle.std.proofs.Common.{◌≡◌, ℕ, List, [], ◌∷◌, ◌++◌, length, refl, sym, ap, ◌∙◌, append_assoc}
use Rattle.std.proofs.lemmas.List.{append-nil, nil_from_length}
use Rattle.hex.specs.Hex.{encode_lower, encode_with, lower_digits}

-- the digits of two parts are those of the whole
encode_with-append : (table xs ys : List ℕ) → encode_with table (xs ++ ys) ≡ encode_with table xs ++ encode_with table ys
unfolding encode_with
encode_with-append table [] ys = refl
encode_with-append table (x ∷ xs) ys = rw (encode_with-append table xs ys) refl

-- once a piece is written, the digits of what is left are still to come
pub piece_written : (piece rest left text new whole : List ℕ) → rest ≡ piece ++ left → new ≡ text ++ encode_lower piece
    → text ++ encode_lower rest ≡ whole → new ++ encode_lower left ≡ whole
piece_written piece rest left text new whole cut more is =
    rw more (append_assoc text (encode_lower piece) (encode_lower left))
    ∙ ap (λ digits. text ++ digits) (sym (encode_with-append lower_digits piece left))
    ∙ ap (λ octets. text ++ encode_lower octets) (sym cut) ∙ is

-- where no octets are left, all is written
pub all_written : (rest text whole : List ℕ) → length rest ≡ 0 → text ++ encode_lower rest ≡ whole → text ≡ whole
unfolding encode_with
all_written rest text whole none is =
    sym (append-nil text) ∙ ap (λ octets. text ++ encode_lower octets) (sym (nil_from_length rest none)) ∙ is
