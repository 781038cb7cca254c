-- What a read from octets in memory gives and leaves.
use Rattle.std.proofs.Common.{◌≡◌, ℕ, ◌+◌, ◌-◌, ◌≤◌, ◌<◌, min, List, [], drop, take, length, ◌++◌, arith, sym, ◌∙◌, length-append, length-drop, take-append-drop}
use Rattle.std.proofs.lemmas.List.{take_at, drop-drop, drop_all}

-- what is left is the piece that a read gives, and what is left then
pub left_split : (items piece tail left : List ℕ) (at n : ℕ) → drop at items ≡ left → piece ≡ take (at + n - at) (drop at items) → length piece ≡ n → left ≡ take n (piece ++ tail) ++ drop (at + n) items
left_split items piece tail left at n is piece_is len =
    let same : at + n - at ≡ n = omega arith in
    let front : piece ≡ take n (drop at items) = rw same at piece_is in
    sym is ∙ rw (take_at piece tail n len, front, ← drop-drop n at items) (sym (take-append-drop n (drop at items)))

-- a read that gives nothing into a buffer that isn't empty found nothing left
pub left_none : (items piece buffer : List ℕ) (at most there room n : ℕ) → at ≤ length items → 0 < most → there ≡ length items - at → room ≡ min most there → n ≡ min room (length buffer)
    → length piece ≡ n → n ≡ 0 → 0 < length (piece ++ drop n buffer) → drop (at + n) items ≡ []
left_none items piece buffer at most there room n within some there_is room_is n_is len zero more =
    let whole : length (piece ++ drop n buffer) ≡ length buffer = length-append piece (drop n buffer) ∙ omega (arith, length-drop n buffer, len) in
    drop_all (at + n) items (omega (arith, whole))
