-- Numbers that are small enough for a machine's words.
use Rattle.std.proofs.Common.{◌^◌, ℕ, ℤ, pos, negsuc, ◌≡◌, ◌<◌, ◌-ℤ◌, neg_ℤ, ap, ◌∙◌, arith, SFits, to_z, of_z, w64}
use Rattle.std.specs.Int.{w128}
use Rattle.std.proofs.lemmas.Int.{ints, to_z-of_z}
use Rattle.ptp_base.specs.Floor.{IsWithin}

pub fits_wide : (n : ℕ) (z : ℤ) → n < 2 ^ 127 → IsWithin (pos n) z → SFits w128 z
fits_wide n (pos k) few h = record { sfits = omega (arith, ints, h) }
fits_wide n (negsuc k) few h = record { sfits = omega (arith, ints, h) }

pub fits : (n : ℕ) (z : ℤ) → n < 2 ^ 63 → IsWithin (pos n) z → SFits w64 z
fits n (pos k) few h = record { sfits = omega (arith, ints, h) }
fits n (negsuc k) few h = record { sfits = omega (arith, ints, h) }

pub negated : (n : ℕ) (z : ℤ) → n < 2 ^ 63 → IsWithin (pos n) z → to_z w64 (of_z w64 (pos 0 -ℤ to_z w64 (of_z w64 z))) ≡ neg_ℤ z
negated n z few h =
    let minus : pos 0 -ℤ z ≡ neg_ℤ z = omega (arith, ints) in
    let inside : to_z w64 (of_z w64 z) ≡ z = to_z-of_z w64 z (fits n z few h) in
    let opposite : IsWithin (pos n) (neg_ℤ z) = (omega (arith, ints, h), omega (arith, ints, h)) in
    ap (λ (y : ℤ). to_z w64 (of_z w64 (pos 0 -ℤ y))) inside ∙ ap (λ (y : ℤ). to_z w64 (of_z w64 y)) minus ∙ to_z-of_z w64 (neg_ℤ z) (fits n (neg_ℤ z) few opposite)
