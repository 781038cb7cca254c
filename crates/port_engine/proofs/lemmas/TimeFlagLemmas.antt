-- The flags of the time properties are among those of the profile.
use Rattle.std.proofs.Common.{◌≡◌, ℕ, ◌<◌, ◌%◌, ◌^◌, arith, sym, ap, ◌∙◌, bit_and}
use Rattle.std.proofs.lemmas.Nat.{and_mod, and_mask, and_le_l}
use Rattle.std.proofs.Math.Nat.{mod-eq_of_lt}

low_flags : (f : ℕ) → f < 64 → bit_and f 0x073F ≡ f
low_flags f h =
    let less : bit_and f 0x073F < 64 = omega (arith, and_le_l f 0x073F) in
    let own : f % 2 ^ 6 ≡ f = mod-eq_of_lt h in
    let parts : bit_and f 0x073F % 2 ^ 6 ≡ bit_and (f % 2 ^ 6) (0x073F % 2 ^ 6) = and_mod f 0x073F 6 in
    let low : bit_and (f % 2 ^ 6) (0x073F % 2 ^ 6) ≡ f % 2 ^ 6 % 2 ^ 6 = and_mask (f % 2 ^ 6) 6 in
    sym (mod-eq_of_lt less) ∙ parts ∙ low ∙ ap (λ (n : ℕ). n % 2 ^ 6) own ∙ own

-- the low six bits are known
pub known_low : (f : ℕ) → bit_and (f % 64) 0x073F ≡ f % 64
known_low f = low_flags (f % 64) (omega arith)
