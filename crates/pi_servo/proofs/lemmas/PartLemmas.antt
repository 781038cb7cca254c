-- How great a part of the frequency is, and on which side of 0.
use Rattle.std.proofs.Common.{◌^◌, ℕ, ℤ, pos, negsuc, ◌+◌, ◌*◌, ◌<◌, ◌≤◌, ◌≤ℤ◌, zero, suc, arith}
use Rattle.std.proofs.Math.Nat.{mul-le-mul_left}
use Rattle.std.proofs.lemmas.Int.{ints}
use Rattle.ptp_base.specs.Floor.{IsWithin}
use Rattle.ptp_profile.specs.Timing.Servo.{part}

pub part-rises : (gain : ℕ) (offset : ℤ) → pos 0 ≤ℤ offset → pos 0 ≤ℤ part gain offset
part-rises gain (pos k) h = omega (arith, ints)
part-rises gain (negsuc k) h = omega (arith, ints, h)

pub part-falls : (gain : ℕ) (offset : ℤ) → offset ≤ℤ pos 0 → part gain offset ≤ℤ pos 0
part-falls gain (pos k) h = grind (arith, ints, h)
part-falls zero (negsuc k) h = grind (arith, ints)
part-falls (suc g) (negsuc k) h = grind (arith, ints)

pub part-few : (gain : ℕ) (offset : ℤ) → gain < 4294967296 → negsuc 9223372036854775807 ≤ℤ offset → offset ≤ℤ pos 9223372036854775807
    → IsWithin (pos (2 ^ 111)) (part gain offset)
part-few gain (pos k) few least most =
    let some : k ≤ 9223372036854775808 = omega (arith, ints, most) in
    let all : gain * k ≤ gain * 9223372036854775808 = mul-le-mul_left gain some in
    (omega (arith, ints, all, few), omega (arith, ints, all, few))
part-few zero (negsuc k) few least most = grind (arith, ints)
part-few (suc g) (negsuc k) few least most =
    let some : k + 1 ≤ 9223372036854775808 = omega (arith, ints, least) in
    let all : (suc g) * (k + 1) ≤ (suc g) * 9223372036854775808 = mul-le-mul_left (suc g) some in
    grind (arith, ints, all, few)
