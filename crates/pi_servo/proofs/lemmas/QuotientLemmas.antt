-- How great products and quotients are.
use Rattle.std.proofs.Common.{◌^◌, ℕ, ℤ, pos, negsuc, ◌*◌, ◌/◌, ◌≤◌, ◌<ℤ◌, ◌*ℤ◌, suc, arith}
use Rattle.std.proofs.Math.Nat.{mul-le-mul, div-le_self}
use Rattle.std.proofs.lemmas.Int.{ints}
use Rattle.ptp_base.specs.Floor.{IsWithin, floor_of}

times : (m n a b : ℕ) → a ≤ m → b ≤ n → a * b ≤ m * n
times m n a b h k = mul-le-mul h k

pub product-few : (a b : ℤ) → IsWithin (pos (2 ^ 64)) a → IsWithin (pos (2 ^ 49)) b → IsWithin (pos (2 ^ 113)) (a *ℤ b)
product-few (pos m) (pos n) h k = let t = times (2 ^ 64) (2 ^ 49) m n (omega (arith, ints, h)) (omega (arith, ints, k)) in grind (arith, ints, t)
product-few (pos m) (negsuc n) h k = let t = times (2 ^ 64) (2 ^ 49) m (suc n) (omega (arith, ints, h)) (omega (arith, ints, k)) in grind (arith, ints, t)
product-few (negsuc m) (pos n) h k = let t = times (2 ^ 64) (2 ^ 49) (suc m) n (omega (arith, ints, h)) (omega (arith, ints, k)) in grind (arith, ints, t)
product-few (negsuc m) (negsuc n) h k = let t = times (2 ^ 64) (2 ^ 49) (suc m) (suc n) (omega (arith, ints, h)) (omega (arith, ints, k)) in grind (arith, ints, t)

pub floor_of-few : (a b : ℤ) (n : ℕ) → IsWithin (pos n) a → pos 0 <ℤ b → IsWithin (pos n) (floor_of a b)
floor_of-few (pos m) (pos d) n h k = let q : m / d ≤ m = div-le_self m d in grind (arith, ints, q)
floor_of-few (negsuc m) (pos d) n h k = let q : m / d ≤ m = div-le_self m d in grind (arith, ints, q)
floor_of-few a (negsuc d) n h k = absurd (omega (arith, ints, k))
