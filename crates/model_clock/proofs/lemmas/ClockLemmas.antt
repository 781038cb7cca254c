-- How much a clock counts, and that it never counts backwards.
use Rattle.std.proofs.Common.{ℕ, ℤ, pos, negsuc, ◌≡◌, ◌+◌, ◌-◌, ◌*◌, ◌≤◌, ◌≤ℤ◌, ◌+ℤ◌, ◌*ℤ◌, arith}
use Rattle.std.proofs.Math.Nat.{mul-le-mul_left}
use Rattle.std.proofs.lemmas.Int.{ints}
use Rattle.ptp_base.specs.Floor.{floor_of}
use Rattle.model_clock.specs.Clock.{held_time, time_gained, reading}
use Rattle.ptp_base.specs.Floor.{IsWithin}
use Rattle.model_clock.specs.declared.state.ClockState.{ClockState}

-- the quotients of two numbers, of which the second lies at most d wholes below the first
floor_of-less : (a b : ℤ) (d : ℕ) → a ≤ℤ (b +ℤ pos (d * 65536000000000))
    → floor_of a (pos 65536000000000) ≤ℤ (floor_of b (pos 65536000000000) +ℤ pos d)
floor_of-less (pos a) (pos b) d h = omega (arith, ints, h)
floor_of-less (pos a) (negsuc b) d h = omega (arith, ints, h)
floor_of-less (negsuc a) (pos b) d h = omega (arith, ints, h)
floor_of-less (negsuc a) (negsuc b) d h = omega (arith, ints, h)

product-less : (rate : ℤ) (e d : ℕ) → (negsuc 65535999999999) ≤ℤ rate → (pos e *ℤ rate) ≤ℤ ((pos (e + d) *ℤ rate) +ℤ pos (d * 65536000000000))
product-less (pos k) e d h = omega (arith, ints)
product-less (negsuc k) e d h =
    let slow : k + 1 ≤ 65536000000000 = omega (arith, ints, h) in
    let least : d * (k + 1) ≤ d * 65536000000000 = mul-le-mul_left d slow in
    omega (arith, ints, least)

-- a clock that isn't slower than standing still counts no less in a longer time
pub counted-less : (rate : ℤ) (e d : ℕ) → negsuc 65535999999999 ≤ℤ rate → time_gained rate e ≤ℤ time_gained rate (e + d)
counted-less rate e d h =
    let q = floor_of-less (pos e *ℤ rate) (pos (e + d) *ℤ rate) d (product-less rate e d h) in
    omega (arith, ints, q)

held_time-less : (a b : ℤ) → a ≤ℤ b → held_time a ≤ℤ held_time b
held_time-less a b h = grind (arith, ints)

-- a later tick reads no less
pub reading-less : (s : ClockState) (tick later : ℕ) → IsWithin (pos 58982400000000) s.freq → IsWithin (pos 655360000000) s.drift
    → tick ≤ later → reading s tick ≤ℤ reading s later
reading-less s tick later freq drift order =
    let rate : negsuc 65535999999999 ≤ℤ (s.drift +ℤ s.freq) = omega (arith, ints, freq, drift) in
    let whole : (tick - s.tick) + ((later - s.tick) - (tick - s.tick)) ≡ later - s.tick = omega arith in
    let more = counted-less (s.drift +ℤ s.freq) (tick - s.tick) ((later - s.tick) - (tick - s.tick)) rate in
    let more' : time_gained (s.drift +ℤ s.freq) (tick - s.tick) ≤ℤ time_gained (s.drift +ℤ s.freq) (later - s.tick) = rw whole at more in
    let times : (s.time +ℤ time_gained (s.drift +ℤ s.freq) (tick - s.tick)) ≤ℤ (s.time +ℤ time_gained (s.drift +ℤ s.freq) (later - s.tick)) =
    omega (arith, ints, more') in
    held_time-less _ _ times
