-- Numbers within a magnitude, division that rounds towards minus infinity, times in nanoseconds,
-- and intervals.
use Rattle.std.specs.Prelude.{ℕ, ℤ, pos, negsuc, neg_ℤ, ◌+◌, ◌*◌, ◌/◌, ◌^◌, ◌≤ℤ◌, int_lt, if◌then◌else◌}
use Rattle.std.specs.Int.{int_div_euclid}
use Rattle.ptp_base.specs.declared.time.TheConstants.{TIME_MAX}

-- a number is of at most this magnitude
abbrev pub IsWithin : ℤ → ℤ → Type 0
IsWithin most z = (neg_ℤ most ≤ℤ z) × (z ≤ℤ most)

-- the floor of a / b, where b is above 0
abbrev pub floor_of : ℤ → ℤ → ℤ
floor_of a b = int_div_euclid a b

-- a number of nanoseconds, held within one nanosecond less than 2^33 seconds on both sides
abbrev pub held_ns : ℤ → ℤ
held_ns z =
    if int_lt TIME_MAX z then
    TIME_MAX
    else
    (if int_lt z (neg_ℤ TIME_MAX) then neg_ℤ TIME_MAX else z)

-- the floor in nanoseconds
abbrev pub ns_of : ℤ → ℤ
ns_of s = held_ns (floor_of s (pos 65536))

-- the interval of a logarithm, in nanoseconds: 10^9 times 2 to its power (IEEE 1588-2019, 7.7.2.1)
abbrev pub interval_of : ℤ → ℕ
interval_of (pos n) = 1000000000 * 2 ^ n
interval_of (negsuc n) = 1000000000 / 2 ^ (n + 1)
