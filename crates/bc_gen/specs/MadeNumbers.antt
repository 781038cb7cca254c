-- The numbers that a scenario is made of (project): the linear congruential generator that Knuth
-- gives for MMIX.
use Rattle.std.specs.Prelude.{ℕ, ℤ, zero, suc, pos, ◌+◌, ◌*◌, ◌/◌, ◌%◌, ◌^◌, ◌-ℤ◌}
use Rattle.bc_gen.specs.declared.numbers.TheConstants.{MULTIPLIER, INCREMENT}

-- the number behind x, modulo 2^64
abbrev pub following : ℕ → ℕ
following x = (x * MULTIPLIER + INCREMENT) % 2 ^ 64

-- number k of scenario n: the first, number 0, is n itself
unfoldable pub number : ℕ → ℕ → ℕ
number n zero = n
number n (suc k) = following (number n k)

-- what a number gives: its upper 16 bits
abbrev pub drawn_from : ℕ → ℕ
drawn_from x = x / 2 ^ 48

-- what number k of scenario n gives
abbrev pub drawn : ℕ → ℕ → ℕ
drawn n k = drawn_from (number n k)

-- a drift, from -10,000 to 10,000 ppb
abbrev pub drift_from : ℕ → ℤ
drift_from d = pos (d % 20001) -ℤ pos 10000

-- the drift of clock c, in ppb
abbrev pub made_drift : ℕ → ℕ → ℤ
made_drift n c = drift_from (drawn n (c + 1))

-- a delay, from 500 to 1,499 ns
abbrev pub delay_from : ℕ → ℕ
delay_from d = 500 + d % 1000

-- how long a message is under way between master e and this clock, in ns: behind the numbers of
-- the 16 drifts stand those of the 32 delays
abbrev pub made_delay : ℕ → ℕ → ℕ
made_delay n e = delay_from (drawn n (17 + e))
