-- What reads and writes do to the count of faults and to the known octets.
use Rattle.std.specs.Prelude.{◌≡◌, ℕ, ◌+◌, ◌-◌, ◌^◌, ◌<◌, ◌≤◌, min, MatchResult, Result}
pub use Rattle.std.specs.Io.KnownBytes.{ReadConsumes, WriteAppends}

-- a fault was counted: a count that is at the end of its range stands still
abbrev pub Rose : ℕ → ℕ → Type 0
Rose before after = min (before + 1) (2 ^ 64 - 1) ≤ after

-- the count of a call that failed rose, and didn't fall
abbrev pub Counted : ℕ → ℕ → Type 0
Counted before after = Rose before after × (before ≤ after)

-- the count rises at a failure alone
abbrev pub CountsFailures : {X E : Type 0} → ℕ → ℕ → Result X E → Type 0
CountsFailures before after r = MatchResult r (λ _. after ≡ before) (λ _. Counted before after)

-- n of that many octets were taken, and at least one where there is one
abbrev pub TakesSome : ℕ → ℕ → Type 0
TakesSome len n = (n ≤ len) × (0 < len → 0 < n)
