use Rattle.std.proofs.Common.{◌≡◌, ◌+◌, ◌++◌, ℕ}
use Rattle.std.specs.List.{flat_map, range_with_len}
use Rattle.bc_gen.specs.MadeNumbers.{number}
use Rattle.bc_gen.specs.MadeText.{master_text}
use Rattle.bc_gen.proofs.scenario_text.push_masters.Given as goal

-- the masters before the index are added, and the number at the index is reached
abbrev pub invariant-loop-e : goal.invariant-loop-e
invariant-loop-e l = (n : ℕ) → l.last ≡ number n 16 →
    (l.x ≡ number n (16 + l.e))
    × (l.out ≡ l.initial.out ++ flat_map (master_text n) (range_with_len 0 l.e))
