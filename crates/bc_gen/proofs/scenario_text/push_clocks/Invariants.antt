use Rattle.std.proofs.Common.{◌≡◌, ◌++◌}
use Rattle.std.specs.List.{flat_map, range_with_len}
use Rattle.bc_gen.specs.MadeNumbers.{number}
use Rattle.bc_gen.specs.MadeText.{clock_text}
use Rattle.bc_gen.proofs.scenario_text.push_clocks.Given as goal

-- the clocks before the index are added, and the number at the index is reached
abbrev pub invariant-loop-c : goal.invariant-loop-c
invariant-loop-c l =
    (l.x ≡ number l.n l.c)
    × (l.out ≡ l.initial.out ++ flat_map (clock_text l.n) (range_with_len 0 l.c))
