use Rattle.std.proofs.Common.{◌≡◌, take}
use Rattle.bc_steps.proofs.queries.copied.Given as goal

-- those before the index are copied
abbrev pub invariant-loop-asked : goal.invariant-loop-asked
invariant-loop-asked l = l.copy.items ≡ take l.asked-index l.from
