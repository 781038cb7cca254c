use Rattle.std.proofs.Common.{◌≡◌, reverse, take}
use Rattle.bc_top.proofs.lemmas.GenerationLemmas.{generation_by}
use Rattle.bc_top.proofs.summary.last_generation.Given as goal

abbrev pub invariant-loop-entry : goal.invariant-loop-entry
invariant-loop-entry l = l.generation ≡ generation_by (reverse (take l.entry-index l.run.entries))
