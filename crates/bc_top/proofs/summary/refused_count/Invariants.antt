use Rattle.std.proofs.Common.{◌≡◌, take}
use Rattle.std.specs.Prelude.{count_by}
use Rattle.bc_history.specs.declared.entry.Entry.{Entry}
use Rattle.bc_top.specs.Summary.{tells_superseded}
use Rattle.bc_top.proofs.summary.refused_count.Given as goal

abbrev pub invariant-loop-entry : goal.invariant-loop-entry
invariant-loop-entry l = l.count ≡ count_by (λ (e : Entry). tells_superseded e.input) (take l.entry-index l.run.entries)
