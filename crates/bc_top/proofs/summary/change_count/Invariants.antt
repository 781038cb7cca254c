use Rattle.std.proofs.Common.{◌≡◌, take}
use Rattle.std.specs.List.{sum_by}
use Rattle.bc_top.specs.Summary.{changes_of}
use Rattle.bc_top.proofs.summary.change_count.Given as goal

abbrev pub invariant-loop-log : goal.invariant-loop-log
invariant-loop-log l = l.count ≡ sum_by changes_of (take l.log-index l.run.logs)
