use Rattle.std.proofs.Common.{◌≡◌, take}
use Rattle.std.specs.Prelude.{not, count_by}
use Rattle.ptp_profile.specs.Roles.SeatLogs.{is_order}
use Rattle.bc_top.proofs.summary.changes_of.Given as goal

abbrev pub invariant-loop-entry : goal.invariant-loop-entry
invariant-loop-entry l = l.count ≡ count_by (λ entry. not (is_order entry)) (take l.entry-index l.log.entries)
