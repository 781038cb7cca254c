use Rattle.std.proofs.Common.{◌≡◌, ◌+◌, ◌-◌, ◌≤◌, vec_len}
use Rattle.std.specs.Io.KnownBytes.{Consumes}
use Rattle.ptp_base.specs.declared.limits.TheConstants.{TEXT_MAX}
use Rattle.bc_top.proofs.read.read_to_end.Given as goal

abbrev pub invariant-loop-buffer : goal.invariant-loop-buffer
invariant-loop-buffer g l = record {
  faults : g.S.Source.faults l.source ≡ g.S.Source.faults l.initial.source;
  given : Consumes (g.S.Source.left l.initial.source) (g.S.Source.left l.source) l.text.items;
  few : vec_len l.text ≤ TEXT_MAX + 1;
}

abbrev pub decreases-loop-buffer : goal.decreases-loop-buffer
decreases-loop-buffer g l = TEXT_MAX + 1 - vec_len l.text
