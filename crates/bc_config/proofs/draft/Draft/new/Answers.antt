use Rattle.std.proofs.Common.{ap, length, arith}
use Rattle.std.proofs.lemmas.List.{get_or-replicate}
use Rattle.ptp_base.specs.declared.limits.TheConstants.{PORTS_MAX}
use Rattle.bc_config.proofs.draft.Draft.new.Goals as goal

pub invariant_of-result : goal.invariant_of-result
invariant_of-result c = record {
  former_ticks = λ k below. rw c.new-records.ensures (get_or-replicate PORTS_MAX k 0 0 below);
  few_clocks = omega (arith, ap length c.new-clocks.ensures);
  few_ports = omega (arith, ap length c.new-ports.ensures);
}
