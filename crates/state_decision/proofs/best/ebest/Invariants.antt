use Rattle.std.proofs.Common.{◌≡◌, ◌+◌, ◌≤◌, drop}
use Rattle.std.specs.Prelude.{if◌then◌else◌, is_some, fold, filter_map}
use Rattle.ptp_profile.specs.Best.StateDecision.{bests_of}
use Rattle.ptp_profile.specs.Best.ForeignMasters.{better, ebest}
use Rattle.state_decision.proofs.best.ebest.Given as goal

abbrev pub invariant-loop-port : goal.invariant-loop-port
invariant-loop-port g l = record {
  ebest : fold better l.best (filter_map (λ best. best) (bests_of (drop l.port-index l.ports))) ≡ ebest (bests_of l.ports);
  counted : l.steps + (if is_some l.best then 1 else 0) ≤ l.fn.steps + l.port-index;
}
