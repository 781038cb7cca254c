use Rattle.std.proofs.Common.{◌≡◌, ◌+◌, ◌≤◌, ◌++◌, drop, length, map, take}
use Rattle.ptp_profile.specs.declared.port_best.PortBest.{PortBest}
use Rattle.ptp_profile.specs.Best.StateDecision.{wins_by_topology}
use Rattle.state_decision.proofs.passes.renew_topology.Given as goal

abbrev pub invariant-loop-i : goal.invariant-loop-i
invariant-loop-i g l =
    let wins = λ (b : PortBest). wins_by_topology l.ebest b.best in
    record {
      length : length l.by_topology.items ≡ length l.bests;
      topology : take l.i l.by_topology.items ++ map wins (drop l.i l.bests) ≡ map wins l.bests;
      counted : l.steps ≤ l.fn.steps + l.i;
    }
