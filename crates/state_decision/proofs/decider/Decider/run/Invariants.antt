use Rattle.std.proofs.Common.{◌≡◌, drop, length}
use Rattle.state_decision.specs.PortSets.{ports_after}
use Rattle.state_decision.proofs.decider.Decider.run.Given as goal

abbrev pub invariant-loop-port : goal.invariant-loop-port
invariant-loop-port g l = record {
  own : l.self.own ≡ l.fn.self.own;
  length : length l.self.bests ≡ length l.fn.self.bests;
  bests : ports_after (drop l.port-index l.sets) l.self.bests ≡ ports_after l.sets l.fn.self.bests;
}
