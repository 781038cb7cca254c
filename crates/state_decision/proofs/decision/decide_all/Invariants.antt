use Rattle.std.proofs.Common.{◌≡◌, ◌+◌, ◌*◌, ◌≤◌, ◌++◌, drop, length, take}
use Rattle.ptp_profile.specs.Best.StateDecision.{codes_of}
use Rattle.state_decision.proofs.lemmas.PortCodeLemmas.{codes_from}
use Rattle.state_decision.proofs.decision.decide_all.Given as goal

abbrev pub invariant-loop-i : goal.invariant-loop-i
invariant-loop-i g l = record {
  codes : take l.i l.out ++ codes_from l.own l.best (l.i + 1) (drop l.i l.bests) ≡ codes_of l.own l.bests;
  counted : l.steps ≤ l.fn.steps + length l.bests + 2 * l.i;
}
