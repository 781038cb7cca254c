use Rattle.std.proofs.Common.{◌≡◌, ◌+◌, ◌++◌, drop, take}
use Rattle.ptp_profile.specs.Best.StateDecision.{codes_of}
use Rattle.state_decision.proofs.lemmas.PortCodeLemmas.{codes_from}
use Rattle.state_decision.proofs.decider.Decider.codes.Given as goal

abbrev pub invariant-loop-i : goal.invariant-loop-i
invariant-loop-i g l =
    take l.i l.out ++ codes_from l.self.own l.ebest (l.i + 1) (drop l.i l.self.bests) ≡ codes_of l.self.own l.self.bests
