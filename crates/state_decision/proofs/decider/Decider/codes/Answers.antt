use Rattle.std.proofs.Common.{ap}
use Rattle.state_decision.proofs.lemmas.PortCodeLemmas.{codes_from}
use Rattle.state_decision.proofs.decider.Decider.codes.Goals as goal

pub loop-i-init : goal.loop-i-init
loop-i-init g c = ap (λ best. codes_from c.args.self.now.own best 1 c.args.self.now.bests) c.ebest-ebest.ensures
