use Rattle.std.proofs.Common.{arith, ap}
use Rattle.state_decision.proofs.lemmas.PortCodeLemmas.{codes_from}
use Rattle.state_decision.proofs.decision.decide_all.Goals as goal

pub loop-i-init : goal.loop-i-init
loop-i-init g c = record {
  codes = ap (λ best. codes_from c.args.own.now best 1 c.args.bests.now) c.ebest-best.ensures.ebest;
  counted = omega (arith, c.ebest-best.ensures.counted, c.wins_against-own_over_ebest.ensures.counted);
}
