use Rattle.std.proofs.Common.{◌+◌, ◌∙◌, arith}
use Rattle.std.proofs.lemmas.List.{length-set}
use Rattle.state_decision.proofs.lemmas.PassWinnersLemmas.{winners-more}
use Rattle.state_decision.proofs.passes.renew_winners.Goals as goal

pub loop-p-preserved : goal.loop-p-preserved
loop-p-preserved g c = record {
  length = length-set c.loop-p.winners.items (c.loop-p.p + 1) c.winner_after.result ∙ c.loop-p.invariant.length;
  winners = winners-more c.loop-p.p c.args.bests.now c.loop-p.winners.items c.index.result.now c.winner_after.result _ c.loop-p-test.true c.loop-p.invariant.length c.loop-p.invariant.winners c.index.ensures c.winner_after.ensures.winner;
  counted = omega (arith, c.winner_after.ensures.counted, c.loop-p.invariant.counted);
}
