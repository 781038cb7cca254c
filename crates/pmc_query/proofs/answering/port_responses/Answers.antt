use Rattle.pmc_query.specs.AnsweredSets.{answering}
use Rattle.pmc_query.proofs.lemmas.AnswerLemmas.{port_answered}
use Rattle.pmc_query.proofs.answering.port_responses.Goals as goal

pub loop-port-preserved : goal.loop-port-preserved
loop-port-preserved c = record {
  so_far = port_answered (answering c.args.d.now) c.args.r.now c.items-ports.result.now c.loop-port.port-index _ c.loop-port.made _ _ c.loop-port-test.true c.loop-port.invariant.so_far c.in_ok-add_response.ensures.made;
  shown = c.in_ok-add_response.ensures.shown;
}
