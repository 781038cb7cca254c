use Rattle.std.proofs.Common.{of_z, to_z}
use Rattle.std.specs.Int.{w128}
use Rattle.bc_steps.proofs.lemmas.ServoBoundLemmas.{steered-askable, word-within}
use Rattle.bc_steps.proofs.port.job.steer.Goals as goal

pub returns-clause-askable : goal.returns-clause-askable
returns-clause-askable c = λ conf samples rep few.
    steered-askable c.args.steerer.now conf samples _ c.sample.result rep
    (c.sample.ensures.answer conf samples rep) (word-within (to_z w128 (of_z w128 c.args.measure.now.offset)) c.to_ns-offset.result c.to_ns-offset.ensures)
    c.sample.ensures.gentle few
