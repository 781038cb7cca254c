use Rattle.std.proofs.Common.{refl}
use Rattle.std.proofs.lemmas.Result.{IfErr-weaker, on_ok_weaker}
use Rattle.bc_replay.specs.ActorSteps.{IsStepError, IsTurnError}
use Rattle.bc_replay.proofs.lemmas.ActorLoopLemmas.{lent-error, lent-level, lent-ready, lent-step}
use Rattle.bc_replay.proofs.step.take_turn.Goals as goal

pub take_ready_step-requires-clause-level : goal.take_ready_step-requires-clause-level
take_ready_step-requires-clause-level c = lent-level c.args.hub.now c.args.actors.now.items c.args.i c.index_mut.result.now c.requires.level c.requires.due c.index_mut.ensures.value

pub take_ready_step-requires-clause-ready : goal.take_ready_step-requires-clause-ready
take_ready_step-requires-clause-ready c = lent-ready c.args.hub.now c.args.actors.now.items c.args.i c.args.until c.index_mut.result.now c.requires.due c.index_mut.ensures.value c.requires.until c.requires.unbounded

pub returns-clause-step : goal.returns-clause-step
returns-clause-step c = on_ok_weaker c.take_ready_step.result
    (lent-step c.args.hub.now c.take_ready_step.new.hub c.args.actors.now.items _ c.args.i c.index_mut.result.now c.take_ready_step.new.actor c.requires.due c.index_mut.ensures.value refl) c.take_ready_step.ensures.step

pub returns-clause-error : goal.returns-clause-error
returns-clause-error c = IfErr-weaker c.take_ready_step.result (IsStepError c.args.hub.now c.index_mut.result.now) (IsTurnError c.args.hub.now c.args.actors.now.items c.args.i)
    (λ e is. lent-error c.args.hub.now c.args.actors.now.items c.args.i c.index_mut.result.now e c.requires.due c.index_mut.ensures.value is) c.take_ready_step.ensures.error
