use Rattle.std.proofs.Common.{ap, ◌∙◌, Ok, Err}
use Rattle.std.specs.Prelude.{Bool}
use Rattle.hub_core.specs.declared.hub.HubError.{HubError}
use Rattle.bc_replay.proofs.lemmas.ActorStepLemmas.{event-made, refused-result}
use Rattle.bc_replay.proofs.step.take_event.Goals as goal

pub returns-in_err-taken-clause-error : goal.returns-in_err-taken-clause-error
returns-in_err-taken-clause-error c =
    refused-result c.args.until c.args.hub.now c.args.actor.now c.in_err-taken.field-0.0 c.from_residual.result c.requires.inside
    (λ events. c.in_err-taken.ensures.events.0 (ap (λ (e : HubError). Err e) events)) c.from_residual.ensures.1

pub returns-clause-step : goal.returns-clause-step
returns-clause-step c = λ is.
    event-made c.args.until c.args.hub.now c.event.new.hub c.args.actor.now c.event.new.self c.event.result
    (record {
      few = c.requires.few;
      step = c.event.ensures.step;
      waits = c.event.ensures.waits.1;
      events = λ ready full. c.event.ensures.events.1 (ready, full);
      entry = c.event.ensures.entry;
      level = c.event.ensures.level;
      actor = c.event.ensures.actor;
      kind = c.kind.ensures.place;
      job = c.kind.ensures.job;
    })
    (c.in_ok-taken.was ∙ is)
