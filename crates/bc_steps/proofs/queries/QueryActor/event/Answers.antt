use Rattle.std.proofs.Common.{◌≡◌, ◌∙◌, true, Some, ap, sym, subst}
use Rattle.bc_history.specs.declared.entry.Who.{Who}
use Rattle.bc_history.specs.Phases.Step.{state_of}
use Rattle.bc_history.specs.Run.Actors.{actor_of, is_same_actor}
use Rattle.bc_history.specs.Run.World.{Event, World, step_of}
use Rattle.bc_steps.proofs.lemmas.EventStepLemmas.{event-adds, input-in}
use Rattle.bc_steps.proofs.lemmas.QueryActorLemmas.{next-query, query-is_due, query-own, query-step, query-tick, some-query, world-queried}
use Rattle.bc_steps.proofs.queries.QueryActor.event.Goals as goal

pub returns-in_default-2-clause-waits : goal.returns-in_default-2-clause-waits
returns-in_default-2-clause-waits c =
    let who = sym c.kind.ensures.who in
    absurd (some-query c.args.self.now c.args.hub.now c.in-Some.tick c.kind.ensures.who c.kind.ensures.at (sym c.due.ensures.tick ∙ c.in-Some.is)
    (sym c.in_ok-input.ensures.next ∙ c.in_default-2.is))

pub serve-requires-clause-due : goal.serve-requires-clause-due
serve-requires-clause-due c =
    let who = sym c.kind.ensures.who in
    let next = next-query c.args.self.now c.args.hub.now c.in-Some-2.input c.in-Some.tick c.kind.ensures.who c.kind.ensures.at (sym c.due.ensures.tick ∙ c.in-Some.is)
    (sym c.in_ok-input.ensures.next ∙ c.in-Some-2.is) in
    query-is_due c.args.hub.now.scenario (state_of c.args.hub.now.scenario c.args.hub.now.entries) c.in-Some-2.input c.in-Some.tick next

pub serve-requires-clause-within : goal.serve-requires-clause-within
serve-requires-clause-within c =
    let next = next-query c.args.self.now c.args.hub.now c.in-Some-2.input c.in-Some.tick c.kind.ensures.who c.kind.ensures.at (sym c.due.ensures.tick ∙ c.in-Some.is)
    (sym c.in_ok-input.ensures.next ∙ c.in-Some-2.is) in
    input-in c.args.hub.now c.args.until c.in-Some.tick c.in-Some-2.input (rw (sym c.last_tick.ensures) c.if-tick-last_tick.true) (query-tick next)

pub serve-requires-clause-own : goal.serve-requires-clause-own
serve-requires-clause-own c =
    let who = sym c.kind.ensures.who in
    let next = next-query c.args.self.now c.args.hub.now c.in-Some-2.input c.in-Some.tick c.kind.ensures.who c.kind.ensures.at (sym c.due.ensures.tick ∙ c.in-Some.is)
    (sym c.in_ok-input.ensures.next ∙ c.in-Some-2.is) in
    subst (λ (w : Who). is_same_actor w (actor_of c.in-Some-2.input) ≡ true) who
    (query-own c.args.hub.now.scenario (state_of c.args.hub.now.scenario c.args.hub.now.entries) c.in-Some-2.input c.in-Some.tick next)

pub returns-clause-step : goal.returns-clause-step
returns-clause-step c = λ w done in_world.
    let who = sym c.kind.ensures.who in
    let next = next-query c.args.self.now c.args.hub.now c.in-Some-2.input c.in-Some.tick c.kind.ensures.who c.kind.ensures.at (sym c.due.ensures.tick ∙ c.in-Some.is)
    (sym c.in_ok-input.ensures.next ∙ c.in-Some-2.is) in
    ap (λ (x : Who). step_of c.args.hub.now.scenario w x) (sym who)
    ∙ query-step w c.args.hub.now c.serve.new.hub c.in-Some-2.input c.in-Some.tick in_world.entries in_world.logs next c.in_ok-serve.ensures.entry
    ∙ ap (λ (x : World). Some (Event x)) (sym (world-queried w c.serve.new.hub c.serve.new.self (c.serve.ensures.actor.who ∙ sym who)))

pub returns-clause-entry : goal.returns-clause-entry
returns-clause-entry c = λ done.
    let who = sym c.kind.ensures.who in
    let next = next-query c.args.self.now c.args.hub.now c.in-Some-2.input c.in-Some.tick c.kind.ensures.who c.kind.ensures.at (sym c.due.ensures.tick ∙ c.in-Some.is)
    (sym c.in_ok-input.ensures.next ∙ c.in-Some-2.is) in
    event-adds c.args.self.now.who c.args.hub.now c.serve.new.hub c.in-Some-2.input
    (subst (λ (w : Who). is_same_actor w (actor_of c.in-Some-2.input) ≡ true) who
    (query-own c.args.hub.now.scenario (state_of c.args.hub.now.scenario c.args.hub.now.entries) c.in-Some-2.input c.in-Some.tick next))
    c.in_ok-serve.ensures.entry
