use Rattle.std.proofs.Common.{◌≡◌, ◌∙◌, true, Some, ap, sym, subst, arith, refl, length, List}
use Rattle.std.proofs.lemmas.List.{length-reverse}
use Rattle.bc_history.specs.declared.entry.Entry.{Entry}
use Rattle.bc_history.specs.declared.entry.Who.{Who}
use Rattle.bc_history.specs.declared.entry.Who.TheVariants.{Port}
use Rattle.bc_history.specs.Run.Actors.{actor_of, is_same_actor}
use Rattle.bc_history.specs.Run.World.{Event, Place, step_of, with_place}
use Rattle.bc_steps.specs.ActorView.{ActorState, IsIn, due_tick, last_tick}
use Rattle.bc_steps.specs.PortActors.{port_actor_view}
use Rattle.bc_steps.proofs.lemmas.EventStepLemmas.{IsDueEvent, event-adds, event-due, event-is_due, event-step, input-in, ready-by, some-input}
use Rattle.bc_steps.proofs.port.actor.PortActor.event.Goals as goal

-- the event that was found is due
due : (c : goal.After-serve-arg-2-1)
    → IsDueEvent c.args.hub.now.scenario c.self.inside c.args.hub.now.entries c.in-Some-2.input c.in-Some.tick
due c =
    event-due c.self.inside c.args.self.now c.args.hub.now c.self.inside.records c.due-timer.result c.in-Some-2.input c.in-Some.tick
    c.self.invariant c.self.view_is c.requires.level c.rules.ensures.history.continues refl c.due-timer.ensures
    (sym c.in_ok-input.ensures ∙ c.in-Some-2.is) (sym c.due.ensures.tick ∙ c.in-Some.is)

-- the same, once it was served
served : (c : goal.In_ok-serve)
    → IsDueEvent c.args.hub.now.scenario c.self.inside c.args.hub.now.entries c.in-Some-2.input c.in-Some.tick
served c =
    event-due c.self.inside c.args.self.now c.args.hub.now c.self.inside.records c.due-timer.result c.in-Some-2.input c.in-Some.tick
    c.self.invariant c.self.view_is c.requires.level c.rules.ensures.history.continues refl c.due-timer.ensures
    (sym c.in_ok-input.ensures ∙ c.in-Some-2.is) (sym c.due.ensures.tick ∙ c.in-Some.is)

pub serve-requires-clause-due : goal.serve-requires-clause-due
serve-requires-clause-due c =
    event-is_due c.args.hub.now.scenario c.self.inside c.args.hub.now.entries c.in-Some-2.input c.in-Some.tick (due c)

pub serve-requires-clause-within : goal.serve-requires-clause-within
serve-requires-clause-within c =
    input-in c.args.hub.now c.args.until c.in-Some.tick c.in-Some-2.input (rw (sym c.last_tick.ensures) c.if-tick-last_tick.true) (due c).event.tick_is

pub returns-then-len-clause-events : goal.returns-then-len-clause-events
returns-then-len-clause-events c =
    let ready = ready-by (last_tick c.args.hub.now c.args.until) c.in-Some.tick (due_tick c.args.hub.now c.args.self.now) (sym c.due.ensures.tick ∙ c.in-Some.is)
    (rw (sym c.last_tick.ensures) c.if-tick-last_tick.true) in
    let long = c.len.ensures ∙ ap (λ (es : List Entry). length es) c.entries.ensures ∙ length-reverse c.args.hub.now.entries in
    ((λ _. (ready, omega (arith, long, c.if-len.true, c.rules.ensures.history.few))), (λ _. refl))

pub returns-in_default-2-clause-waits : goal.returns-in_default-2-clause-waits
returns-in_default-2-clause-waits c =
    absurd (some-input c.self.inside c.args.self.now c.args.hub.now c.self.inside.records c.due-timer.result c.in-Some.tick
    c.self.invariant c.self.view_is c.requires.level c.requires.inside refl c.due-timer.ensures
    (sym c.due.ensures.tick ∙ c.in-Some.is) (sym c.in_ok-input.ensures ∙ c.in_default-2.is))

pub returns-clause-step : goal.returns-clause-step
returns-clause-step c = λ w done in_world.
    let i = c.self.inside in
    let who : Port i.number ≡ c.args.self.now.who = ap (λ (a : ActorState). a.who) c.self.view_is in
    let own : IsIn w c.args.hub.now (port_actor_view i) = subst (λ (a : ActorState). IsIn w c.args.hub.now a) (sym c.self.view_is) in_world in
    let step = event-step i w c.args.hub.now c.serve.new.hub c.in-Some-2.input c.in-Some.tick (served c) own c.in_ok-serve.ensures.entry in
    let placed = c.in_ok-serve.ensures.place i.number (sym who) in
    let new_who = c.serve.ensures.actor.who ∙ sym who in
    ap (λ (x : Who). step_of c.args.hub.now.scenario w x) (sym who) ∙ step
    ∙ ap (λ (place : Place). Some (Event (with_place (Port i.number) place (record w { entries = c.serve.new.hub.entries; logs = c.serve.new.hub.logs }))))
    (sym placed)
    ∙ ap (λ (x : Who). Some (Event (with_place x c.serve.new.self.place (record w { entries = c.serve.new.hub.entries; logs = c.serve.new.hub.logs }))))
    (sym new_who)

pub returns-clause-entry : goal.returns-clause-entry
returns-clause-entry c = λ done.
    let who : Port c.self.inside.number ≡ c.args.self.now.who = ap (λ (a : ActorState). a.who) c.self.view_is in
    event-adds c.args.self.now.who c.args.hub.now c.serve.new.hub c.in-Some-2.input
    (subst (λ (x : Who). is_same_actor x (actor_of c.in-Some-2.input) ≡ true) who (served c).event.own) c.in_ok-serve.ensures.entry
