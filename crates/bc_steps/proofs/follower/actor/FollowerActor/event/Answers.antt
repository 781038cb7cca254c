use Rattle.std.proofs.Common.{◌≡◌, ◌∙◌, true, Some, ap, sym, subst}
use Rattle.bc_history.specs.declared.entry.Who.{Who}
use Rattle.bc_history.specs.declared.entry.Who.TheVariants.{Follower}
use Rattle.bc_history.specs.Run.Actors.{actor_of, is_same_actor}
use Rattle.bc_history.specs.Run.World.{Event, Place, step_of, with_place}
use Rattle.bc_steps.specs.ActorView.{ActorState, IsIn}
use Rattle.bc_steps.specs.FollowerActors.{follower_actor_view}
use Rattle.bc_steps.specs.FollowerJob.{follower_input}
use Rattle.bc_steps.specs.declared.follower.actor.FollowerActor.TheInside.{Inside}
use Rattle.bc_steps.proofs.lemmas.EventStepLemmas.{event-adds, input-in}
use Rattle.bc_steps.proofs.lemmas.FollowerStepLemmas.{turn-due, turn-is_due, turn-step, turn-tick}
use Rattle.bc_steps.proofs.lemmas.OwnFollowerLemmas.{turns-within}
use Rattle.bc_steps.proofs.follower.actor.FollowerActor.event.Goals as goal

pub turn_after-turn-requires-clause-turns : goal.turn_after-turn-requires-clause-turns
turn_after-turn-requires-clause-turns c = turns-within c.self.inside c.self.invariant

pub serve-requires-clause-due : goal.serve-requires-clause-due
serve-requires-clause-due c =
    let i : Inside = c.self.inside in
    let hub = c.args.hub.now in
    let due = turn-due i c.args.self.now hub c.in-Some-input_at.input c.in-Some.tick c.self.invariant c.self.view_is c.requires.level
    c.rules.ensures.history.continues
    (ap (λ n. follower_input i.clock n i.place) (sym c.turn_after-turn.ensures) ∙ (sym c.input_at.ensures ∙ c.in-Some-input_at.is))
    (sym (c.due.ensures.tick hub c.requires.level) ∙ c.in-Some.is) in
    turn-is_due hub.scenario i hub.entries c.in-Some-input_at.input due

pub serve-requires-clause-within : goal.serve-requires-clause-within
serve-requires-clause-within c =
    let i : Inside = c.self.inside in
    let hub = c.args.hub.now in
    let at = turn-tick i c.args.self.now hub c.in-Some-input_at.input c.in-Some.tick c.self.invariant c.self.view_is c.requires.level
    (ap (λ n. follower_input i.clock n i.place) (sym c.turn_after-turn.ensures) ∙ (sym c.input_at.ensures ∙ c.in-Some-input_at.is))
    (sym (c.due.ensures.tick hub c.requires.level) ∙ c.in-Some.is) in
    input-in hub c.args.until c.in-Some.tick c.in-Some-input_at.input (rw (sym c.last_tick.ensures) c.if-tick-last_tick.true) at

pub returns-clause-step : goal.returns-clause-step
returns-clause-step c = λ w done in_world.
    let i : Inside = c.self.inside in
    let hub = c.args.hub.now in
    let due = turn-due i c.args.self.now hub c.in-Some-input_at.input c.in-Some.tick c.self.invariant c.self.view_is c.requires.level
    c.rules.ensures.history.continues
    (ap (λ n. follower_input i.clock n i.place) (sym c.turn_after-turn.ensures) ∙ (sym c.input_at.ensures ∙ c.in-Some-input_at.is))
    (sym (c.due.ensures.tick hub c.requires.level) ∙ c.in-Some.is) in
    let who : Follower i.clock ≡ c.args.self.now.who = ap (λ (a : ActorState). a.who) c.self.view_is in
    let own : IsIn w hub (follower_actor_view i) = subst (λ (a : ActorState). IsIn w hub a) (sym c.self.view_is) in_world in
    let step = turn-step i w hub c.serve.new.hub c.in-Some-input_at.input due own c.in_ok-serve.ensures.entry in
    let placed = c.in_ok-serve.ensures.place i.clock (sym who) in
    let new_who = c.serve.ensures.actor.who ∙ sym who in
    ap (λ (x : Who). step_of hub.scenario w x) (sym who)
    ∙ (step
    ∙ (ap (λ (place : Place). Some (Event (with_place (Follower i.clock) place (record w { entries = c.serve.new.hub.entries; logs = c.serve.new.hub.logs })))) (sym placed)
    ∙ ap (λ (x : Who). Some (Event (with_place x c.serve.new.self.place (record w { entries = c.serve.new.hub.entries; logs = c.serve.new.hub.logs })))) (sym new_who)))

pub returns-clause-entry : goal.returns-clause-entry
returns-clause-entry c = λ done.
    let i : Inside = c.self.inside in
    let hub = c.args.hub.now in
    let due = turn-due i c.args.self.now hub c.in-Some-input_at.input c.in-Some.tick c.self.invariant c.self.view_is c.requires.level
    c.rules.ensures.history.continues
    (ap (λ n. follower_input i.clock n i.place) (sym c.turn_after-turn.ensures) ∙ (sym c.input_at.ensures ∙ c.in-Some-input_at.is))
    (sym (c.due.ensures.tick hub c.requires.level) ∙ c.in-Some.is) in
    let who : Follower i.clock ≡ c.args.self.now.who = ap (λ (a : ActorState). a.who) c.self.view_is in
    event-adds c.args.self.now.who hub c.serve.new.hub c.in-Some-input_at.input
    (subst (λ (x : Who). is_same_actor x (actor_of c.in-Some-input_at.input) ≡ true) who due.mine) c.in_ok-serve.ensures.entry
