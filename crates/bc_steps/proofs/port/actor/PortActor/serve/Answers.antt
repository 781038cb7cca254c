use Rattle.std.proofs.Common.{refl, sym, ap, subst, ◌≡◌, ◌∙◌, ◌∷◌, true}
use Rattle.bc_history.specs.declared.entry.Who.{Who}
use Rattle.bc_history.specs.declared.entry.Who.TheVariants.{Port}
use Rattle.bc_history.specs.declared.scenario.Scenario.{Scenario}
use Rattle.bc_history.specs.Run.Actors.{actor_of, is_same_actor}
use Rattle.bc_history.specs.Run.PortPlace.{place_by_entries}
use Rattle.bc_history.specs.Run.World.{Of_port}
use Rattle.hub_core.specs.HubView.{HubState}
use Rattle.bc_steps.specs.ActorView.{ActorState, IsLevel}
use Rattle.bc_steps.specs.PortActors.{port_actor_view}
use Rattle.bc_steps.specs.declared.port.actor.PortActor.TheInside.{Inside}
use Rattle.bc_steps.proofs.lemmas.ServedPortLemmas.{HasMade, actor-served, entry_of, place-served, served}
use Rattle.bc_steps.proofs.port.actor.PortActor.serve.Goals as goal

-- the actor after the event
abbrev after : goal.After-self-1 → Inside
after c = record {
  alloc = c.self.inside.alloc;
  scenario = c.self.inside.scenario;
  history = c.of.result;
  number = c.self.inside.number;
  duration = c.self.inside.duration;
  records = c.take_next.new.queue;
  steerer = c.take_measure-self-inside.new.steerer;
  place = c.take_measure-self-inside.result;
}

level : (c : goal.After-self-1) → IsLevel c.args.hub.now (port_actor_view c.self.inside)
level c = subst (λ (a : ActorState). IsLevel c.args.hub.now a) (sym c.self.view_is) c.requires.level

made : (c : goal.After-self-1)
    → HasMade c.self.inside (after c) c.args.hub.now c.take_event.new.hub c.args.input c.newest_seen-seen.result c.newest_measure-measure.result c.tick_of-tick.result
    c.is_record_of-is_record.result
made c = record {
  level = (level c).scenario;
  scenario = refl;
  number = refl;
  duration = refl;
  entry = c.in_ok-take_event.ensures.entry;
  history = c.rules.ensures.history;
  kept = c.of.ensures ∙ c.entries.ensures;
  own = subst (λ (w : Who). is_same_actor w (actor_of c.args.input) ≡ true) (sym (ap (λ (a : ActorState). a.who) c.self.view_is)) c.requires.own;
  measure_is = c.newest_measure-measure.ensures;
  tick_is = c.tick_of-tick.ensures;
  seen_is = c.newest_seen-seen.ensures;
  record_is = c.is_record_of-is_record.ensures;
  place = c.take_measure-self-inside.ensures.place;
  steers = c.take_measure-self-inside.ensures.steers;
  askable = c.take_measure-self-inside.ensures.askable;
  records = c.take_next.ensures;
}

pub invariant_of-self : goal.invariant_of-self
invariant_of-self c =
    actor-served c.self.inside (after c) c.args.hub.now.entries (entry_of c.args.hub.now c.take_event.new.hub c.args.input) c.self.invariant
    (level c).entries (served c.self.inside (after c) c.args.hub.now c.take_event.new.hub c.args.input c.newest_seen-seen.result c.newest_measure-measure.result c.tick_of-tick.result
    c.is_record_of-is_record.result (made c))

pub returns-clause-place : goal.returns-clause-place
returns-clause-place c = λ p is.
    let e = entry_of c.args.hub.now c.take_event.new.hub c.args.input in
    let i : Inside = c.self.inside in
    let who : Port i.number ≡ Port p = ap (λ (a : ActorState). a.who) c.self.view_is ∙ is in
    let number : i.number ≡ p = cc in
    let placed = place-served i (after c) c.args.hub.now.entries e c.self.invariant (level c).entries
    (served i (after c) c.args.hub.now c.take_event.new.hub c.args.input c.newest_seen-seen.result c.newest_measure-measure.result c.tick_of-tick.result
    c.is_record_of-is_record.result (made c)) in
    ap (λ place. Of_port place) (placed ∙ ap (λ n. place_by_entries i.scenario.value.options n (e ∷ c.args.hub.now.entries)) number
    ∙ ap (λ (s : Scenario). place_by_entries s.options p (e ∷ c.args.hub.now.entries)) (level c).scenario
    ∙ ap (λ (h : HubState). place_by_entries c.args.hub.now.scenario.options p h.entries) (sym c.in_ok-take_event.ensures.entry))
