use Rattle.std.proofs.Common.{◌≡◌, ◌∙◌, ◌∷◌, true, refl, sym, ap, subst, arith}
use Rattle.bc_history.specs.declared.entry.Who.{Who}
use Rattle.bc_history.specs.declared.entry.Who.TheVariants.{Follower}
use Rattle.bc_history.specs.Run.Actors.{actor_of, is_same_actor}
use Rattle.bc_history.specs.Run.FollowerPlace.{follower_place_by_entries}
use Rattle.bc_history.specs.declared.place.FollowerPlace.{FollowerPlace}
use Rattle.bc_history.specs.Run.World.{Of_follower, Place}
use Rattle.hub_core.specs.HubView.{HubState}
use Rattle.bc_steps.specs.ActorView.{ActorState, IsLevel}
use Rattle.bc_steps.specs.FollowerJob.{IsInputAt}
use Rattle.bc_steps.specs.declared.follower.actor.FollowerActor.TheInside.{Inside}
use Rattle.bc_steps.proofs.lemmas.OwnFollowerLemmas.{turns-few, turns-same}
use Rattle.bc_steps.proofs.lemmas.ServedFollowerLemmas.{HasMadeFollower, follower-served, made-follower, place-follower}
use Rattle.bc_steps.proofs.lemmas.ServedPortLemmas.{entry_of}
use Rattle.bc_steps.proofs.follower.actor.FollowerActor.serve.Goals as goal

pub turns_served-self-inside-requires : goal.turns_served-self-inside-requires
turns_served-self-inside-requires c =
    let level = subst (λ (a : ActorState). IsLevel c.args.hub.now a) (sym c.self.view_is) c.requires.level in
    let same = turns-same c.self.inside c.args.hub.now.entries c.self.invariant level.entries in
    let most = turns-few c.self.inside.clock c.args.hub.now.entries in
    let few = c.requires.few in
    omega (arith, same, most, few)

pub invariant_of-self : goal.invariant_of-self
invariant_of-self c =
    let i : Inside = c.self.inside in
    let j : Inside = record i { history = c.of.result; turns = c.turns_served-self-inside.result; place = c.place_told-self-inside.result } in
    let hub = c.args.hub.now in
    let new = c.take_event.new.hub in
    let e = entry_of hub new c.args.input in
    let level = subst (λ (a : ActorState). IsLevel hub a) (sym c.self.view_is) c.requires.level in
    let made : HasMadeFollower i j hub new c.args.input c.newest_told.result c.tick_of-tick.result = record {
      level = level;
      alike = refl;
      entry = c.in_ok-take_event.ensures.entry;
      history = c.rules.ensures.history;
      kept = c.of.ensures ∙ c.entries.ensures;
      own = subst (λ (w : Who). is_same_actor w (actor_of c.args.input) ≡ true) (sym (ap (λ (a : ActorState). a.who) c.self.view_is)) c.requires.own;
      next = subst (λ (p : Place). IsInputAt p c.args.input) (sym (ap (λ (a : ActorState). a.place) c.self.view_is)) c.requires.next;
      told_is = c.newest_told.ensures;
      tick_is = c.tick_of-tick.ensures;
      place = c.place_told-self-inside.ensures;
      turns = c.turns_served-self-inside.ensures;
    } in
    let served = made-follower i j hub new c.args.input c.newest_told.result c.tick_of-tick.result made in
    follower-served i j hub.entries e c.self.invariant level.entries served

pub returns-clause-place : goal.returns-clause-place
returns-clause-place c = λ n is.
    let i : Inside = c.self.inside in
    let j : Inside = record i { history = c.of.result; turns = c.turns_served-self-inside.result; place = c.place_told-self-inside.result } in
    let hub = c.args.hub.now in
    let new = c.take_event.new.hub in
    let e = entry_of hub new c.args.input in
    let level = subst (λ (a : ActorState). IsLevel hub a) (sym c.self.view_is) c.requires.level in
    let made : HasMadeFollower i j hub new c.args.input c.newest_told.result c.tick_of-tick.result = record {
      level = level;
      alike = refl;
      entry = c.in_ok-take_event.ensures.entry;
      history = c.rules.ensures.history;
      kept = c.of.ensures ∙ c.entries.ensures;
      own = subst (λ (w : Who). is_same_actor w (actor_of c.args.input) ≡ true) (sym (ap (λ (a : ActorState). a.who) c.self.view_is)) c.requires.own;
      next = subst (λ (p : Place). IsInputAt p c.args.input) (sym (ap (λ (a : ActorState). a.place) c.self.view_is)) c.requires.next;
      told_is = c.newest_told.ensures;
      tick_is = c.tick_of-tick.ensures;
      place = c.place_told-self-inside.ensures;
      turns = c.turns_served-self-inside.ensures;
    } in
    let served = made-follower i j hub new c.args.input c.newest_told.result c.tick_of-tick.result made in
    let who : Follower i.clock ≡ Follower n = ap (λ (a : ActorState). a.who) c.self.view_is ∙ is in
    let clock : i.clock ≡ n = cc in
    ap (λ (p : FollowerPlace). Of_follower p) (place-follower i j hub.entries e served
    ∙ (ap (λ k. follower_place_by_entries k (e ∷ hub.entries)) clock
    ∙ ap (λ (h : HubState). follower_place_by_entries n h.entries) (sym c.in_ok-take_event.ensures.entry)))
