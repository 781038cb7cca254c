use Rattle.std.proofs.Common.{◌≡◌, ◌∙◌, Some, ap, sym, subst}
use Rattle.bc_history.specs.declared.entry.Who.{Who}
use Rattle.bc_history.specs.declared.entry.Who.TheVariants.{Follower as A_follower}
use Rattle.bc_history.specs.declared.place.FollowerPlace.{FollowerPlace}
use Rattle.bc_history.specs.declared.place.FollowerPlace.TheVariants.{ReadsOwn, Samples}
use Rattle.bc_history.specs.declared.scenario.Scenario.{Scenario}
use Rattle.bc_history.specs.Run.FollowerPlace.{after_follower_reading}
use Rattle.bc_history.specs.Run.Samples.{follower_samples}
use Rattle.bc_history.specs.Run.World.{Free, World, held_by, seen_at, step_of}
use Rattle.hub_core.specs.HubView.{HubState, clock_reading}
use Rattle.bc_steps.specs.ActorView.{ActorState, IsIn, IsLevel}
use Rattle.bc_steps.specs.ExchangeBounds.{outcome_at}
use Rattle.bc_steps.specs.FollowerActors.{follower_actor_view}
use Rattle.bc_steps.specs.declared.follower.actor.FollowerActor.TheInside.{Inside}
use Rattle.bc_steps.proofs.lemmas.FollowerStepLemmas.{fewer-exchanged, fewer-own, level-exchanged, level-placed, own_clock-step, same-placed, swap-step, theirs-step, with_job, world-same, world-swapped}
use Rattle.bc_steps.proofs.follower.actor.FollowerActor.free.Goals as goal

pub returns-in-ReadsTheirs-clause-step : goal.returns-in-ReadsTheirs-clause-step
returns-in-ReadsTheirs-clause-step c = λ w in_world.
    let i : Inside = c.self.inside in
    let a = c.args.self.now in
    let hub = c.args.hub.now in
    let who : A_follower i.clock ≡ a.who = ap (λ (x : ActorState). x.who) c.self.view_is in
    let level : IsLevel hub (follower_actor_view i) = subst (IsLevel hub) (sym c.self.view_is) c.requires.level in
    let tick = c.in-ReadsTheirs.tick in
    let lead = c.in-ReadsTheirs.lead in
    let own : IsIn w hub (follower_actor_view i) = subst (λ (x : ActorState). IsIn w hub x) (sym c.self.view_is) in_world in
    ap (λ (x : Who). step_of hub.scenario w x) (sym who)
    ∙ (theirs-step i w hub tick lead c.self.invariant level c.in-ReadsTheirs.is own
    ∙ ap (λ (x : World). Some (Free x))
    (world-same i a c.read_theirs.new.self hub w (ReadsOwn tick lead (seen_at tick (clock_reading hub lead.source))) c.self.view_is c.read_theirs.ensures))

pub returns-in-ReadsOwn-clause-step : goal.returns-in-ReadsOwn-clause-step
returns-in-ReadsOwn-clause-step c = λ w in_world.
    let i : Inside = c.self.inside in
    let a = c.args.self.now in
    let hub = c.args.hub.now in
    let who : A_follower i.clock ≡ a.who = ap (λ (x : ActorState). x.who) c.self.view_is in
    let level : IsLevel hub (follower_actor_view i) = subst (IsLevel hub) (sym c.self.view_is) c.requires.level in
    let made = c.read_own.ensures i.clock (sym who) in
    let samples = follower_samples i.clock hub.entries in
    let seen = seen_at c.in-ReadsOwn.tick (clock_reading hub i.clock) in
    let place = after_follower_reading a.scenario.options samples seen (ReadsOwn c.in-ReadsOwn.tick c.in-ReadsOwn.lead c.in-ReadsOwn.theirs) in
    let at_hub = after_follower_reading hub.scenario.options samples seen (ReadsOwn c.in-ReadsOwn.tick c.in-ReadsOwn.lead c.in-ReadsOwn.theirs) in
    let own : IsIn w hub (follower_actor_view i) = subst (λ (x : ActorState). IsIn w hub x) (sym c.self.view_is) in_world in
    let options : at_hub ≡ place =
    ap (λ (s : Scenario). after_follower_reading s.options samples seen (ReadsOwn c.in-ReadsOwn.tick c.in-ReadsOwn.lead c.in-ReadsOwn.theirs))
    (sym c.requires.level.scenario) in
    ap (λ (x : Who). step_of hub.scenario w x) (sym who)
    ∙ (own_clock-step i w hub c.in-ReadsOwn.tick c.in-ReadsOwn.lead c.in-ReadsOwn.theirs c.self.invariant level c.in-ReadsOwn.is own
    ∙ (ap (λ (p : FollowerPlace). Some (Free (with_job w i.clock hub.entries hub.logs p))) options
    ∙ ap (λ (x : World). Some (Free x)) (world-same i a c.read_own.new.self hub w place c.self.view_is made)))

pub returns-in-ReadsOwn-clause-fewer : goal.returns-in-ReadsOwn-clause-fewer
returns-in-ReadsOwn-clause-fewer c =
    let i : Inside = c.self.inside in
    let a = c.args.self.now in
    let hub = c.args.hub.now in
    let who : A_follower i.clock ≡ a.who = ap (λ (x : ActorState). x.who) c.self.view_is in
    let level : IsLevel hub (follower_actor_view i) = subst (IsLevel hub) (sym c.self.view_is) c.requires.level in
    let made = c.read_own.ensures i.clock (sym who) in
    let samples = follower_samples i.clock hub.entries in
    let seen = seen_at c.in-ReadsOwn.tick (clock_reading hub i.clock) in
    let place = after_follower_reading a.scenario.options samples seen (ReadsOwn c.in-ReadsOwn.tick c.in-ReadsOwn.lead c.in-ReadsOwn.theirs) in
    fewer-own i a c.read_own.new.self c.in-ReadsOwn.tick c.in-ReadsOwn.lead c.in-ReadsOwn.theirs seen a.scenario.options samples c.self.view_is
    c.in-ReadsOwn.is made

pub returns-in-ReadsOwn-clause-level : goal.returns-in-ReadsOwn-clause-level
returns-in-ReadsOwn-clause-level c =
    let i : Inside = c.self.inside in
    let a = c.args.self.now in
    let hub = c.args.hub.now in
    let who : A_follower i.clock ≡ a.who = ap (λ (x : ActorState). x.who) c.self.view_is in
    let level : IsLevel hub (follower_actor_view i) = subst (IsLevel hub) (sym c.self.view_is) c.requires.level in
    let made = c.read_own.ensures i.clock (sym who) in
    let samples = follower_samples i.clock hub.entries in
    let seen = seen_at c.in-ReadsOwn.tick (clock_reading hub i.clock) in
    let place = after_follower_reading a.scenario.options samples seen (ReadsOwn c.in-ReadsOwn.tick c.in-ReadsOwn.lead c.in-ReadsOwn.theirs) in
    level-placed a c.read_own.new.self hub place c.requires.level made

pub returns-in-ReadsOwn-clause-actor : goal.returns-in-ReadsOwn-clause-actor
returns-in-ReadsOwn-clause-actor c =
    let i : Inside = c.self.inside in
    let a = c.args.self.now in
    let hub = c.args.hub.now in
    let who : A_follower i.clock ≡ a.who = ap (λ (x : ActorState). x.who) c.self.view_is in
    let level : IsLevel hub (follower_actor_view i) = subst (IsLevel hub) (sym c.self.view_is) c.requires.level in
    let made = c.read_own.ensures i.clock (sym who) in
    let samples = follower_samples i.clock hub.entries in
    let seen = seen_at c.in-ReadsOwn.tick (clock_reading hub i.clock) in
    let place = after_follower_reading a.scenario.options samples seen (ReadsOwn c.in-ReadsOwn.tick c.in-ReadsOwn.lead c.in-ReadsOwn.theirs) in
    same-placed a c.read_own.new.self place made

pub returns-in_ok-exchange-in-Exchanges-clause-step : goal.returns-in_ok-exchange-in-Exchanges-clause-step
returns-in_ok-exchange-in-Exchanges-clause-step c = λ w in_world.
    let i : Inside = c.self.inside in
    let a = c.args.self.now in
    let hub = c.args.hub.now in
    let who : A_follower i.clock ≡ a.who = ap (λ (x : ActorState). x.who) c.self.view_is in
    let level : IsLevel hub (follower_actor_view i) = subst (IsLevel hub) (sym c.self.view_is) c.requires.level in
    let t = c.in-Exchanges.tick in
    let lead = c.in-Exchanges.lead in
    let made = c.in_ok-exchange-in-Exchanges.ensures.place i.clock (sym who) in
    let changed = c.in_ok-exchange-in-Exchanges.ensures.hub i.clock (sym who) in
    let outcome = outcome_at hub (held_by i.clock lead) t c.in-Exchanges.action in
    let place = Samples t lead c.in-Exchanges.theirs c.in-Exchanges.own c.in-Exchanges.action outcome in
    let own : IsIn w hub (follower_actor_view i) = subst (λ (x : ActorState). IsIn w hub x) (sym c.self.view_is) in_world in
    ap (λ (x : Who). step_of hub.scenario w x) (sym who)
    ∙ (swap-step i w hub t lead c.in-Exchanges.theirs c.in-Exchanges.own c.in-Exchanges.action c.self.invariant level c.in-Exchanges.is own
    ∙ ap (λ (x : World). Some (Free x))
    (world-swapped i a c.exchange.new.self hub c.exchange.new.hub w t lead c.in-Exchanges.action place c.self.view_is changed made))

pub returns-in_ok-exchange-in-Exchanges-clause-hub : goal.returns-in_ok-exchange-in-Exchanges-clause-hub
returns-in_ok-exchange-in-Exchanges-clause-hub c =
    let i : Inside = c.self.inside in
    let a = c.args.self.now in
    let hub = c.args.hub.now in
    let who : A_follower i.clock ≡ a.who = ap (λ (x : ActorState). x.who) c.self.view_is in
    let level : IsLevel hub (follower_actor_view i) = subst (IsLevel hub) (sym c.self.view_is) c.requires.level in
    let t = c.in-Exchanges.tick in
    let lead = c.in-Exchanges.lead in
    let made = c.in_ok-exchange-in-Exchanges.ensures.place i.clock (sym who) in
    let changed = c.in_ok-exchange-in-Exchanges.ensures.hub i.clock (sym who) in
    let outcome = outcome_at hub (held_by i.clock lead) t c.in-Exchanges.action in
    let place = Samples t lead c.in-Exchanges.theirs c.in-Exchanges.own c.in-Exchanges.action outcome in
    record {
      scenario = ap (λ (h : HubState). h.scenario) changed;
      entries = ap (λ (h : HubState). h.entries) changed;
      windows = ap (λ (h : HubState). h.windows) changed;
    }

pub returns-in_ok-exchange-in-Exchanges-clause-fewer : goal.returns-in_ok-exchange-in-Exchanges-clause-fewer
returns-in_ok-exchange-in-Exchanges-clause-fewer c =
    let i : Inside = c.self.inside in
    let a = c.args.self.now in
    let hub = c.args.hub.now in
    let who : A_follower i.clock ≡ a.who = ap (λ (x : ActorState). x.who) c.self.view_is in
    let level : IsLevel hub (follower_actor_view i) = subst (IsLevel hub) (sym c.self.view_is) c.requires.level in
    let t = c.in-Exchanges.tick in
    let lead = c.in-Exchanges.lead in
    let made = c.in_ok-exchange-in-Exchanges.ensures.place i.clock (sym who) in
    let changed = c.in_ok-exchange-in-Exchanges.ensures.hub i.clock (sym who) in
    let outcome = outcome_at hub (held_by i.clock lead) t c.in-Exchanges.action in
    let place = Samples t lead c.in-Exchanges.theirs c.in-Exchanges.own c.in-Exchanges.action outcome in
    fewer-exchanged i a c.exchange.new.self t lead c.in-Exchanges.theirs c.in-Exchanges.own c.in-Exchanges.action outcome c.self.view_is
    c.in-Exchanges.is made

pub returns-in_ok-exchange-in-Exchanges-clause-level : goal.returns-in_ok-exchange-in-Exchanges-clause-level
returns-in_ok-exchange-in-Exchanges-clause-level c =
    let i : Inside = c.self.inside in
    let a = c.args.self.now in
    let hub = c.args.hub.now in
    let who : A_follower i.clock ≡ a.who = ap (λ (x : ActorState). x.who) c.self.view_is in
    let level : IsLevel hub (follower_actor_view i) = subst (IsLevel hub) (sym c.self.view_is) c.requires.level in
    let t = c.in-Exchanges.tick in
    let lead = c.in-Exchanges.lead in
    let made = c.in_ok-exchange-in-Exchanges.ensures.place i.clock (sym who) in
    let changed = c.in_ok-exchange-in-Exchanges.ensures.hub i.clock (sym who) in
    let outcome = outcome_at hub (held_by i.clock lead) t c.in-Exchanges.action in
    let place = Samples t lead c.in-Exchanges.theirs c.in-Exchanges.own c.in-Exchanges.action outcome in
    level-exchanged a c.exchange.new.self hub c.exchange.new.hub (held_by i.clock lead) t c.in-Exchanges.action place c.requires.level changed made

pub returns-in_ok-exchange-in-Exchanges-clause-actor : goal.returns-in_ok-exchange-in-Exchanges-clause-actor
returns-in_ok-exchange-in-Exchanges-clause-actor c =
    let i : Inside = c.self.inside in
    let a = c.args.self.now in
    let hub = c.args.hub.now in
    let who : A_follower i.clock ≡ a.who = ap (λ (x : ActorState). x.who) c.self.view_is in
    let level : IsLevel hub (follower_actor_view i) = subst (IsLevel hub) (sym c.self.view_is) c.requires.level in
    let t = c.in-Exchanges.tick in
    let lead = c.in-Exchanges.lead in
    let made = c.in_ok-exchange-in-Exchanges.ensures.place i.clock (sym who) in
    let changed = c.in_ok-exchange-in-Exchanges.ensures.hub i.clock (sym who) in
    let outcome = outcome_at hub (held_by i.clock lead) t c.in-Exchanges.action in
    let place = Samples t lead c.in-Exchanges.theirs c.in-Exchanges.own c.in-Exchanges.action outcome in
    same-placed a c.exchange.new.self place made
