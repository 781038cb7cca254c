use Rattle.std.proofs.Common.{◌≡◌, ◌∙◌, ap, refl, subst, sym}
use Rattle.bc_history.specs.declared.entry.Who.{Who}
use Rattle.bc_history.specs.declared.entry.Who.TheVariants.{Port}
use Rattle.bc_history.specs.Run.World.{step_of}
use Rattle.bc_steps.specs.PortActors.{port_actor_view}
use Rattle.bc_steps.specs.ActorView.{ActorState, IsIn}
use Rattle.bc_steps.proofs.lemmas.FreeStepLemmas.{HoldsClock, own-port-beside, actor-exchanged, free-step, holds-clock}
use Rattle.bc_steps.proofs.port.actor.PortActor.free.Goals as goal

holds : (c : goal.After-exchange-arg-1) → HoldsClock c.args.hub.now.scenario c.args.hub.now c.in-Exchanges.tick c.in-Exchanges.held c.in-Exchanges.action
holds c =
    holds-clock c.self.inside c.args.self.now c.args.hub.now c.in-Exchanges.tick c.in-Exchanges.held c.in-Exchanges.action
    c.self.invariant c.self.view_is c.requires.level c.rules.ensures.history.continues c.rules.ensures.lawful c.rules.ensures.logs c.in-Exchanges.is

pub exchange-requires-clause-asks : goal.exchange-requires-clause-asks
exchange-requires-clause-asks c = (holds c).asks

pub exchange-requires-clause-there : goal.exchange-requires-clause-there
exchange-requires-clause-there c = (holds c).there

pub exchange-requires-clause-somebody : goal.exchange-requires-clause-somebody
exchange-requires-clause-somebody c = (holds c).somebody

pub exchange-requires-clause-ordered : goal.exchange-requires-clause-ordered
exchange-requires-clause-ordered c = (holds c).ordered

pub exchange-requires-clause-tick : goal.exchange-requires-clause-tick
exchange-requires-clause-tick c = (holds c).tick_is

pub invariant_of-self : goal.invariant_of-self
invariant_of-self c =
    actor-exchanged c.self.inside _ c.in-Exchanges.tick c.in-Exchanges.held c.in-Exchanges.action c.in_ok-outcome.outcome c.self.invariant
    c.in-Exchanges.is refl

pub returns-clause-step : goal.returns-clause-step
returns-clause-step c = λ w in_world.
    let i = c.self.inside in
    let who : Port i.number ≡ c.args.self.now.who = ap (λ (a : ActorState). a.who) c.self.view_is in
    let own : IsIn w c.args.hub.now (port_actor_view i) = subst (λ (a : ActorState). IsIn w c.args.hub.now a) (sym c.self.view_is) in_world in
    ap (λ (x : Who). step_of c.args.hub.now.scenario w x) (sym who)
    ∙ free-step i w c.args.hub.now c.exchange.new.hub c.in-Exchanges.tick c.in-Exchanges.held c.in-Exchanges.action c.in_ok-outcome.outcome
    (own-port-beside i c.args.self.now c.args.hub.now c.self.invariant c.self.view_is c.requires.level) own c.in-Exchanges.is
    c.in_ok-outcome.ensures.log c.in_ok-outcome.ensures.outcome
