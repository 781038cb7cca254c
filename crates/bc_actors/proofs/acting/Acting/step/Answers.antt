use Rattle.std.proofs.Common.{◌∙◌, ◌-◌, ap, Bool}
use Rattle.std.specs.Prelude.{Ok}
use Rattle.bc_actors.proofs.lemmas.ActingLemmas.{acting-taken, actor-there}
use Rattle.bc_actors.proofs.acting.Acting.step.Goals as goal

pub take_step-requires-clause-level : goal.take_step-requires-clause-level
take_step-requires-clause-level g c =
    let i = c.self.inside in
    let is = c.self.invariant in
    let there = actor-there g.N.Naming.scenario i.hub i.actors.items c.args.number c.index_mut-actor.result.now is c.requires.there c.index_mut-actor.ensures.value in
    is.all.level (c.args.number - 1) c.index_mut-actor.result.now there

pub invariant_of-self-2 : goal.invariant_of-self-2
invariant_of-self-2 g c =
    let i = c.self.inside in
    let is = c.self.invariant in
    let x = c.index_mut-actor.result.now in
    let there = actor-there g.N.Naming.scenario i.hub i.actors.items c.args.number x is c.requires.there c.index_mut-actor.ensures.value in
    let was = c.in_ok-take_step.was in
    acting-taken g.N.Naming.scenario i.hub c.take_step.new.hub i.actors.items (c.args.number - 1) x c.take_step.new.actor c.in_ok-take_step.field-0 there is
    (λ taken. c.take_step.ensures.step (was ∙ ap (λ (b : Bool). Ok b) taken)) (λ idle. c.take_step.ensures.idle (was ∙ ap (λ (b : Bool). Ok b) idle))
