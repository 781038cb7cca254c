use Rattle.std.proofs.Common.{◌∙◌}
use Rattle.bc_steps.proofs.lemmas.FollowerStepLemmas.{due-told-follower}
use Rattle.bc_steps.proofs.lemmas.OwnFollowerLemmas.{turns-within}
use Rattle.bc_steps.proofs.lemmas.OwnPortLemmas.{by_end-late, by_end-within}
use Rattle.bc_steps.proofs.follower.actor.FollowerActor.due.Goals as goal

pub turn_after-requires-clause-turns : goal.turn_after-requires-clause-turns
turn_after-requires-clause-turns c = turns-within c.self.inside c.self.invariant

pub returns-then-tick-self : goal.returns-then-tick-self
returns-then-tick-self c = record {
  tick = λ hub level.
      by_end-within c.self.inside.duration c.tick_at-tick.result c.if-tick-self.true
      ∙ due-told-follower c.self.inside c.args.self.now hub c.turn_after.result c.tick_at-tick.result c.self.invariant c.self.view_is level
      c.turn_after.ensures c.tick_at-tick.ensures;
}

pub returns-else-tick-self : goal.returns-else-tick-self
returns-else-tick-self c = record {
  tick = λ hub level.
      by_end-late c.self.inside.duration c.tick_at-tick.result c.if-tick-self.false
      ∙ due-told-follower c.self.inside c.args.self.now hub c.turn_after.result c.tick_at-tick.result c.self.invariant c.self.view_is level
      c.turn_after.ensures c.tick_at-tick.ensures;
}
