use Rattle.std.proofs.Common.{sym, subst}
use Rattle.bc_history.specs.declared.place.FollowerPlace.{FollowerPlace}
use Rattle.bc_history.specs.Run.World.{Of_follower}
use Rattle.bc_steps.specs.ActorView.{ActorState, IsJobDue}
use Rattle.bc_steps.proofs.lemmas.JobDueLemmas.{follower-due}
use Rattle.bc_steps.proofs.follower.actor.FollowerActor.kind.Goals as goal

pub returns-clause-job : goal.returns-clause-job
returns-clause-job c =
    let s = c.self.inside.scenario.value in
    subst (λ (a : ActorState). IsJobDue a.scenario a.place) c.self.view_is
    (subst (λ (place : FollowerPlace). IsJobDue s (Of_follower place)) (sym c.self.invariant.place_is)
    (follower-due s c.self.inside.clock _ c.self.invariant.steps c.self.invariant.history.continues))
