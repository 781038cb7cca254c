use Rattle.std.proofs.Common.{sym, subst}
use Rattle.bc_history.specs.declared.place.PortPlace.{PortPlace}
use Rattle.bc_history.specs.Run.World.{Of_port}
use Rattle.bc_steps.specs.ActorView.{ActorState, IsJobDue}
use Rattle.bc_steps.proofs.lemmas.JobDueLemmas.{port-due}
use Rattle.bc_steps.proofs.port.actor.PortActor.kind.Goals as goal

pub returns-clause-job : goal.returns-clause-job
returns-clause-job c =
    let s = c.self.inside.scenario.value in
    subst (λ (a : ActorState). IsJobDue a.scenario a.place) c.self.view_is
    (subst (λ (place : PortPlace). IsJobDue s (Of_port place)) (sym c.self.invariant.place_is)
    (port-due s c.self.inside.number _ c.self.invariant.exchanges c.self.invariant.history))
