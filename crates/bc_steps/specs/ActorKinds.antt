-- An actor as contracts see it, of whichever kind it is.
use Rattle.bc_steps.specs.ActorView.{ActorState}
use Rattle.bc_steps.specs.declared.actor.Actor.TheInside.{Inside}
use Rattle.bc_steps.specs.declared.actor.ActorKind.{ActorKind}
use Rattle.bc_steps.specs.declared.actor.ActorKind.TheVariants.{Port, Follower, Queries}

-- each kind is an actor
abbrev pub kind_view : ActorKind → ActorState
kind_view (Port actor) = actor
kind_view (Follower actor) = actor
kind_view (Queries actor) = actor

-- the actor as contracts see it
abbrev pub actor_view : Inside → ActorState
actor_view i = kind_view i.kind
