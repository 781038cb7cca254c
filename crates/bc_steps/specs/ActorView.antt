-- An actor, beside the hub and in a World.
use Rattle.std.specs.Prelude.{◌≡◌, ℕ, Bool, true, nat_le, min, List, ◌∷◌, Option, None, Some}
use Rattle.bc_history.specs.declared.entry.Entry.{Entry}
use Rattle.bc_history.specs.declared.entry.Who.{Who}
use Rattle.bc_history.specs.declared.entry.Who.TheVariants.{Port, Follower, Queries}
use Rattle.bc_history.specs.declared.scenario.Scenario.{Scenario}
use Rattle.bc_history.specs.Phases.Step.{state_of}
use Rattle.bc_history.specs.Phases.Inputs.{holds}
use Rattle.bc_history.specs.Run.Actors.{entries_of, is_by}
use Rattle.bc_history.specs.declared.place.PortPlace.TheVariants.{Waits, Exchanges, Reports}
use Rattle.bc_history.specs.declared.place.FollowerPlace.TheVariants.{Turns, ReadsTheirs, ReadsOwn, Exchanges as Follower_exchanges, Samples}
use Rattle.bc_history.specs.Run.World.{Place, Of_port, Of_follower, Of_queries, World, due_by_end, is_due, place_of, with_place}
use Rattle.bc_windows.specs.Windows.{bound_of}
use Rattle.hub_core.specs.HubView.{HubState}

-- an actor: its scenario, who it is, its own entries, the newest first, and where it is in its job
pub record ActorState : Type 0 where
  pub scenario : Scenario
  pub who : Who
  pub entries : List Entry
  pub place : Place

-- where an actor is before its first step
abbrev pub place_at_opening : Who → Place
place_at_opening (Port p) = Of_port Waits
place_at_opening (Follower c) = Of_follower Turns
place_at_opening Queries = Of_queries

-- an actor in the middle of its job goes on with it before the run ends
abbrev pub IsJobDue : Scenario → Place → Type 0
IsJobDue s (Of_port Waits) = Unit {0}
IsJobDue s (Of_port (Exchanges tick held action)) = is_due s tick ≡ true
IsJobDue s (Of_port (Reports tick gener action outcome)) = is_due s tick ≡ true
IsJobDue s (Of_follower Turns) = Unit {0}
IsJobDue s (Of_follower (ReadsTheirs tick lead)) = is_due s tick ≡ true
IsJobDue s (Of_follower (ReadsOwn tick lead theirs)) = is_due s tick ≡ true
IsJobDue s (Of_follower (Follower_exchanges tick lead theirs own action)) = is_due s tick ≡ true
IsJobDue s (Of_follower (Samples tick lead theirs own action outcome)) = is_due s tick ≡ true
IsJobDue s Of_queries = Unit {0}

-- a place is one of the actor's kind
abbrev pub IsPlaceOf : Who → Place → Type 0
IsPlaceOf (Port p) (Of_port place) = Unit {0}
IsPlaceOf (Follower c) (Of_follower place) = Unit {0}
IsPlaceOf Queries Of_queries = Unit {0}
IsPlaceOf who place = ⊥

-- the hub's entries of the actor are its own, in one scenario
pub record IsLevel (hub : HubState) (a : ActorState) : Type 0 where
  pub scenario : a.scenario ≡ hub.scenario
  pub entries : entries_of a.who hub.entries ≡ a.entries

-- the tick of the actor's next step, where that is due before the run ends
abbrev pub due_tick : HubState → ActorState → Option ℕ
due_tick hub a = due_by_end hub.scenario (state_of hub.scenario hub.entries) a.who a.place

-- hub and actor stand in the World
pub record IsIn (w : World) (hub : HubState) (a : ActorState) : Type 0 where
  pub entries : w.entries ≡ hub.entries
  pub logs : w.logs ≡ hub.logs
  pub place : place_of w a.who ≡ Some a.place

-- the World with another hub and another state of the actor
abbrev pub world_with : World → HubState → ActorState → World
world_with w hub a =
    with_place a.who a.place (record w { entries = hub.entries; logs = hub.logs })

-- the earlier of a tick and the last one of the present window, if there is one
abbrev pub up_to_bound : Option ℕ → ℕ → ℕ
up_to_bound None until = until
up_to_bound (Some end) until = min until end

-- up to this tick the hub takes events where all goes on up to another
abbrev pub last_tick : HubState → ℕ → ℕ
last_tick hub until = up_to_bound (bound_of hub.windows) until

-- it has a step that is due up to a tick, in the present window and before the run ends
abbrev pub is_ready : ℕ → HubState → ActorState → Bool
is_ready until hub a = holds (λ tick. nat_le tick (last_tick hub until)) (due_tick hub a)

-- what never changes of an actor
pub record IsSameActor (old new : ActorState) : Type 0 where
  pub scenario : new.scenario ≡ old.scenario
  pub who : new.who ≡ old.who

-- the hub has one entry more, of this actor; its windows are as before
pub record AddsOwn (who : Who) (old new : HubState) : Type 0 where
  pub entry : Entry
  pub more : new.entries ≡ entry ∷ old.entries
  pub own : is_by who entry ≡ true
  pub scenario : new.scenario ≡ old.scenario
  pub windows : new.windows ≡ old.windows

-- the hub's scenario, history and windows are as before
pub record IsSameHistory (old new : HubState) : Type 0 where
  pub scenario : new.scenario ≡ old.scenario
  pub entries : new.entries ≡ old.entries
  pub windows : new.windows ≡ old.windows
