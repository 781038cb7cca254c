-- Whose turn it is among the actors beside a hub.
use Rattle.std.specs.Prelude.{◌≡◌, ℕ, ◌+◌, ◌<◌, List, filter, filter_map, slice_get, option_map, Option, Some, None}
use Rattle.std.specs.Option.{option_or}
use Rattle.bc_history.specs.declared.entry.Who.{Who}
use Rattle.bc_history.specs.declared.entry.Who.TheVariants.{Port as A_port, Follower as A_follower, Queries as The_queries}
use Rattle.bc_history.specs.declared.scenario.Scenario.{Scenario}
use Rattle.bc_history.specs.declared.scenario.Turner.{Turner}
use Rattle.bc_history.specs.declared.scenario.Turner.TheVariants.{Default, Port, Clock, Queries}
use Rattle.bc_history.specs.Run.World.{Candidate, first_of, is_busy, turner_at}
use Rattle.hub_core.specs.HubView.{HubState}
use Rattle.bc_steps.specs.ActorView.{ActorState, due_tick}

-- an actor that may take a step of a tick
abbrev pub candidate_by : ActorState → ℕ → Candidate
candidate_by a tick = record { tick = tick; busy = is_busy a.place; who = a.who }

-- an actor, where its next step is due before the run ends
abbrev pub due_actor : HubState → ActorState → Option Candidate
due_actor hub a = option_map (candidate_by a) (due_tick hub a)

-- the actors whose next step is due before the run ends, in their order
abbrev pub due_actors : HubState → List ActorState → List Candidate
due_actors hub actors = filter_map (due_actor hub) actors

-- the default rule: one in the middle of its job goes first, else the least tick; of equals the
-- first
abbrev pub turn_among : List Candidate → Option Who
turn_among all =
    option_or (first_of (filter (λ (candidate : Candidate). candidate.busy) all)) (first_of all)

-- a line of the schedule names an actor: itself, or the one of the default rule
abbrev pub IsNamed : HubState → List ActorState → Turner → Who → Type 0
IsNamed hub actors Default who = turn_among (due_actors hub actors) ≡ Some who
IsNamed hub actors (Port p) who = who ≡ A_port p
IsNamed hub actors (Clock c) who = who ≡ A_follower c
IsNamed hub actors Queries who = who ≡ The_queries

-- the actor of index i has a step that is due before the run ends
pub record IsDueAt (hub : HubState) (actors : List ActorState) (i : ℕ) : Type 0 where
  pub actor : ActorState
  pub there : slice_get actors i ≡ Some actor
  pub tick : ℕ
  pub due : due_tick hub actor ≡ Some tick

-- the turn is that of the actor of index i, whose next step is due
pub record IsTurnOf (hub : HubState) (actors : List ActorState) (turner : Turner) (i : ℕ) : Type 0 where
  pub at : IsDueAt hub actors i
  pub named : IsNamed hub actors turner at.actor.who

-- an actor has no step, where it is there
abbrev pub IsIdle : HubState → List ActorState → Who → Type 0
IsIdle hub actors who =
    (i : ℕ) (a : ActorState) → slice_get actors i ≡ Some a → a.who ≡ who → due_tick hub a ≡ None

-- the actor whom a line of the schedule names has no step, or none has one
abbrev pub HasNoTurn : HubState → List ActorState → Turner → Type 0
HasNoTurn hub actors Default = turn_among (due_actors hub actors) ≡ None
HasNoTurn hub actors (Port p) = IsIdle hub actors (A_port p)
HasNoTurn hub actors (Clock c) = IsIdle hub actors (A_follower c)
HasNoTurn hub actors Queries = IsIdle hub actors The_queries

-- a line of the schedule has so many turns behind those that were taken
abbrev pub HasTurns : Scenario → ℕ → Turner → ℕ → Type 0
HasTurns s taken who count = (k : ℕ) → k < count → turner_at s.turns (taken + k) ≡ Some who

-- whose turn it is by a line of the schedule, or by the default rule where there is none
abbrev pub turner_or_default : Option Turner → Turner
turner_or_default None = Default
turner_or_default (Some who) = who

-- behind so many turns the next one goes by this turner: by a line of the schedule, or behind all
-- its lines by the default rule
abbrev pub IsTurnerAt : Scenario → ℕ → Turner → Type 0
IsTurnerAt s taken turner = turner_or_default (turner_at s.turns taken) ≡ turner
