-- Who acts in a run, and whose an entry is.
use Rattle.std.specs.Prelude.{Bool, false, true, ◌==◌, List, [], ◌∷◌, ◌++◌, filter, length, map}
use Rattle.std.specs.List.{range_with_len}
use Rattle.bc_history.specs.declared.entry.Entry.{Entry}
use Rattle.bc_history.specs.declared.entry.Input.{Input}
use Rattle.bc_history.specs.declared.entry.Input.TheVariants.{Frame, Timed, Down, Up, Report, Turn, Sampled, Query}
use Rattle.bc_history.specs.declared.entry.Who.{Who}
use Rattle.bc_history.specs.declared.entry.Who.TheVariants.{Port, Follower, Queries}
use Rattle.bc_history.specs.declared.scenario.Scenario.{Scenario}
use Rattle.bc_history.specs.Phases.OpeningState.{follower_count}

-- whose an input is
abbrev pub actor_of : Input → Who
actor_of (Frame port tick octets) = Port port
actor_of (Timed port tick timer) = Port port
actor_of (Down port tick) = Port port
actor_of (Up port tick) = Port port
actor_of (Report port tick gener action outcome) = Port port
actor_of (Turn clock tick) = Follower clock
actor_of (Sampled clock tick lead theirs own action outcome) = Follower clock
actor_of (Query tick text) = Queries

-- both are the same actor
abbrev pub is_same_actor : Who → Who → Bool
is_same_actor (Port p) (Port q) = p == q
is_same_actor (Port p) (Follower c) = false
is_same_actor (Port p) Queries = false
is_same_actor (Follower c) (Port q) = false
is_same_actor (Follower c) (Follower d) = c == d
is_same_actor (Follower c) Queries = false
is_same_actor Queries (Port q) = false
is_same_actor Queries (Follower d) = false
is_same_actor Queries Queries = true

-- the entry is of the actor
abbrev pub is_by : Who → Entry → Bool
is_by who e = is_same_actor who (actor_of e.input)

-- the entries of an actor, in their order
abbrev pub entries_of : Who → List Entry → List Entry
entries_of who entries = filter (is_by who) entries

-- all who act in a scenario: the ports and then the followers, each rising, and then the queries
abbrev pub actors_of : Scenario → List Who
actors_of s =
    map (λ p. Port p) (range_with_len 1 (length s.ports))
    ++ map (λ c. Follower c) (range_with_len 0 (follower_count s)) ++ Queries ∷ []
