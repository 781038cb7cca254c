-- The queries of a run, as contracts see them, and what always holds of them.
use Rattle.std.specs.Prelude.{◌≡◌, List, reverse}
use Rattle.bc_history.specs.declared.entry.Entry.{Entry}
use Rattle.bc_history.specs.declared.entry.Input.{Input}
use Rattle.bc_history.specs.declared.entry.Input.TheVariants.{Query}
use Rattle.bc_history.specs.declared.entry.Who.TheVariants.{Queries}
use Rattle.bc_history.specs.declared.scenario.Asked.{Asked}
use Rattle.bc_history.specs.Run.Actors.{entries_of}
use Rattle.bc_history.specs.Run.World.{Of_queries}
use Rattle.bc_history.specs.Scenario.ScenarioRules.{IsScenario}
use Rattle.bc_steps.specs.ActorView.{ActorState}
use Rattle.bc_steps.specs.declared.queries.QueryActor.TheInside.{Inside}

-- a query as an input
abbrev pub asked_input : Asked → Input
asked_input asked = Query asked.tick asked.text

-- the history up to the last query, the newest first: the code has the oldest first
abbrev pub query_history : Inside → List Entry
query_history i = reverse i.history.value

-- the queries as contracts see them
abbrev pub query_actor_view : Inside → ActorState
query_actor_view i = record {
  scenario = i.scenario.value;
  who = Queries;
  entries = entries_of Queries (query_history i);
  place = Of_queries;
}

-- they are those of its scenario
pub record IsQueryActor (i : Inside) : Type 0 where
  pub rules : IsScenario i.scenario.value
  pub queries_are : i.queries.items ≡ i.scenario.value.queries
  pub duration_is : i.duration ≡ i.scenario.value.options.duration
