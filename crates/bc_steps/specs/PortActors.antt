-- A port that acts, as contracts see it, and what always holds of it.
use Rattle.std.specs.Prelude.{◌≡◌, ◌≤◌, List, length, reverse}
use Rattle.pi_servo.specs.SteererView.{SteererRepresents}
use Rattle.bc_history.specs.declared.entry.Entry.{Entry}
use Rattle.bc_history.specs.declared.entry.Outcome.{Outcome}
use Rattle.bc_history.specs.declared.entry.Who.TheVariants.{Port}
use Rattle.bc_history.specs.Phases.OpeningState.{servo_of}
use Rattle.bc_history.specs.Run.Actors.{entries_of}
use Rattle.bc_history.specs.Run.History.{Continues}
use Rattle.bc_history.specs.Run.PortPlace.{port_place}
use Rattle.bc_history.specs.Run.Samples.{port_samples}
use Rattle.bc_history.specs.Run.World.{Of_port}
use Rattle.bc_history.specs.Scenario.ScenarioRules.{IsScenario}
use Rattle.bc_steps.specs.ActorView.{ActorState}
use Rattle.bc_steps.specs.ExchangeBounds.{IsPlaceAskable}
use Rattle.bc_steps.specs.RecordQueue.{QueueRepresents, records_left}
use Rattle.bc_steps.specs.declared.port.actor.PortActor.TheInside.{Inside}

-- the history up to the port's last entry, the newest first: the code has the oldest first
abbrev pub history_of : Inside → List Entry
history_of i = reverse i.history.value

-- the port as contracts see it
abbrev pub port_actor_view : Inside → ActorState
port_actor_view i = record {
  scenario = i.scenario.value;
  who = Port i.number;
  entries = entries_of (Port i.number) (history_of i);
  place = Of_port i.place;
}

-- it is a port of its scenario. By its entries and its exchanges since the last of them it is
-- where it is, its servo took the samples, and its records are still to come
pub record IsPortActor (i : Inside) : Type 0 where
  pub rules : IsScenario i.scenario.value
  pub first : 1 ≤ i.number
  pub there : i.number ≤ length i.scenario.value.ports
  pub history : Continues i.scenario.value (history_of i)
  pub exchanges : List Outcome
  pub place_is : i.place ≡ port_place i.scenario.value.options i.number (history_of i) exchanges
  pub askable : IsPlaceAskable i.place
  pub servo : SteererRepresents i.steerer (servo_of i.scenario.value.options)
      (port_samples i.number (history_of i))
  pub records : QueueRepresents i.records
      (records_left i.scenario.value i.number (history_of i))
  pub duration_is : i.duration ≡ i.scenario.value.options.duration
