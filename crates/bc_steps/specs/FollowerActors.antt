-- A follower that acts, as contracts see it, and what always holds of it.
use Rattle.std.specs.Prelude.{◌≡◌, ◌<◌, List, reverse}
use Rattle.pi_servo.specs.SteererView.{SteererRepresents}
use Rattle.bc_history.specs.declared.entry.Entry.{Entry}
use Rattle.bc_history.specs.declared.entry.Who.TheVariants.{Follower}
use Rattle.bc_history.specs.Phases.OpeningState.{follower_count, servo_of}
use Rattle.bc_history.specs.Run.Actors.{entries_of}
use Rattle.bc_history.specs.Run.FollowerEntries.{turns_by}
use Rattle.bc_history.specs.Run.FollowerPlace.{FollowerStep, follower_place}
use Rattle.bc_history.specs.Run.History.{IsHistory}
use Rattle.bc_history.specs.Run.Samples.{follower_samples}
use Rattle.bc_history.specs.Run.World.{Of_follower}
use Rattle.bc_history.specs.Scenario.ScenarioRules.{IsScenario}
use Rattle.bc_steps.specs.ActorView.{ActorState}
use Rattle.bc_steps.specs.FollowerJob.{IsJobAskable, IsKept, samples_taken}
use Rattle.bc_steps.specs.declared.follower.actor.FollowerActor.TheInside.{Inside}

-- the history up to the follower's last entry, the newest first: the code has the oldest first
abbrev pub follower_history : Inside → List Entry
follower_history i = reverse i.history.value

-- the follower as contracts see it
abbrev pub follower_actor_view : Inside → ActorState
follower_actor_view i = record {
  scenario = i.scenario.value;
  who = Follower i.clock;
  entries = entries_of (Follower i.clock) (follower_history i);
  place = Of_follower i.place;
}

-- it is a follower of its scenario. By its entries and its readings and exchanges since the last of
-- them it is where it is, its servo took the samples, and its turns are counted
pub record IsFollowerActor (i : Inside) : Type 0 where
  pub rules : IsScenario i.scenario.value
  pub there : i.clock < follower_count i.scenario.value
  pub history : IsHistory i.scenario.value (follower_history i)
  pub steps : List FollowerStep
  pub place_is : i.place
      ≡ follower_place i.scenario.value.options i.clock (follower_history i) steps
  pub askable : IsJobAskable i.place
  pub kept : IsKept i.place i.theirs
  pub servo : SteererRepresents i.follower.steerer (servo_of i.scenario.value.options)
      (samples_taken i.place (follower_samples i.clock (follower_history i)))
  pub turns_are : i.turns ≡ turns_by i.clock (follower_history i)
  pub interval_is : i.interval ≡ i.scenario.value.options.follow_interval
  pub duration_is : i.duration ≡ i.scenario.value.options.duration
