-- Where a follower is in its job (project).
use Rattle.std.specs.Prelude.{ℕ, if◌then◌else◌, List, [], ◌∷◌, Option, Some, None, option_and_then}
use Rattle.ptp_profile.specs.declared.timing.Action.{Action}
use Rattle.ptp_profile.specs.declared.timing.Action.TheVariants.{Unlocked as Unlocked_action}
use Rattle.ptp_profile.specs.declared.roles.Lead.{Lead}
use Rattle.ptp_profile.specs.Timing.Servo.{Sample, newest_action}
use Rattle.bc_history.specs.declared.entry.Entry.{Entry}
use Rattle.bc_history.specs.declared.entry.Outcome.{Outcome}
use Rattle.bc_history.specs.declared.entry.Outcome.TheVariants.{Unlocked}
use Rattle.bc_history.specs.declared.entry.Seen.{Seen}
use Rattle.bc_history.specs.declared.entry.Who.TheVariants.{Follower}
use Rattle.bc_history.specs.declared.place.FollowerPlace.{FollowerPlace}
use Rattle.bc_history.specs.declared.place.FollowerPlace.TheVariants.{Turns, ReadsTheirs, ReadsOwn, Exchanges, Samples}
use Rattle.bc_history.specs.declared.scenario.Options.{Options}
use Rattle.bc_history.specs.Phases.Inputs.{tick_of}
use Rattle.bc_history.specs.Phases.OpeningState.{servo_of}
use Rattle.bc_history.specs.Run.Actors.{is_by}
use Rattle.bc_history.specs.Run.Samples.{follower_samples, sample_of}

-- ---- by its entries

-- whom an entry told its follower to copy: a turn alone tells it
abbrev pub told_lead : Entry → Option Lead
told_lead e = option_and_then (λ told. told.lead) e.effects.told

-- after an entry of a tick: a follower that was told whom to copy reads that clock
abbrev pub place_by_lead : ℕ → Option Lead → FollowerPlace
place_by_lead tick None = Turns
place_by_lead tick (Some lead) = ReadsTheirs tick lead

-- where the follower of clock c is by its own last entry, before any step of its own that is no
-- event. The newest entry is first
abbrev pub follower_place_by_entries : ℕ → List Entry → FollowerPlace
follower_place_by_entries c [] = Turns
follower_place_by_entries c (e ∷ before) =
    if is_by (Follower c) e then
    place_by_lead (tick_of e.input) (told_lead e)
    else
    follower_place_by_entries c before

-- ---- by its readings and its exchange

-- with its servo's action a follower goes to the exchange, or past it where it asks for nothing
abbrev pub follower_job : ℕ → Lead → Seen → Seen → Action → FollowerPlace
follower_job tick lead theirs own Unlocked_action =
    Samples tick lead theirs own Unlocked_action Unlocked
follower_job tick lead theirs own action = Exchanges tick lead theirs own action

-- a step of a follower that is no event: it read a clock, or its exchange had this outcome
pub data FollowerStep : Type 0 where
  Read : Seen → FollowerStep
  Exchanged : Outcome → FollowerStep

-- after a reading: of the clock that it copies, then of its own, which is sampled behind the samples
-- so far
abbrev pub after_follower_reading : Options → List Sample → Seen → FollowerPlace → FollowerPlace
after_follower_reading o samples seen Turns = Turns
after_follower_reading o samples seen (ReadsTheirs tick lead) = ReadsOwn tick lead seen
after_follower_reading o samples seen (ReadsOwn tick lead theirs) =
    follower_job tick lead theirs seen
    (newest_action (servo_of o) (sample_of lead theirs seen ∷ samples))
after_follower_reading o samples seen (Exchanges tick lead theirs own action) =
    Exchanges tick lead theirs own action
after_follower_reading o samples seen (Samples tick lead theirs own action outcome) =
    Samples tick lead theirs own action outcome

-- after an exchange that had this outcome
abbrev pub after_follower_exchange : Outcome → FollowerPlace → FollowerPlace
after_follower_exchange outcome Turns = Turns
after_follower_exchange outcome (ReadsTheirs tick lead) = ReadsTheirs tick lead
after_follower_exchange outcome (ReadsOwn tick lead theirs) = ReadsOwn tick lead theirs
after_follower_exchange outcome (Exchanges tick lead theirs own action) =
    Samples tick lead theirs own action outcome
after_follower_exchange outcome (Samples tick lead theirs own action former) =
    Samples tick lead theirs own action former

-- after a step that is no event, behind the samples so far
abbrev pub after_follower_step : Options → List Sample → FollowerStep → FollowerPlace → FollowerPlace
after_follower_step o samples (Read seen) place = after_follower_reading o samples seen place
after_follower_step o samples (Exchanged outcome) place = after_follower_exchange outcome place

-- where the follower of clock c is by its own entries and its own other steps since the last of
-- them. The newest is first in both
abbrev pub follower_place : Options → ℕ → List Entry → List FollowerStep → FollowerPlace
follower_place o c entries [] = follower_place_by_entries c entries
follower_place o c entries (step ∷ steps) =
    after_follower_step o (follower_samples c entries) step (follower_place o c entries steps)
