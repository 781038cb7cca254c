-- What a follower does next, and what its servo took of it (project).
use Rattle.std.specs.Prelude.{◌≡◌, ℕ, ◌+◌, ◌*◌, List, ◌∷◌, Option, Some, None, IsSomeAnd}
use Rattle.model_clock.specs.Clock.{IsClock}
use Rattle.ptp_profile.specs.declared.seats.Reading.{Reading}
use Rattle.ptp_profile.specs.Timing.Servo.{Sample}
use Rattle.bc_history.specs.declared.entry.Input.{Input}
use Rattle.bc_history.specs.declared.entry.Input.TheVariants.{Frame, Timed, Down, Up, Report, Turn, Sampled, Query}
use Rattle.bc_history.specs.declared.entry.Seen.{Seen}
use Rattle.bc_history.specs.declared.place.FollowerPlace.{FollowerPlace}
use Rattle.bc_history.specs.declared.place.FollowerPlace.TheVariants.{Turns, ReadsTheirs, ReadsOwn, Exchanges, Samples}
use Rattle.bc_history.specs.Run.Samples.{sample_of}
use Rattle.bc_history.specs.Run.World.{Of_follower, Place, seen_at}
use Rattle.bc_steps.specs.ExchangeBounds.{IsAskable}

-- the tick of the turn behind so many turns, at an interval
abbrev pub turn_after : ℕ → ℕ → ℕ
turn_after turns interval = (turns + 1) * interval

-- the tick of the next step of a follower at a place, whose next turn is at a tick
abbrev pub follower_tick : ℕ → FollowerPlace → ℕ
follower_tick turn Turns = turn
follower_tick turn (ReadsTheirs tick lead) = tick
follower_tick turn (ReadsOwn tick lead theirs) = tick
follower_tick turn (Exchanges tick lead theirs own action) = tick
follower_tick turn (Samples tick lead theirs own action outcome) = tick

-- the input of its next event, where that is its next step
abbrev pub follower_input : ℕ → ℕ → FollowerPlace → Option Input
follower_input c turn Turns = Some (Turn c turn)
follower_input c turn (ReadsTheirs tick lead) = None
follower_input c turn (ReadsOwn tick lead theirs) = None
follower_input c turn (Exchanges tick lead theirs own action) = None
follower_input c turn (Samples tick lead theirs own action outcome) =
    Some (Sampled c tick lead theirs own action outcome)

-- how many turns it took once it was served at a place: one more where it was at its next turn
abbrev pub turns_served : ℕ → FollowerPlace → ℕ
turns_served turns Turns = turns + 1
turns_served turns (ReadsTheirs tick lead) = turns
turns_served turns (ReadsOwn tick lead theirs) = turns
turns_served turns (Exchanges tick lead theirs own action) = turns
turns_served turns (Samples tick lead theirs own action outcome) = turns

-- what its servo took at a place behind the samples of its entries: the two readings are one sample
-- more from the second of them on
abbrev pub samples_taken : FollowerPlace → List Sample → List Sample
samples_taken Turns samples = samples
samples_taken (ReadsTheirs tick lead) samples = samples
samples_taken (ReadsOwn tick lead theirs) samples = samples
samples_taken (Exchanges tick lead theirs own action) samples =
    sample_of lead theirs own ∷ samples
samples_taken (Samples tick lead theirs own action outcome) samples =
    sample_of lead theirs own ∷ samples

-- what its servo asks of its clock is within what a clock takes
abbrev pub IsJobAskable : FollowerPlace → Type 0
IsJobAskable Turns = Unit {0}
IsJobAskable (ReadsTheirs tick lead) = Unit {0}
IsJobAskable (ReadsOwn tick lead theirs) = Unit {0}
IsJobAskable (Exchanges tick lead theirs own action) = IsAskable action
IsJobAskable (Samples tick lead theirs own action outcome) = Unit {0}

-- a reading of a clock shows this at a tick
pub record Shows (tick : ℕ) (seen : Seen) (read : Reading) : Type 0 where
  pub clock : IsClock read.state
  pub seen_is : seen ≡ seen_at tick read

-- between its two readings a follower keeps the whole of the first
abbrev pub IsKept : FollowerPlace → Option Reading → Type 0
IsKept Turns kept = Unit {0}
IsKept (ReadsTheirs tick lead) kept = Unit {0}
IsKept (ReadsOwn tick lead theirs) kept = IsSomeAnd kept (Shows tick theirs)
IsKept (Exchanges tick lead theirs own action) kept = Unit {0}
IsKept (Samples tick lead theirs own action outcome) kept = Unit {0}

-- the input is that of the event at a place: a turn, or the sample that the place has
abbrev pub IsInputAt : Place → Input → Type 0
IsInputAt place (Turn clock tick) = place ≡ Of_follower Turns
IsInputAt place (Sampled clock tick lead theirs own action outcome) =
    place ≡ Of_follower (Samples tick lead theirs own action outcome)
IsInputAt place (Frame port tick octets) = ⊥
IsInputAt place (Timed port tick timer) = ⊥
IsInputAt place (Down port tick) = ⊥
IsInputAt place (Up port tick) = ⊥
IsInputAt place (Report port tick gener action outcome) = ⊥
IsInputAt place (Query tick text) = ⊥
