-- A reading of a follower, after the whole log of a clock, leaves the World right.
use Rattle.std.proofs.Common.{◌≡◌, ℕ, ◌-◌, false, refl, sym, ap, arith, inl, List, [], ◌∷◌, length, Some}
use Rattle.std.specs.Prelude.{All, drop, slice_get}
use Rattle.std.proofs.lemmas.List.Elements.{All-nil, All-cons}
use Rattle.model_clock.specs.declared.state.ClockState.{ClockState}
use Rattle.model_clock.specs.Clock.{clock_at, reading}
use Rattle.ptp_profile.specs.declared.roles.Lead.{Lead}
use Rattle.ptp_profile.specs.declared.seats.LogEntry.{LogEntry}
use Rattle.ptp_profile.specs.declared.timing.Action.{Action}
use Rattle.ptp_profile.specs.declared.timing.Action.TheVariants.{Unlocked as Unlocked_action, Jump, Locked}
use Rattle.ptp_profile.specs.Timing.Servo.{newest_action}
use Rattle.ptp_profile.specs.Roles.SeatLogs.{clock_after, log_after, log_at, whole_reading}
use Rattle.bc_history.specs.declared.entry.Input.TheVariants.{Sampled}
use Rattle.bc_history.specs.declared.entry.Outcome.TheVariants.{Unlocked}
use Rattle.bc_history.specs.declared.entry.Seen.{Seen}
use Rattle.bc_history.specs.declared.entry.Who.{Who}
use Rattle.bc_history.specs.declared.entry.Who.TheVariants.{Follower as A_follower}
use Rattle.bc_history.specs.declared.place.FollowerPlace.{FollowerPlace}
use Rattle.bc_history.specs.declared.place.FollowerPlace.TheVariants.{ReadsTheirs as Reads_theirs, ReadsOwn as Reads_own}
use Rattle.bc_history.specs.declared.scenario.Scenario.{Scenario}
use Rattle.bc_history.specs.Phases.Inputs.{changed_at}
use Rattle.bc_history.specs.Phases.OpeningState.{servo_of}
use Rattle.bc_history.specs.Phases.State.{Follower}
use Rattle.bc_history.specs.Phases.Step.{state_of}
use Rattle.bc_history.specs.Run.Actors.{entries_of}
use Rattle.bc_history.specs.Run.FollowerPlace.{follower_job}
use Rattle.bc_history.specs.Run.Samples.{follower_samples, sample_of}
use Rattle.bc_history.specs.Run.World.{World, follower_reading, seen_at, seen_of, with_follower}
use Rattle.run_legal.specs.Numbers.GrownLogs.{AreSameOrChanged}
use Rattle.run_legal.specs.Numbers.Knowledge.{AreRising, IsNumbered, IsUpTo, IsWithin, known_to}
use Rattle.run_legal.specs.Numbers.Marks.{Mark, Sight, marks_in, sight_mark}
use Rattle.run_legal.specs.Runs.Courses.{IsCourse, IsSeen, IsSightRight}
use Rattle.run_legal.specs.Runs.WorldInvariant.{IsFollowerPlaced, IsLeadOrdered, IsLed, IsReady, IsRight, IsToReadOwn}
use Rattle.run_legal.proofs.lemmas.CourseLemmas.{actors_rise}
use Rattle.run_legal.proofs.lemmas.FreePlaceLemmas.{follower-kept, moved-right}
use Rattle.run_legal.proofs.lemmas.NumberBoundLemmas.{known-each, marks-of_actor, marks-of_clock, numbers-within}

-- the log after all of its entries
log_after-whole : (log : List LogEntry) → log_after (length log) log ≡ log
log_after-whole log = let none : length log - length log ≡ 0 = omega arith in ap (λ (k : ℕ). drop k log) none

-- what is read after a whole log is right
seen-whole : (opening : ClockState) (log : List LogEntry) (tick : ℕ) → IsSeen opening log tick (seen_at tick (whole_reading opening log))
seen-whole opening log tick = record {
  within = omega arith;
  value = sym (ap (λ (l : List LogEntry). reading (clock_after opening l) tick) (log_after-whole log));
  freq = sym (ap (λ (l : List LogEntry). (clock_after opening l).freq) (log_after-whole log));
}

-- a reading of a clock after its whole log
abbrev pub sight_of : Scenario → World → ℕ → ℕ → Sight
sight_of s w c tick = record { clock = c; seen = seen_of s w c tick }

-- a mark that names no change goes on where no former number of its clock is above it
pub rising-read : (logs : List (List LogEntry)) (clock : ℕ) (former : List Mark) → All (IsWithin logs) former → AreRising former
    → AreRising (record { clock = clock; number = length (log_at logs clock); is_change = false } ∷ former)
rising-read logs clock former within rising = (marks-of_clock logs clock former within, rising)

module _ (s : Scenario) (w : World) (who : Who) (course : IsCourse s w.entries w.logs) where
  -- what an actor's entries knew rises
  pub former-rising : AreRising (marks_in s (entries_of who w.entries))
  former-rising = actors_rise s w.logs who w.entries course.numbers

  -- and is within the logs
  pub former-within : All (IsWithin w.logs) (marks_in s (entries_of who w.entries))
  former-within = marks-of_actor s w.logs who w.entries course.numbers

  -- a reading knows all that its actor was told
  pub reading-told : (c tick : ℕ) → IsUpTo s w.logs (known_to who w.entries) (sight_mark (sight_of s w c tick))
  reading-told c tick = numbers-within s w.logs c (known_to who w.entries) (known-each (IsNumbered s w.logs) who w.entries course.numbers)

module _ (s : Scenario) (w : World) (c tick : ℕ) (lead : Lead) (right : IsRight s w) where
  -- after the reading of the clock that it copies
  their_reading : IsLeadOrdered w c lead → IsToReadOwn s w c tick lead (sight_of s w lead.source tick)
  their_reading ordered = record {
    seen = seen-whole (clock_at s.clocks lead.source) (log_at w.logs lead.source) tick;
    ordered = ordered;
    rising = rising-read w.logs lead.source (marks_in s (entries_of (A_follower c) w.entries)) (former-within s w (A_follower c) right.course) (former-rising s w (A_follower c) right.course);
    told = reading-told s w (A_follower c) right.course lead.source tick;
  }

  module _ (theirs : Seen) (read : IsToReadOwn s w c tick lead (record { clock = lead.source; seen = theirs })) where
    -- the reading of its own clock
    abbrev own : Seen
    own = seen_of s w c tick

    -- that of the clock that it copies
    abbrev their_sight : Sight
    their_sight = record { clock = lead.source; seen = theirs }

    -- what the first knew is within the log
    their_within : IsWithin w.logs (sight_mark their_sight)
    their_within = read.seen.within

    -- so is what both knew
    both_within : All (IsWithin w.logs) (sight_mark (sight_of s w c tick) ∷ sight_mark their_sight ∷ [])
    both_within =
        All-cons (IsWithin w.logs) (sight_mark (sight_of s w c tick)) (sight_mark their_sight ∷ []) (omega arith)
        (All-cons (IsWithin w.logs) (sight_mark their_sight) [] their_within (All-nil (IsWithin w.logs)))

    -- the follower's numbers rise with both
    both_rising : AreRising (sight_mark (sight_of s w c tick) ∷ sight_mark their_sight ∷ marks_in s (entries_of (A_follower c) w.entries))
    both_rising =
        rising-read w.logs c (sight_mark their_sight ∷ marks_in s (entries_of (A_follower c) w.entries))
        (All-cons (IsWithin w.logs) (sight_mark their_sight) (marks_in s (entries_of (A_follower c) w.entries)) their_within (former-within s w (A_follower c) right.course)) read.rising

    -- both know what it was told
    both_told : All (IsUpTo s w.logs (known_to (A_follower c) w.entries)) (sight_mark (sight_of s w c tick) ∷ sight_mark their_sight ∷ [])
    both_told =
        All-cons (IsUpTo s w.logs (known_to (A_follower c) w.entries)) (sight_mark (sight_of s w c tick)) (sight_mark their_sight ∷ []) (reading-told s w (A_follower c) right.course c tick)
        (All-cons (IsUpTo s w.logs (known_to (A_follower c) w.entries)) (sight_mark their_sight) [] read.told (All-nil (IsUpTo s w.logs (known_to (A_follower c) w.entries))))

    -- both are right
    both_right : All (IsSightRight s w.logs tick) (sight_of s w c tick ∷ their_sight ∷ [])
    both_right =
        All-cons (IsSightRight s w.logs tick) (sight_of s w c tick) (their_sight ∷ []) (seen-whole (clock_at s.clocks c) (log_at w.logs c) tick)
        (All-cons (IsSightRight s w.logs tick) their_sight [] read.seen (All-nil (IsSightRight s w.logs tick)))

    -- the sample is ready, as far as it goes without an exchange
    own_ready : (action : Action) → action ≡ newest_action (servo_of s.options) (sample_of lead theirs own ∷ follower_samples c w.entries)
        → IsReady s w (Sampled c tick lead theirs own action Unlocked)
    own_ready action is = record {
      readings = both_right;
      action = is;
      abreast = record { rising = both_rising; within = both_within; told = both_told; read = All-nil _ };
    }

    -- after the reading of its own clock
    own_job : (f : Follower) (action : Action) → IsLed f tick lead → action ≡ newest_action (servo_of s.options) (sample_of lead theirs own ∷ follower_samples c w.entries)
        → IsFollowerPlaced s w c f (follower_job tick lead theirs own action)
    own_job f Unlocked_action led is = (led, record { ready = own_ready Unlocked_action is; agreed = refl })
    own_job f (Jump step freq) led is = (led, record { ordered = read.ordered; asks = λ e. cc; ready = own_ready (Jump step freq) is })
    own_job f (Locked freq) led is = (led, record { ordered = read.ordered; asks = λ e. cc; ready = own_ready (Locked freq) is })

-- a follower moves to a place that is right, and no log changes
read-right : (s : Scenario) (w : World) (c : ℕ) (place : FollowerPlace) → IsRight s w
    → ((f : Follower) → slice_get (state_of s w.entries).followers c ≡ Some f → IsFollowerPlaced s w c f place)
    → IsRight s (with_follower w c place)
read-right s w c place right there =
    let moved = changed_at (λ (former : FollowerPlace). place) c w.followers in
    let same : AreSameOrChanged w.logs w.logs = λ clock. inl refl in
    moved-right s w w.logs c place right same right.course (λ f is_f. follower-kept s w w.logs w.ports moved same c f place (there f is_f))

-- the World is right after a reading of the clock that a follower copies
pub their-reading-right : (s : Scenario) (w : World) (c tick : ℕ) (lead : Lead) → IsRight s w → slice_get w.followers c ≡ Some (Reads_theirs tick lead)
    → IsRight s (follower_reading s w c (seen_of s w lead.source tick) (Reads_theirs tick lead))
their-reading-right s w c tick lead right there =
    read-right s w c (Reads_own tick lead (seen_of s w lead.source tick)) right
    (λ f is_f. let was = right.followers c f (Reads_theirs tick lead) is_f there in (was.0, their_reading s w c tick lead right was.1))

-- and after one of its own clock
pub own-reading-right : (s : Scenario) (w : World) (c tick : ℕ) (lead : Lead) (theirs : Seen) → IsRight s w → slice_get w.followers c ≡ Some (Reads_own tick lead theirs)
    → IsRight s (follower_reading s w c (seen_of s w c tick) (Reads_own tick lead theirs))
own-reading-right s w c tick lead theirs right there =
    let action = newest_action (servo_of s.options) (sample_of lead theirs (seen_of s w c tick) ∷ follower_samples c w.entries) in
    read-right s w c (follower_job tick lead theirs (seen_of s w c tick) action) right
    (λ f is_f. let was = right.followers c f (Reads_own tick lead theirs) is_f there in own_job s w c tick lead right theirs was.1 f action was.0 refl)
