-- Entries and clocks' logs that belong together, the newest first in both: what they say follows
-- from the scenario, from the logs and from the servos (project).
use Rattle.std.specs.Prelude.{ℕ, ◌≤◌, ◌≡◌, ◌≢◌, List, [], ◌∷◌, length, All, AllPairs, IfSome}
use Rattle.ptp_base.specs.declared.limits.TheConstants.{ENTRIES_MAX}
use Rattle.model_clock.specs.declared.state.ClockState.{ClockState}
use Rattle.model_clock.specs.Clock.{clock_at, reading}
use Rattle.ptp_profile.specs.declared.seats.LogEntry.{LogEntry}
use Rattle.ptp_profile.specs.Timing.Servo.{newest_action}
use Rattle.ptp_profile.specs.Roles.SeatLogs.{AreLawful, clock_after, log_after, log_at}
use Rattle.bc_history.specs.declared.entry.Entry.{Entry}
use Rattle.bc_history.specs.declared.entry.Input.{Input}
use Rattle.bc_history.specs.declared.entry.Input.TheVariants.{Report, Sampled}
use Rattle.bc_history.specs.declared.entry.Seen.{Seen}
use Rattle.bc_history.specs.declared.scenario.Scenario.{Scenario}
use Rattle.bc_history.specs.Phases.State.{Event}
use Rattle.bc_history.specs.Phases.Inputs.{tick_of, event_of}
use Rattle.bc_history.specs.Phases.OpeningState.{servo_of}
use Rattle.bc_history.specs.Phases.Step.{state_of}
use Rattle.bc_history.specs.Run.FormedRuns.{IsFormedEntry}
use Rattle.bc_history.specs.Run.History.{Continues}
use Rattle.bc_history.specs.Run.ExchangeOutcomes.{Agrees}
use Rattle.bc_history.specs.Run.Samples.{port_samples, sample_of, follower_samples}
use Rattle.run_legal.specs.Numbers.Marks.{Sight, Mark, Exchange, exchange_of, sights_of, changes_in}
use Rattle.run_legal.specs.Numbers.Knowledge.{IsNumbered}

-- each entry stands so to those before it
abbrev pub EachAfter : (Entry → List Entry → Type 0) → List Entry → Type 0
EachAfter Stands [] = Unit {0}
EachAfter Stands (e ∷ before) = Stands e before × EachAfter Stands before

-- ---- what a text can show

-- at most ENTRIES_MAX entries, each of which a text can show
pub record IsFormed (entries : List Entry) : Type 0 where
  pub few : length entries ≤ ENTRIES_MAX
  pub each : All IsFormedEntry entries

-- ---- logs

-- one log for each clock, lawful for the orders of the history
pub record AreLogs (s : Scenario) (entries : List Entry) (logs : List (List LogEntry)) : Type 0 where
  pub number : length logs ≡ length s.clocks
  pub lawful : AreLawful (state_of s entries).roles.orders logs

-- ---- readings

-- a clock's value and frequency at a tick after so many entries of its log
pub record IsSeen (opening : ClockState) (log : List LogEntry) (tick : ℕ) (seen : Seen) : Type 0 where
  pub within : seen.number ≤ length log
  pub value : seen.value ≡ reading (clock_after opening (log_after seen.number log)) tick
  pub freq : seen.freq ≡ (clock_after opening (log_after seen.number log)).freq

-- a reading at a tick is that of its clock after so many entries of the clock's log
abbrev pub IsSightRight : Scenario → List (List LogEntry) → ℕ → Sight → Type 0
IsSightRight s logs tick sight =
    IsSeen (clock_at s.clocks sight.clock) (log_at logs sight.clock) tick sight.seen

-- all readings of an event are so
abbrev pub IsReadRight : Scenario → List (List LogEntry) → Event → Type 0
IsReadRight s logs event =
    All (IsSightRight s logs (tick_of event.input)) (sights_of s event)

-- ---- actions

-- the action of a report or a sample is the servo's at the newest sample of the port or the
-- follower
abbrev pub IsSteered : Scenario → Input → List Entry → Type 0
IsSteered s (Report port tick gener action outcome) before =
    action ≡ newest_action (servo_of s.options) (port_samples port before)
IsSteered s (Sampled clock tick lead theirs own action outcome) before =
    action
    ≡ newest_action (servo_of s.options)
    (sample_of lead theirs own ∷ follower_samples clock before)
IsSteered s _ before = Unit {0}

-- ---- outcomes

-- the outcome of an input's exchange agrees with the clock's log
abbrev pub IsAgreed : Scenario → List (List LogEntry) → Input → Type 0
IsAgreed s logs input =
    IfSome (exchange_of s input)
    (λ (exchange : Exchange). Agrees s.options.seat_rows (log_at logs exchange.held.clock)
    exchange.held exchange.tick exchange.action exchange.outcome)

-- outcomes agree with the logs, and no two of them name one change
pub record AreOutcomes (s : Scenario) (logs : List (List LogEntry)) (entries : List Entry) : Type 0 where
  pub agreed : All (λ (e : Entry). IsAgreed s logs e.input) entries
  pub once : AllPairs (λ (newer older : Mark). newer ≢ older) (changes_in s entries)

-- ---- all

-- entries and clocks' logs that belong together
pub record IsCourse (s : Scenario) (entries : List Entry) (logs : List (List LogEntry)) : Type 0 where
  -- they hold nothing that a text can't show
  pub formed : IsFormed entries
  -- each entry follows those before it
  pub history : Continues s entries
  -- the logs are lawful
  pub lawful : AreLogs s entries logs
  -- clocks showed what was read
  pub readings : All (λ (e : Entry). IsReadRight s logs (event_of e)) entries
  -- servos asked for what was done
  pub actions : EachAfter (λ e before. IsSteered s e.input before) entries
  -- exchanges had the outcomes that the logs show
  pub outcomes : AreOutcomes s logs entries
  -- nobody knew less of a log than before
  pub numbers : EachAfter (IsNumbered s logs) entries
