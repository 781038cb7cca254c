-- Which runs a text shows whole: they hold nothing that is lost when they are written (project).
use Rattle.std.specs.Prelude.{ℕ, pos, ◌*ℤ◌, ◌==◌, ◌<◌, ◌≤◌, ◌≡◌, List, filter, length, All, AllPairs, Option, Some, None, is_some, IsTrue}
use Rattle.ptp_base.specs.Floor.{floor_of}
use Rattle.model_clock.specs.declared.state.ClockState.{ClockState}
use Rattle.ptp_profile.specs.declared.timing.Measure.{Measure}
use Rattle.ptp_profile.specs.declared.seats.Held.{Held}
use Rattle.ptp_profile.specs.declared.seats.Log.{Log}
use Rattle.ptp_management.specs.ManagementQueries.{shows}
use Rattle.bc_history.specs.declared.entry.Input.{Input}
use Rattle.bc_history.specs.declared.entry.Input.TheVariants.{Frame, Timed, Down, Up, Report, Turn, Sampled, Query}
use Rattle.bc_history.specs.declared.entry.Moved.{Moved}
use Rattle.bc_history.specs.declared.entry.Sent.{Sent}
use Rattle.bc_history.specs.declared.entry.Effects.{Effects}
use Rattle.bc_history.specs.declared.entry.Entry.{Entry}
use Rattle.bc_history.specs.declared.entry.Run.{Run}
use Rattle.bc_history.specs.Phases.Inputs.{is_read, port_of}
use Rattle.bc_history.specs.Scenario.QueryTexts.{IsQueryText}

-- ---- the input of an entry

-- a frame has an octet, and the text of a query is words
abbrev pub IsFormedInput : Input → Type 0
IsFormedInput (Frame port tick octets) = 1 ≤ length octets
IsFormedInput (Timed port tick timer) = Unit {0}
IsFormedInput (Down port tick) = Unit {0}
IsFormedInput (Up port tick) = Unit {0}
IsFormedInput (Report port tick gener action outcome) = Unit {0}
IsFormedInput (Turn clock tick) = Unit {0}
IsFormedInput (Sampled clock tick lead theirs own action outcome) = Unit {0}
IsFormedInput (Query tick text) = IsQueryText text

-- ---- the effects of an entry

-- changes of state stand by rising port, and no port has more than two
pub record AreFormedMoves (moves : List Moved) : Type 0 where
  pub rising : AllPairs (λ (former later : Moved). former.port ≤ later.port) moves
  pub twice : (port : ℕ) → length (filter (λ (m : Moved). m.port == port) moves) ≤ 2

-- a measure is of the entry's port, which is the controller of the stamp that it was made under
abbrev pub IsFormedMeasure : Input → Option (Measure × Held) → Type 0
IsFormedMeasure input None = Unit {0}
IsFormedMeasure input (Some m) = port_of input ≡ Some m.1.ctrl

-- what a text can show of an entry's effects
pub record AreFormedEffects (input : Input) (f : Effects) : Type 0 where
  pub states : AreFormedMoves f.states
  pub measure : IsFormedMeasure input f.measure
  -- each frame that is sent has an octet
  pub frames : All (λ (sent : Sent). 1 ≤ length sent.octets) f.frames
  -- each answer can be printed
  pub answers : All (λ (answer : List ℕ). IsTrue (shows answer)) f.answers

-- ---- all

-- what a text can show of an entry
pub record IsFormedEntry (e : Entry) : Type 0 where
  pub input : IsFormedInput e.input
  -- a frame and a timer come with a reading, and nothing else does
  pub read : is_some e.seen ≡ is_read e.input
  pub effects : AreFormedEffects e.input e.effects

-- a clock begins at tick 0 and at its own pace, and its drift is a whole number of ppb
pub record IsFormedOpening (c : ClockState) : Type 0 where
  pub tick : c.tick ≡ 0
  pub freq : c.freq ≡ pos 0
  pub drift : c.drift ≡ floor_of c.drift (pos 65536) *ℤ pos 65536

-- a run that its text shows whole
pub record IsFormedRun (run : Run) : Type 0 where
  pub entries : All IsFormedEntry run.entries
  -- logs stand by rising clock
  pub rising : AllPairs (λ (former later : Log). former.clock < later.clock) run.logs
  pub openings : All (λ (log : Log). IsFormedOpening log.opening) run.logs
