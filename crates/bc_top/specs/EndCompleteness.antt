-- Which end a call has, but for memory, where no fault rose; where a text is read, the source has
-- to tell what is left in it.
use Rattle.std.specs.Prelude.{◌≡◌, ◌⊎◌, ℕ, ◌<◌, ◌≤◌, List, length, Some}
use Rattle.ptp_base.specs.declared.limits.TheConstants.{TEXT_MAX}
use Rattle.text_io.specs.SourceAndSink.{Rose}
use Rattle.text_io.specs.declared.reason.Reason.{Reason}
use Rattle.bc_history.specs.declared.scenario.Scenario.{Scenario}
use Rattle.bc_history.specs.declared.entry.Run.{Run}
use Rattle.bc_history.specs.Scenario.LineFaults.{Stands, IsFirstFault}
use Rattle.bc_history.specs.Run.World.{IsWorld, IsEnd, Events as Too_many, Not_due}
use Rattle.bc_gen.specs.MadeScenario.{made_scenario}
use Rattle.bc_top.specs.ReadToEnd.{Reads}
use Rattle.bc_top.specs.Call.{Call}
use Rattle.bc_top.specs.declared.words.Command.{Command}
use Rattle.bc_top.specs.declared.words.Command.TheVariants.{Replay, Run as By_threads, Gen}
use Rattle.bc_top.specs.declared.outcome.End.{End}
use Rattle.bc_top.specs.declared.outcome.End.TheVariants.{Done, Refused, Events, NoMemory, NotDue, TooLong}

-- the end is the one that is due, or there was no memory
abbrev pub EndsBy : End → End → Type 0
EndsBy due end = (end ≡ due) ⊎ (end ≡ NoMemory)

-- the end that is due where a scenario is replayed: as its turns end
pub record IsEndOfTurns (s : Scenario) (end : End) : Type 0 where
  pub done : (run : Run) → IsWorld s run → EndsBy Done end
  pub events : IsEnd s Too_many → EndsBy Events end
  pub not_due : (turn : ℕ) → IsEnd s (Not_due turn) → EndsBy (NotDue turn) end

-- an end that is due at the scenario of a text by the command; it is open whether threads come to
-- one event too many, and `gen` is about no text
abbrev pub IsEndOf : Command → Scenario → End → Type 0
IsEndOf Replay s end = IsEndOfTurns s end
IsEndOf By_threads s end = EndsBy Done end ⊎ EndsBy Events end
IsEndOf (Gen n) s end = ⊥

-- an end that is due at a text by the command
pub record IsEndAt (command : Command) (text : List ℕ) (end : End) : Type 0 where
  pub stands : length text ≤ TEXT_MAX → (s : Scenario) → Stands text s → IsEndOf command s end
  pub refused : length text ≤ TEXT_MAX → (line : ℕ) (reason : Reason)
      → IsFirstFault text line reason → EndsBy (Refused line reason) end
  pub too_long : TEXT_MAX < length text → EndsBy TooLong end

-- an end that is due by the command at the text that the source told, where no read failed
abbrev pub IsEndOfSource : Command → Reads → End → Type 0
IsEndOfSource command r end =
    ¬ (Rose r.faults r.faults_after) → (text : List ℕ) → r.left ≡ Some text
    → IsEndAt command text end

-- an end that is due by the command; `gen` goes by the scenario of its number alone
abbrev pub IsEndBy : Command → Reads → End → Type 0
IsEndBy Replay r end = IsEndOfSource Replay r end
IsEndBy By_threads r end = IsEndOfSource By_threads r end
IsEndBy (Gen n) r end = IsEndOfTurns (made_scenario n) end

-- where no write failed, the end of a call for a command is one that is due
pub record IsComplete (c : Call) (end : End) : Type 0 where
  pub due : (command : Command) → c.command ≡ Some command
      → ¬ (Rose c.writes.faults c.writes.faults_after) → IsEndBy command c.reads end
