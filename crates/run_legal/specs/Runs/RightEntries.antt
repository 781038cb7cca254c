-- What an entry is that may come now (project).
use Rattle.std.specs.Prelude.{List}
use Rattle.ptp_profile.specs.declared.seats.LogEntry.{LogEntry}
use Rattle.bc_history.specs.declared.entry.Entry.{Entry}
use Rattle.bc_history.specs.declared.scenario.Scenario.{Scenario}
use Rattle.bc_history.specs.Phases.Inputs.{event_of}
use Rattle.bc_history.specs.Run.History.{Follows}
use Rattle.run_legal.specs.Numbers.Knowledge.{IsAbreast}
use Rattle.run_legal.specs.Runs.Courses.{IsAgreed, IsReadRight, IsSteered}

-- an entry follows those so far, and is right by their logs, which have none of its orders yet
pub record IsRightEntry (s : Scenario) (entries : List Entry) (logs : List (List LogEntry)) (e : Entry) : Type 0 where
  pub follows : Follows s entries e
  -- clocks show what it read
  pub readings : IsReadRight s logs (event_of e)
  -- the servo asks for what was done
  pub action : IsSteered s e.input entries
  -- its exchange had the outcome that the log shows
  pub agreed : IsAgreed s logs e.input
  -- what it knew is not less than what was known
  pub abreast : IsAbreast s logs (event_of e) entries
