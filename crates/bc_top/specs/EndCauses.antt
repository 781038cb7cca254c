-- What a call ends with, and why.
use Rattle.std.specs.Prelude.{◌≡◌, ℕ, List, Some, None}
use Rattle.text_io.specs.declared.reason.Reason.{Reason}
use Rattle.bc_history.specs.Scenario.LineFaults.{IsFirstFault}
use Rattle.bc_top.specs.ReadToEnd.{IsUnread, IsReadWhole, IsReadTooFar, IsReadFault}
use Rattle.bc_top.specs.WriteAll.{IsUnwritten, IsWritten, IsWriteFault}
use Rattle.bc_top.specs.Call.{Call, IsOfText, IsOutOfTurn, IsOwed, IsReadBy, IsTooLarge}
use Rattle.bc_top.specs.declared.words.Command.{Command}
use Rattle.bc_top.specs.declared.outcome.End.{End}
use Rattle.bc_top.specs.declared.outcome.End.TheVariants.{Done, Usage, Refused, ReadFault, WriteFault, Events, NoMemory, NotDue, TooLong}

-- what the command owes was written
pub record IsDone (c : Call) : Type 0 where
  pub command : Command
  pub asked : c.command ≡ Some command
  pub out : List ℕ
  pub owed : IsOwed command c.reads out
  pub written : IsWritten c.writes out

-- the words name no command that is taken, and nothing was read or written
pub record IsUsage (c : Call) : Type 0 where
  pub other : c.command ≡ None
  pub unread : IsUnread c.reads
  pub unwritten : IsUnwritten c.writes

-- the source was read to its end, and what was read is refused by its first fault
pub record IsRefused (c : Call) (line : ℕ) (reason : Reason) : Type 0 where
  pub command : Command
  pub asked : c.command ≡ Some command
  pub of_text : IsOfText command
  pub text : List ℕ
  pub read : IsReadWhole c.reads text
  pub fault : IsFirstFault text line reason
  pub unwritten : IsUnwritten c.writes

-- a read failed
pub record IsFaultOfReading (c : Call) : Type 0 where
  pub command : Command
  pub asked : c.command ≡ Some command
  pub of_text : IsOfText command
  pub failed : IsReadFault c.reads
  pub unwritten : IsUnwritten c.writes

-- a write failed, after a part of what the command owes
pub record IsFaultOfWriting (c : Call) : Type 0 where
  pub command : Command
  pub asked : c.command ≡ Some command
  pub out : List ℕ
  pub owed : IsOwed command c.reads out
  pub failed : IsWriteFault c.writes out

-- the scenario that the command is about ends at one event too many
pub record IsTooMany (c : Call) : Type 0 where
  pub command : Command
  pub asked : c.command ≡ Some command
  pub overfull : IsTooLarge command c.reads
  pub unwritten : IsUnwritten c.writes

-- the source was read to its end, and the scenario of what was read ends at a turn that has no step
pub record IsNotDue (c : Call) (turn : ℕ) : Type 0 where
  pub command : Command
  pub asked : c.command ≡ Some command
  pub text : List ℕ
  pub read : IsReadWhole c.reads text
  pub out_of_turn : IsOutOfTurn command text turn
  pub unwritten : IsUnwritten c.writes

-- the source gave one octet more than a text may have
pub record IsTooLong (c : Call) : Type 0 where
  pub command : Command
  pub asked : c.command ≡ Some command
  pub of_text : IsOfText command
  pub far : IsReadTooFar c.reads
  pub unwritten : IsUnwritten c.writes

-- want of memory has no cause that is told, but no read failed and nothing was written
pub record IsNoMemory (c : Call) : Type 0 where
  pub command : Command
  pub asked : c.command ≡ Some command
  pub read : IsReadBy command c.reads
  pub unwritten : IsUnwritten c.writes

-- an end and its cause
abbrev pub IsCaused : Call → End → Type 0
IsCaused c Done = IsDone c
IsCaused c Usage = IsUsage c
IsCaused c (Refused line reason) = IsRefused c line reason
IsCaused c ReadFault = IsFaultOfReading c
IsCaused c WriteFault = IsFaultOfWriting c
IsCaused c Events = IsTooMany c
IsCaused c (NotDue turn) = IsNotDue c turn
IsCaused c NoMemory = IsNoMemory c
IsCaused c TooLong = IsTooLong c
