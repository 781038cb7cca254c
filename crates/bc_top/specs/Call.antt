-- A call of the program, what it owes, and why it owes nothing.
use Rattle.std.specs.Prelude.{◌≡◌, ℕ, List, Option}
use Rattle.bc_history.specs.declared.scenario.Scenario.{Scenario}
use Rattle.bc_history.specs.declared.entry.Run.{Run}
use Rattle.bc_history.specs.Scenario.LineFaults.{Stands, IsFirstFault}
use Rattle.bc_history.specs.Run.Transcript.{text_of}
use Rattle.bc_history.specs.Run.World.{IsEnd, Events as Too_many}
use Rattle.bc_gen.specs.MadeScenario.{made_scenario}
use Rattle.bc_top.specs.ReadToEnd.{Reads, IsUnread, IsReadPart, IsReadWhole}
use Rattle.bc_top.specs.WriteAll.{Writes}
use Rattle.bc_top.specs.CommandRuns.{IsRunBy, Overflows, StopsAt}
use Rattle.bc_top.specs.Summary.{IsSummaryOf}
use Rattle.bc_top.specs.declared.words.Command.{Command}
use Rattle.bc_top.specs.declared.words.Command.TheVariants.{Replay, Run as By_threads, Gen}
use Rattle.bc_top.specs.declared.outcome.NoTranscript.{NoTranscript}
use Rattle.bc_top.specs.declared.outcome.NoTranscript.TheVariants.{Refused, Events, NotDue, NoMemory}

-- the command that is asked for, None where the words name none that is taken, and source and sink
-- before the call and after it
pub record Call : Type 0 where
  pub command : Option Command
  pub reads : Reads
  pub writes : Writes

-- a call for this command, and what it did to source and sink
abbrev pub call_of : Option Command → Reads → Writes → Call
call_of command reads writes = record { command = command; reads = reads; writes = writes }

-- ---- a text

-- the text stands for a scenario, and out is the text of a run that the command makes of it
pub record IsTranscriptOf (command : Command) (text out : List ℕ) : Type 0 where
  pub scenario : Scenario
  pub run : Run
  pub stands : Stands text scenario
  pub made : IsRunBy command scenario run
  pub spelled : out ≡ text_of run

-- the text stands for a scenario that has one event too many
pub record IsOverfull (command : Command) (text : List ℕ) : Type 0 where
  pub scenario : Scenario
  pub stands : Stands text scenario
  pub events : Overflows command scenario

-- the text stands for a scenario that ends at a turn of its schedule which has no step
pub record IsOutOfTurn (command : Command) (text : List ℕ) (turn : ℕ) : Type 0 where
  pub scenario : Scenario
  pub stands : Stands text scenario
  pub undue : StopsAt command scenario turn

-- why a text has no transcript; want of memory has no cause that is told
abbrev pub IsWithout : Command → List ℕ → NoTranscript → Type 0
IsWithout command text (Refused line reason) = IsFirstFault text line reason
IsWithout command text Events = IsOverfull command text
IsWithout command text (NotDue turn) = IsOutOfTurn command text turn
IsWithout command text NoMemory = Unit {0}

-- ---- what a command reads and owes

-- the command is about a text that is read
abbrev pub IsOfText : Command → Type 0
IsOfText Replay = Unit {0}
IsOfText By_threads = Unit {0}
IsOfText (Gen n) = ⊥

-- the source was read to its end, and out is the transcript of what was read
pub record IsTranscriptOfSource (command : Command) (r : Reads) (out : List ℕ) : Type 0 where
  pub text : List ℕ
  pub read : IsReadWhole r text
  pub transcript : IsTranscriptOf command text out

-- the source was read to its end, and what was read stands for a scenario that has one event too
-- many
pub record IsOverfullSource (command : Command) (r : Reads) : Type 0 where
  pub text : List ℕ
  pub read : IsReadWhole r text
  pub overfull : IsOverfull command text

-- what a command owes: the transcript of what was read to the end of the source, or at `gen`, with
-- nothing read, the summary of the scenario of the number
abbrev pub IsOwed : Command → Reads → List ℕ → Type 0
IsOwed Replay r out = IsTranscriptOfSource Replay r out
IsOwed By_threads r out = IsTranscriptOfSource By_threads r out
IsOwed (Gen n) r out = IsUnread r × IsSummaryOf n out

-- the scenario that the command is about has one event too many
abbrev pub IsTooLarge : Command → Reads → Type 0
IsTooLarge Replay r = IsOverfullSource Replay r
IsTooLarge By_threads r = IsOverfullSource By_threads r
IsTooLarge (Gen n) r = IsUnread r × IsEnd (made_scenario n) Too_many

-- what a command may have read wherever it ends, if no read failed
abbrev pub IsReadBy : Command → Reads → Type 0
IsReadBy Replay r = IsReadPart r
IsReadBy By_threads r = IsReadPart r
IsReadBy (Gen n) r = IsUnread r

-- ---- why there is nothing to write

-- the source was read to its end, and what was read has no transcript
pub record IsSourceWithout (command : Command) (r : Reads) (why : NoTranscript) : Type 0 where
  pub text : List ℕ
  pub read : IsReadWhole r text
  pub without : IsWithout command text why

-- why scenario n has no summary: its text is never refused, and it has no schedule
abbrev pub IsWithoutSummary : ℕ → NoTranscript → Type 0
IsWithoutSummary n (Refused line reason) = ⊥
IsWithoutSummary n Events = IsEnd (made_scenario n) Too_many
IsWithoutSummary n (NotDue turn) = ⊥
IsWithoutSummary n NoMemory = Unit {0}

-- why a command owes nothing
abbrev pub IsExcused : Command → Reads → NoTranscript → Type 0
IsExcused Replay r why = IsSourceWithout Replay r why
IsExcused By_threads r why = IsSourceWithout By_threads r why
IsExcused (Gen n) r why = IsUnread r × IsWithoutSummary n why
