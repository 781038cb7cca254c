-- Which text is a run's, and the first line of another text that no run continues (project).
use Rattle.std.specs.Prelude.{ℕ, ◌+◌, ◌≡◌, List, [], ◌∷◌, ◌++◌, length, codes}
use Rattle.ptp_profile.specs.Port.PrintedNames.{◌<>◌}
use Rattle.bc_history.specs.declared.entry.Run.{Run}
use Rattle.bc_history.specs.Run.FormedRuns.{IsFormedRun}
use Rattle.bc_history.specs.Run.Transcript.{text_of}
use Rattle.transcript.specs.declared.line.Line.{Line}
use Rattle.transcript.specs.declared.text_error.TextError.{TextError}
use Rattle.transcript.specs.declared.text_error.TextError.TheVariants.{Line as At_line, NoMemory}
use Rattle.transcript.specs.RunLines.{lines_of, lines_text}
use Rattle.transcript.specs.TranscriptLines.{IsLineOf}
use Rattle.transcript.specs.TypedRuns.{IsTypedRun}

-- a text is that of a run that it shows whole
pub record IsTextOf (text : List ℕ) (run : Run) : Type 0 where
  pub formed : IsFormedRun run
  pub typed : IsTypedRun run
  pub spelled : text ≡ text_of run

-- the lines of some run begin with these
pub record IsBegun (lines : List Line) : Type 0 where
  pub run : Run
  pub formed : IsFormedRun run
  pub typed : IsTypedRun run
  pub more : List Line
  pub begins : lines_of run ≡ lines ++ more

-- a text goes on with a whole line, behind lines that some run begins with, as some run does
pub record GoesOn (before : List Line) (rest : List ℕ) : Type 0 where
  pub octets : List ℕ
  pub behind : List ℕ
  pub whole : rest ≡ octets <> codes "\n" <> behind
  pub line : Line
  pub read : IsLineOf octets line
  pub begun : IsBegun (before ++ line ∷ [])

-- line n of a text, counted from 1, is the first that no run continues: the lines before it begin a
-- run, and with line n they do not, or the text ends there too early
pub record IsFirstFault (text : List ℕ) (n : ℕ) : Type 0 where
  pub before : List Line
  pub rest : List ℕ
  pub counted : n ≡ length before + 1
  pub whole : text ≡ lines_text before ++ rest
  pub begun : IsBegun before
  pub stops : GoesOn before rest → ⊥
  pub unfinished : (run : Run) → IsTextOf text run → ⊥

-- why a text is refused
abbrev pub IsRefused : List ℕ → TextError → Type 0
IsRefused text (At_line line) = IsFirstFault text line
IsRefused text NoMemory = Unit {0}
