-- The lines of a run, the first one first (project).
use Rattle.std.specs.Prelude.{ℕ, ◌+◌, List, [], ◌∷◌, ◌++◌, codes, length, map, Option, Some, None}
use Rattle.ptp_base.specs.declared.identity.PortId.{PortId}
use Rattle.ptp_profile.specs.declared.port_event.Fate.{Fate as A_fate}
use Rattle.ptp_profile.specs.declared.timing.Measure.{Measure as A_measure}
use Rattle.ptp_profile.specs.declared.seats.Held.{Held}
use Rattle.ptp_profile.specs.declared.seats.Log.{Log}
use Rattle.ptp_profile.specs.declared.seats.LogEntry.{LogEntry}
use Rattle.ptp_profile.specs.Port.PrintedNames.{◌<>◌}
use Rattle.ptp_management.specs.declared.query.AskError.{AskError}
use Rattle.bc_history.specs.declared.entry.Told.{Told as A_told}
use Rattle.bc_history.specs.declared.entry.Effects.{Effects}
use Rattle.bc_history.specs.declared.entry.Entry.{Entry}
use Rattle.bc_history.specs.declared.entry.Run.{Run}
use Rattle.bc_history.specs.Run.Transcript.{answer_lines}
use Rattle.transcript.specs.declared.line.Line.{Line}
use Rattle.transcript.specs.declared.line.Line.TheVariants.{Head, Event, Fate, State, Parent, Order, Measure, Sent, Told, Asked, Answer, Printed, Clock, Logged, End}
use Rattle.transcript.specs.TranscriptLines.{line_text}

-- ---- the effects of an entry

abbrev pub fate_lines : Option A_fate → List Line
fate_lines None = []
fate_lines (Some fate) = Fate fate ∷ []

abbrev pub parent_lines : Option PortId → List Line
parent_lines None = []
parent_lines (Some parent) = Parent parent ∷ []

abbrev pub measure_lines : Option (A_measure × Held) → List Line
measure_lines None = []
measure_lines (Some m) = Measure m.0 m.1.gener m.1.clock ∷ []

abbrev pub told_lines : Option A_told → List Line
told_lines None = []
told_lines (Some told) = Told told ∷ []

abbrev pub asked_lines : Option AskError → List Line
asked_lines None = []
asked_lines (Some error) = Asked error ∷ []

-- the answers, each with the lines that print it behind it
abbrev pub answers_lines : List (List ℕ) → List Line
answers_lines [] = []
answers_lines (answer ∷ answers) =
    Answer answer ∷ (map Printed (answer_lines answer) ++ answers_lines answers)

-- what follows from an input
unfoldable pub effects_lines : Effects → List Line
effects_lines f =
    fate_lines f.fate ++ (map State f.states ++ (parent_lines f.parent ++ (map Order f.orders
    ++ (measure_lines f.measure ++ (map Sent f.frames ++ (told_lines f.told
    ++ (asked_lines f.asked ++ answers_lines f.answers)))))))

-- ---- the run

-- the entry of a number
unfoldable pub entry_lines : ℕ → Entry → List Line
entry_lines n e = Event n e.moment e.input e.seen ∷ effects_lines e.effects

-- the entries, numbered from n
abbrev pub entries_lines : ℕ → List Entry → List Line
entries_lines n [] = []
entries_lines n (e ∷ es) = entry_lines n e ++ entries_lines (n + 1) es

-- the entries of a clock's log, numbered from n
abbrev pub logged_lines : ℕ → ℕ → List LogEntry → List Line
logged_lines clock n [] = []
logged_lines clock n (entry ∷ entries) = Logged clock n entry ∷ logged_lines clock (n + 1) entries

-- a clock
unfoldable pub log_lines : Log → List Line
log_lines log =
    Clock log.clock log.opening.time log.opening.drift ∷ logged_lines log.clock 1 log.entries

-- the clocks
abbrev pub logs_lines : List Log → List Line
logs_lines [] = []
logs_lines (log ∷ logs) = log_lines log ++ logs_lines logs

-- all
unfoldable pub lines_of : Run → List Line
lines_of r =
    Head ∷ (entries_lines 1 r.entries ++ (logs_lines r.logs ++ End (length r.entries) ∷ []))

-- ---- texts

-- the text of some lines, each with a newline behind it
abbrev pub lines_text : List Line → List ℕ
lines_text [] = []
lines_text (line ∷ lines) = line_text line <> codes "\n" <> lines_text lines
