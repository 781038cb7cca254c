-- Which line may stand behind the lines before, by what was read of them (project).
use Rattle.std.specs.Prelude.{ℕ, ℤ, pos, ◌+◌, ◌≡◌, Bool, true, false, ◌==◌, ◌&&◌, not, nat_lt, nat_le, if◌then◌else◌, List, [], ◌∷◌, ◌++◌, length, Option, Some, None}
use Rattle.std.specs.Str.{bytes_eq}
use Rattle.ptp_profile.specs.declared.timing.Measure.{Measure as A_measure}
use Rattle.ptp_profile.specs.declared.seats.Log.{Log}
use Rattle.ptp_profile.specs.declared.seats.LogEntry.{LogEntry}
use Rattle.bc_history.specs.declared.entry.Input.{Input}
use Rattle.bc_history.specs.declared.entry.Seen.{Seen}
use Rattle.bc_history.specs.declared.entry.Moved.{Moved}
use Rattle.bc_history.specs.declared.entry.Effects.{Effects}
use Rattle.bc_history.specs.declared.entry.Entry.{Entry}
use Rattle.bc_history.specs.declared.entry.Run.{Run}
use Rattle.bc_history.specs.Phases.Inputs.{port_of}
use Rattle.bc_history.specs.Run.Transcript.{answer_lines}
use Rattle.transcript.specs.declared.line.Line.{Line}
use Rattle.transcript.specs.declared.line.Line.TheVariants.{Head, Event, Fate, State, Parent, Order, Measure, Sent, Told, Asked, Answer, Printed, Clock, Logged, End}
use Rattle.transcript.specs.declared.progress.Progress.{Progress}
use Rattle.transcript.specs.declared.progress.Progress.TheVariants.{Start, Opened, InEntry, InLog, Ended}
use Rattle.transcript.specs.TranscriptLines.{IsLineOf}

-- ---- effects: what stands of them, in the order of their kinds

abbrev pub is_none : {A : Type 0} → Option A → Bool
is_none None = true
is_none (Some x) = false

abbrev pub is_empty : {A : Type 0} → List A → Bool
is_empty [] = true
is_empty (x ∷ xs) = false

-- nothing stands of this kind, nor of those behind it
abbrev pub none_from_asked : Effects → Bool
none_from_asked f = is_none f.asked && is_empty f.answers

abbrev pub none_from_told : Effects → Bool
none_from_told f = is_none f.told && none_from_asked f

abbrev pub none_from_frames : Effects → Bool
none_from_frames f = is_empty f.frames && none_from_told f

abbrev pub none_from_measure : Effects → Bool
none_from_measure f = is_none f.measure && none_from_frames f

abbrev pub none_from_orders : Effects → Bool
none_from_orders f = is_empty f.orders && none_from_measure f

abbrev pub none_from_parent : Effects → Bool
none_from_parent f = is_none f.parent && none_from_orders f

abbrev pub none_from_states : Effects → Bool
none_from_states f = is_empty f.states && none_from_parent f

abbrev pub none_from_fate : Effects → Bool
none_from_fate f = is_none f.fate && none_from_states f

-- a change of state may stand behind others: its port is none below theirs, and not that of both of
-- the last two
abbrev pub may_follow : List Moved → Moved → Bool
may_follow [] m = true
may_follow (a ∷ []) m = nat_le a.port m.port
may_follow (a ∷ b ∷ []) m = nat_le b.port m.port && not (a.port == m.port)
may_follow (a ∷ b ∷ c ∷ ms) m = may_follow (b ∷ c ∷ ms) m

-- a measure is of a port that can be a controller
abbrev pub with_measure : Effects → A_measure → ℕ → ℕ → Option ℕ → Option Effects
with_measure f measure gener clock None = None
with_measure f measure gener clock (Some port) =
    if nat_lt port 256
    then Some (record f { measure = Some (measure, record { clock = clock; gener = gener; ctrl = port }) })
    else None

-- the effects of an input with a line more; of an answer, what prints it is not looked at here
abbrev pub with_effect : Input → Effects → Line → Option Effects
with_effect input f Head = None
with_effect input f (Event number moment other seen) = None
with_effect input f (Fate fate) =
    if none_from_fate f then Some (record f { fate = Some fate }) else None
with_effect input f (State m) =
    if none_from_parent f && may_follow f.states m
    then Some (record f { states = f.states ++ m ∷ [] }) else None
with_effect input f (Parent parent) =
    if none_from_parent f then Some (record f { parent = Some parent }) else None
with_effect input f (Order order) =
    if none_from_measure f then Some (record f { orders = f.orders ++ order ∷ [] }) else None
with_effect input f (Measure measure gener clock) =
    if none_from_measure f then with_measure f measure gener clock (port_of input) else None
with_effect input f (Sent sent) =
    if none_from_told f then Some (record f { frames = f.frames ++ sent ∷ [] }) else None
with_effect input f (Told told) =
    if none_from_told f then Some (record f { told = Some told }) else None
with_effect input f (Asked error) =
    if none_from_asked f then Some (record f { asked = Some error }) else None
with_effect input f (Answer answer) = Some (record f { answers = f.answers ++ answer ∷ [] })
with_effect input f (Printed text) = None
with_effect input f (Clock clock time drift) = None
with_effect input f (Logged clock number entry) = None
with_effect input f (End number) = None

-- the lines that have to stand behind an effect
abbrev pub shown_behind : Line → List (List ℕ)
shown_behind (Answer answer) = answer_lines answer
shown_behind _ = []

-- ---- entries and logs

-- an entry of whose lines the first stands
abbrev pub no_effects : Effects
no_effects =
    record { fate = None; states = []; parent = None; orders = []; measure = None; frames = []; told = None; asked = None; answers = [] }

abbrev pub bare_entry : ℕ → Input → Option Seen → Entry
bare_entry moment input seen =
    record { input = input; moment = moment; seen = seen; effects = no_effects }

-- a clock's log of whose lines the first stands
abbrev pub bare_log : ℕ → ℤ → ℤ → Log
bare_log clock time drift =
    record { clock = clock; opening = record { tick = 0; time = time; freq = pos 0; drift = drift }; entries = [] }

-- the run so far, where nothing that has begun has to go on
abbrev pub so_far : Progress → Option Run
so_far Start = None
so_far Opened = Some (record { entries = []; logs = [] })
so_far (InEntry entries e []) = Some (record { entries = entries ++ e ∷ []; logs = [] })
so_far (InEntry entries e (text ∷ shown)) = None
so_far (InLog entries logs log) = Some (record { entries = entries; logs = logs ++ log ∷ [] })
so_far (Ended entries logs) = None

-- ---- the next line

abbrev pub with_head : Progress → Option Progress
with_head Start = Some Opened
with_head Opened = None
with_head (InEntry entries e shown) = None
with_head (InLog entries logs log) = None
with_head (Ended entries logs) = None

-- an entry stands before all clocks, and its number is one more than that of the one before
abbrev pub with_event : Option Run → ℕ → Entry → Option Progress
with_event None number e = None
with_event (Some r) number e =
    if is_empty r.logs && (number == length r.entries + 1) then Some (InEntry r.entries e []) else None

-- clocks rise
abbrev pub is_above : List Log → ℕ → Bool
is_above [] clock = true
is_above (log ∷ []) clock = nat_lt log.clock clock
is_above (log ∷ next ∷ logs) clock = is_above (next ∷ logs) clock

abbrev pub with_clock : Option Run → Log → Option Progress
with_clock None log = None
with_clock (Some r) log =
    if is_above r.logs log.clock then Some (InLog r.entries r.logs log) else None

-- an entry of a log is of the clock before it, and its number is one more than that of the one before
abbrev pub with_logged : Progress → ℕ → ℕ → LogEntry → Option Progress
with_logged Start clock number entry = None
with_logged Opened clock number entry = None
with_logged (InEntry entries e shown) clock number entry = None
with_logged (InLog entries logs log) clock number entry =
    if (clock == log.clock) && (number == length log.entries + 1)
    then Some (InLog entries logs (record log { entries = log.entries ++ entry ∷ [] })) else None
with_logged (Ended entries logs) clock number entry = None

-- the last line says how many entries there are
abbrev pub with_end : Option Run → ℕ → Option Progress
with_end None number = None
with_end (Some r) number =
    if number == length r.entries then Some (Ended r.entries r.logs) else None

-- a line that prints an answer is the next of those
abbrev pub with_printed : Progress → List ℕ → Option Progress
with_printed Start text = None
with_printed Opened text = None
with_printed (InEntry entries e []) text = None
with_printed (InEntry entries e (line ∷ shown)) text =
    if bytes_eq line text then Some (InEntry entries e shown) else None
with_printed (InLog entries logs log) text = None
with_printed (Ended entries logs) text = None

-- an effect is of the entry before it
abbrev pub affected : List Entry → Entry → List (List ℕ) → Option Effects → Option Progress
affected entries e shown None = None
affected entries e shown (Some f) = Some (InEntry entries (record e { effects = f }) shown)

abbrev pub with_effect_line : Progress → Line → Option Progress
with_effect_line Start line = None
with_effect_line Opened line = None
with_effect_line (InEntry entries e []) line =
    affected entries e (shown_behind line) (with_effect e.input e.effects line)
with_effect_line (InEntry entries e (text ∷ shown)) line = None
with_effect_line (InLog entries logs log) line = None
with_effect_line (Ended entries logs) line = None

-- what was read with a line more, where that line may stand there
abbrev pub next : Progress → Line → Option Progress
next p Head = with_head p
next p (Event number moment input seen) = with_event (so_far p) number (bare_entry moment input seen)
next p (Clock clock time drift) = with_clock (so_far p) (bare_log clock time drift)
next p (Logged clock number entry) = with_logged p clock number entry
next p (End number) = with_end (so_far p) number
next p (Printed text) = with_printed p text
next p (Fate fate) = with_effect_line p (Fate fate)
next p (State m) = with_effect_line p (State m)
next p (Parent parent) = with_effect_line p (Parent parent)
next p (Order order) = with_effect_line p (Order order)
next p (Measure measure gener clock) = with_effect_line p (Measure measure gener clock)
next p (Sent sent) = with_effect_line p (Sent sent)
next p (Told told) = with_effect_line p (Told told)
next p (Asked error) = with_effect_line p (Asked error)
next p (Answer answer) = with_effect_line p (Answer answer)

-- what was read behind some lines, where each may stand there
abbrev pub and_then : Option Progress → (Progress → Option Progress) → Option Progress
and_then None f = None
and_then (Some p) f = f p

abbrev pub read_on : Progress → List Line → Option Progress
read_on p [] = Some p
read_on p (line ∷ lines) = and_then (next p line) (λ q. read_on q lines)

-- what a reader makes of octets behind what was read: what was read with the line of these octets,
-- where they are a line that may stand there
abbrev pub IsReadOn : List ℕ → Progress → Option Progress → Type 0
IsReadOn octets p None = (line : Line) → IsLineOf octets line → next p line ≡ None
IsReadOn octets p (Some q) = (line : Line) × IsLineOf octets line × (next p line ≡ Some q)
