-- Each line of a run that its text shows whole is one that a text can show.
use Rattle.std.proofs.Common.{ℕ, ◌+◌, ◌<◌, ◌≤◌, ◌^◌, Bool, true, false, cond, arith, List, [], ◌∷◌, ◌++◌, length, map, Option, Some, None}
use Rattle.std.specs.Prelude.{All, IsTrue}
use Rattle.std.proofs.lemmas.List.Elements.{All-head, All-tail, All-cons, All-nil, All-append}
use Rattle.ptp_base.specs.declared.identity.PortId.{PortId}
use Rattle.ptp_profile.specs.declared.port_event.Fate.{Fate as A_fate}
use Rattle.ptp_profile.specs.declared.timing.Measure.{Measure as A_measure}
use Rattle.ptp_profile.specs.declared.roles.RoleOrder.{RoleOrder}
use Rattle.ptp_profile.specs.declared.seats.Held.{Held}
use Rattle.ptp_profile.specs.declared.seats.Log.{Log}
use Rattle.ptp_profile.specs.declared.seats.LogEntry.{LogEntry}
use Rattle.ptp_management.specs.declared.query.AskError.{AskError}
use Rattle.ptp_management.specs.ManagementQueries.{shows, printed_lines}
use Rattle.bc_history.specs.declared.entry.Moved.{Moved}
use Rattle.bc_history.specs.declared.entry.Sent.{Sent as A_frame}
use Rattle.bc_history.specs.declared.entry.Told.{Told as A_told}
use Rattle.bc_history.specs.declared.entry.Entry.{Entry}
use Rattle.bc_history.specs.declared.entry.Run.{Run}
use Rattle.bc_history.specs.Run.FormedRuns.{IsFormedEntry, IsFormedOpening, IsFormedRun}
use Rattle.bc_history.specs.Run.Transcript.{answer_lines}
use Rattle.transcript.specs.declared.line.Line.{Line}
use Rattle.transcript.specs.declared.line.Line.TheVariants.{Head, Event, Fate, State, Parent, Order, Measure, Sent, Told, Asked, Answer, Printed, Clock, Logged, End}
use Rattle.transcript.specs.RunLines.{fate_lines, parent_lines, measure_lines, told_lines, asked_lines, answers_lines, effects_lines, entry_lines, entries_lines, logged_lines, log_lines, logs_lines, lines_of}
use Rattle.transcript.specs.TypedLines.{IsTypedOrder, IsTypedLogEntry, AreOctets, IsWithin}
use Rattle.transcript.specs.TypedRuns.{IsTypedParent, IsTypedMeasured, IsTypedTold, IsTypedMove, IsTypedSent, IsTypedEntry, IsTypedLog, IsTypedRun}
use Rattle.transcript.proofs.lemmas.LineTextLemmas.{IsGoodLine}
use Rattle.transcript.proofs.lemmas.MarginLemmas.{lines-printed, AreLines as HaveNoNewline}
use Rattle.transcript.proofs.lemmas.SplitLemmas.{line_again, octets_again}

abbrev AreGood : List Line → Type 0
AreGood lines = All IsGoodLine lines

none_good : AreGood []
none_good = All-nil IsGoodLine

one_good : (line : Line) → IsGoodLine line → AreGood (line ∷ [])
one_good line good = All-cons IsGoodLine line [] good none_good

both_good : (xs ys : List Line) → AreGood xs → AreGood ys → AreGood (xs ++ ys)
both_good xs ys a b = All-append IsGoodLine xs ys a b

good_fate : (fate : Option A_fate) → AreGood (fate_lines fate)
good_fate None = none_good
good_fate (Some fate) = one_good (Fate fate) (record { formed = tt; typed = tt })

good_moves : (moves : List Moved) → All IsTypedMove moves → AreGood (map State moves)
good_moves [] typed = none_good
good_moves (m ∷ moves) typed = All-cons IsGoodLine (State m) (map State moves) (record { formed = tt; typed = All-head IsTypedMove m moves typed }) (good_moves moves (All-tail IsTypedMove m moves typed))

good_parent : (parent : Option PortId) → IsTypedParent parent → AreGood (parent_lines parent)
good_parent None typed = none_good
good_parent (Some parent) typed = one_good (Parent parent) (record { formed = tt; typed = typed })

good_orders : (orders : List RoleOrder) → All IsTypedOrder orders → AreGood (map Order orders)
good_orders [] typed = none_good
good_orders (o ∷ orders) typed = All-cons IsGoodLine (Order o) (map Order orders) (record { formed = tt; typed = All-head IsTypedOrder o orders typed }) (good_orders orders (All-tail IsTypedOrder o orders typed))

good_measure : (measure : Option (A_measure × Held)) → IsTypedMeasured measure → AreGood (measure_lines measure)
good_measure None typed = none_good
good_measure (Some m) typed = one_good (Measure m.0 m.1.gener m.1.clock) (record { formed = tt; typed = (typed.0, typed.1.1, typed.1.0) })

good_frames : (frames : List A_frame) → All (λ (sent : A_frame). 1 ≤ length sent.octets) frames → All IsTypedSent frames → AreGood (map Sent frames)
good_frames [] formed typed = none_good
good_frames (sent ∷ frames) formed typed =
    All-cons IsGoodLine (Sent sent) (map Sent frames) (record { formed = All-head (λ (sent : A_frame). 1 ≤ length sent.octets) sent frames formed; typed = All-head IsTypedSent sent frames typed })
    (good_frames frames (All-tail (λ (sent : A_frame). 1 ≤ length sent.octets) sent frames formed) (All-tail IsTypedSent sent frames typed))

good_told : (told : Option A_told) → IsTypedTold told → AreGood (told_lines told)
good_told None typed = none_good
good_told (Some told) typed = one_good (Told told) (record { formed = tt; typed = typed })

good_asked : (asked : Option AskError) → AreGood (asked_lines asked)
good_asked None = none_good
good_asked (Some error) = one_good (Asked error) (record { formed = tt; typed = tt })

good_printed : (lines : List (List ℕ)) → HaveNoNewline lines → AreGood (map Printed lines)
good_printed [] plain = none_good
good_printed (line ∷ lines) plain =
    All-cons IsGoodLine (Printed line) (map Printed lines) (record { formed = line_again line plain.0; typed = octets_again line plain.0 }) (good_printed lines plain.1)

shown_plain : (b : Bool) (lines : List (List ℕ)) → HaveNoNewline lines → HaveNoNewline (cond b lines [])
shown_plain true lines plain = plain
shown_plain false lines plain = tt

good_answers : (answers : List (List ℕ)) → All (λ (answer : List ℕ). IsTrue (shows answer)) answers → All AreOctets answers → AreGood (answers_lines answers)
good_answers [] formed typed = none_good
good_answers (answer ∷ answers) formed typed =
    All-cons IsGoodLine (Answer answer) (map Printed (answer_lines answer) ++ answers_lines answers)
    (record { formed = All-head (λ (answer : List ℕ). IsTrue (shows answer)) answer answers formed; typed = All-head AreOctets answer answers typed })
    (both_good (map Printed (answer_lines answer)) (answers_lines answers) (good_printed (answer_lines answer) (shown_plain (shows answer) (printed_lines answer) (lines-printed answer)))
    (good_answers answers (All-tail (λ (answer : List ℕ). IsTrue (shows answer)) answer answers formed) (All-tail AreOctets answer answers typed)))

good_effects : (e : Entry) → IsFormedEntry e → IsTypedEntry e → AreGood (effects_lines e.effects)
unfolding effects_lines
good_effects e formed typed =
    let f = e.effects in
    let t = typed.effects in
    both_good (fate_lines f.fate) _ (good_fate f.fate)
    (both_good (map State f.states) _ (good_moves f.states t.states)
    (both_good (parent_lines f.parent) _ (good_parent f.parent t.parent)
    (both_good (map Order f.orders) _ (good_orders f.orders t.orders)
    (both_good (measure_lines f.measure) _ (good_measure f.measure t.measure)
    (both_good (map Sent f.frames) _ (good_frames f.frames formed.effects.frames t.frames)
    (both_good (told_lines f.told) _ (good_told f.told t.told)
    (both_good (asked_lines f.asked) _ (good_asked f.asked) (good_answers f.answers formed.effects.answers t.answers))))))))

good_entry : (n : ℕ) (e : Entry) → n < 2 ^ 64 → IsFormedEntry e → IsTypedEntry e → AreGood (entry_lines n e)
unfolding entry_lines
good_entry n e below formed typed =
    All-cons IsGoodLine (Event n e.moment e.input e.seen) (effects_lines e.effects)
    (record { formed = (formed.input, formed.read); typed = (below, typed.moment, typed.input, typed.seen) }) (good_effects e formed typed)

good_entries : (n : ℕ) (es : List Entry) → n + length es ≤ 2 ^ 64 → All IsFormedEntry es → All IsTypedEntry es → AreGood (entries_lines n es)
good_entries n [] below formed typed = none_good
good_entries n (e ∷ es) below formed typed =
    both_good (entry_lines n e) (entries_lines (n + 1) es) (good_entry n e (omega (arith, below)) (All-head IsFormedEntry e es formed) (All-head IsTypedEntry e es typed))
    (good_entries (n + 1) es (omega (arith, below)) (All-tail IsFormedEntry e es formed) (All-tail IsTypedEntry e es typed))

good_logged : (clock n : ℕ) (xs : List LogEntry) → IsWithin 8 clock → n + length xs ≤ 2 ^ 64 → All IsTypedLogEntry xs → AreGood (logged_lines clock n xs)
good_logged clock n [] low below typed = none_good
good_logged clock n (x ∷ xs) low below typed =
    All-cons IsGoodLine (Logged clock n x) (logged_lines clock (n + 1) xs) (record { formed = tt; typed = (low, omega (arith, below), All-head IsTypedLogEntry x xs typed) })
    (good_logged clock (n + 1) xs low (omega (arith, below)) (All-tail IsTypedLogEntry x xs typed))

good_log : (log : Log) → IsFormedOpening log.opening → IsTypedLog log → AreGood (log_lines log)
unfolding log_lines
good_log log formed typed =
    let count : length log.entries < 2 ^ 64 = typed.count in
    All-cons IsGoodLine (Clock log.clock log.opening.time log.opening.drift) (logged_lines log.clock 1 log.entries)
    (record { formed = formed.drift; typed = (typed.clock, typed.opening.time, typed.opening.drift) }) (good_logged log.clock 1 log.entries typed.clock (omega (arith, count)) typed.entries)

good_logs : (logs : List Log) → All (λ (log : Log). IsFormedOpening log.opening) logs → All IsTypedLog logs → AreGood (logs_lines logs)
good_logs [] formed typed = none_good
good_logs (log ∷ logs) formed typed =
    both_good (log_lines log) (logs_lines logs) (good_log log (All-head (λ (log : Log). IsFormedOpening log.opening) log logs formed) (All-head IsTypedLog log logs typed))
    (good_logs logs (All-tail (λ (log : Log). IsFormedOpening log.opening) log logs formed) (All-tail IsTypedLog log logs typed))

pub good_run : (r : Run) → IsFormedRun r → IsTypedRun r → All IsGoodLine (lines_of r)
unfolding lines_of
good_run r formed typed =
    let count : length r.entries < 2 ^ 64 = typed.count in
    All-cons IsGoodLine Head _ (record { formed = tt; typed = tt })
    (both_good (entries_lines 1 r.entries) _ (good_entries 1 r.entries (omega (arith, count)) formed.entries typed.entries)
    (both_good (logs_lines r.logs) _ (good_logs r.logs formed.openings typed.logs) (one_good (End (length r.entries)) (record { formed = tt; typed = typed.count }))))
