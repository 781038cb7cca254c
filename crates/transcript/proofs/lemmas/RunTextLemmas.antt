-- The texts of the lines of a run, each with its newline, are the text of the run.
use Rattle.std.proofs.Common.{◌≡◌, ℕ, ◌+◌, ℤ, refl, ap, ◌∙◌, List, [], ◌∷◌, ◌++◌, length, map, Option, Some, None, append_assoc, codes}
use Rattle.std.specs.Prelude.{pos}
use Rattle.std.specs.Fmt.{decimal, signed_decimal}
use Rattle.hex.specs.Hex.{encode_lower}
use Rattle.ptp_base.specs.Floor.{floor_of}
use Rattle.ptp_base.specs.declared.identity.PortId.{PortId}
use Rattle.ptp_profile.specs.declared.port_event.Fate.{Fate as A_fate}
use Rattle.ptp_profile.specs.declared.timing.Measure.{Measure as A_measure}
use Rattle.ptp_profile.specs.declared.roles.RoleOrder.{RoleOrder}
use Rattle.ptp_profile.specs.declared.seats.Held.{Held}
use Rattle.ptp_profile.specs.declared.seats.Log.{Log}
use Rattle.ptp_profile.specs.declared.seats.LogEntry.{LogEntry}
use Rattle.ptp_profile.specs.declared.seats.LogEntry.TheVariants.{Order as An_order, Change as A_change}
use Rattle.ptp_profile.specs.Port.PrintedNames.{◌<>◌, state_name}
use Rattle.ptp_management.specs.declared.query.AskError.{AskError}
use Rattle.bc_history.specs.declared.entry.Moved.{Moved}
use Rattle.bc_history.specs.declared.entry.Sent.{Sent as A_frame}
use Rattle.bc_history.specs.declared.entry.Told.{Told as A_told}
use Rattle.bc_history.specs.declared.entry.Effects.{Effects}
use Rattle.bc_history.specs.declared.entry.Entry.{Entry}
use Rattle.bc_history.specs.declared.entry.Run.{Run}
use Rattle.bc_history.specs.Run.Transcript.{input_text, seen_text, fate_text, moves_text, parent_text, orders_text, measure_text, frames_text, told_text, asked_text, answer_lines, indented, answers_text, effects_text, entry_text, entries_text, log_entries_text, log_text, logs_text, text_of}
use Rattle.transcript.specs.declared.line.Line.{Line}
use Rattle.transcript.specs.declared.line.Line.TheVariants.{State, Order, Sent, Answer, Printed, Clock, Logged, End}
use Rattle.transcript.specs.RunLines.{fate_lines, parent_lines, measure_lines, told_lines, asked_lines, answers_lines, effects_lines, entry_lines, entries_lines, logged_lines, log_lines, logs_lines, lines_of, lines_text}
use Rattle.transcript.specs.TranscriptLines.{line_text}
use Rattle.transcript.proofs.lemmas.LineTextLemmas.{lines_text-append}

-- ---- effects

text_fate : (fate : Option A_fate) → lines_text (fate_lines fate) ≡ fate_text fate
unfolding line_text
text_fate None = refl
text_fate (Some fate) = simp append_assoc

move_text : (m : Moved) (rest : List ℕ) → (codes "  state " <> decimal m.port <> codes " " <> state_name m.old <> codes " " <> state_name m.new) ++ 10 ∷ rest
    ≡ (codes "  state " <> decimal m.port <> codes " " <> state_name m.old <> codes " " <> state_name m.new <> codes "\n") ++ rest
move_text m rest = simp append_assoc

text_moves : (moves : List Moved) → lines_text (map State moves) ≡ moves_text moves
unfolding line_text
text_moves [] = refl
text_moves (m ∷ moves) = ap (λ (text : List ℕ). line_text (State m) ++ 10 ∷ text) (text_moves moves) ∙ move_text m (moves_text moves)

text_parent : (parent : Option PortId) → lines_text (parent_lines parent) ≡ parent_text parent
unfolding line_text
text_parent None = refl
text_parent (Some parent) = simp append_assoc

order_text : (order : RoleOrder) (rest : List ℕ) → (codes "  order " <> decimal order.clock <> codes " " <> decimal order.gener <> codes " " <> decimal order.ctrl) ++ 10 ∷ rest
    ≡ codes "  order " <> decimal order.clock <> codes " " <> decimal order.gener <> codes " " <> decimal order.ctrl <> codes "\n" <> rest
order_text order rest = simp append_assoc

text_orders : (orders : List RoleOrder) → lines_text (map Order orders) ≡ orders_text orders
unfolding line_text
text_orders [] = refl
text_orders (order ∷ orders) = ap (λ (text : List ℕ). line_text (Order order) ++ 10 ∷ text) (text_orders orders) ∙ order_text order (orders_text orders)

text_measure : (measure : Option (A_measure × Held)) → lines_text (measure_lines measure) ≡ measure_text measure
unfolding line_text
text_measure None = refl
text_measure (Some m) = simp append_assoc

frame_text : (sent : A_frame) (rest : List ℕ) → (codes "  send " <> decimal sent.port <> codes " " <> encode_lower sent.octets) ++ 10 ∷ rest ≡ codes "  send " <> decimal sent.port <> codes " " <> encode_lower sent.octets <> codes "\n" <> rest
frame_text sent rest = simp append_assoc

text_frames : (frames : List A_frame) → lines_text (map Sent frames) ≡ frames_text frames
unfolding line_text
text_frames [] = refl
text_frames (sent ∷ frames) = ap (λ (text : List ℕ). line_text (Sent sent) ++ 10 ∷ text) (text_frames frames) ∙ frame_text sent (frames_text frames)

text_told : (told : Option A_told) → lines_text (told_lines told) ≡ told_text told
unfolding line_text
text_told None = refl
text_told (Some told) = simp append_assoc

text_asked : (asked : Option AskError) → lines_text (asked_lines asked) ≡ asked_text asked
unfolding line_text
text_asked None = refl
text_asked (Some error) = simp append_assoc

text_printed : (lines : List (List ℕ)) → lines_text (map Printed lines) ≡ indented lines
unfolding line_text
text_printed [] = refl
text_printed (line ∷ lines) = ap (λ (text : List ℕ). line_text (Printed line) ++ 10 ∷ text) (text_printed lines)

text_answers : (answers : List (List ℕ)) → lines_text (answers_lines answers) ≡ answers_text answers
unfolding line_text
text_answers [] = refl
text_answers (answer ∷ answers) =
    ap (λ (text : List ℕ). line_text (Answer answer) ++ 10 ∷ text)
    (lines_text-append (map Printed (answer_lines answer)) (answers_lines answers)
    ∙ ap (λ (text : List ℕ). text ++ lines_text (answers_lines answers)) (text_printed (answer_lines answer))
    ∙ ap (λ (text : List ℕ). indented (answer_lines answer) ++ text) (text_answers answers))

joined : (xs ys : List Line) (a b : List ℕ) → lines_text xs ≡ a → lines_text ys ≡ b → lines_text (xs ++ ys) ≡ a ++ b
joined xs ys a b is_a is_b = rw (lines_text-append xs ys, is_a, is_b) refl

text_effects : (f : Effects) → lines_text (effects_lines f) ≡ effects_text f
unfolding effects_lines effects_text
text_effects f =
    joined (fate_lines f.fate) _ (fate_text f.fate) _ (text_fate f.fate)
    (joined (map State f.states) _ (moves_text f.states) _ (text_moves f.states)
    (joined (parent_lines f.parent) _ (parent_text f.parent) _ (text_parent f.parent)
    (joined (map Order f.orders) _ (orders_text f.orders) _ (text_orders f.orders)
    (joined (measure_lines f.measure) _ (measure_text f.measure) _ (text_measure f.measure)
    (joined (map Sent f.frames) _ (frames_text f.frames) _ (text_frames f.frames)
    (joined (told_lines f.told) _ (told_text f.told) _ (text_told f.told)
    (joined (asked_lines f.asked) _ (asked_text f.asked) _ (text_asked f.asked) (text_answers f.answers))))))))

-- ---- the run

event_parts : (number moment input seen effects : List ℕ)
    → (codes "event " <> number <> codes " " <> moment <> codes " " <> input <> seen) ++ (10 ∷ effects) ≡ codes "event " <> number <> codes " " <> moment <> codes " " <> input <> seen <> codes "\n" <> effects
event_parts number moment input seen effects = simp append_assoc

text_entry : (n : ℕ) (e : Entry) → lines_text (entry_lines n e) ≡ entry_text n e
unfolding entry_lines entry_text line_text
text_entry n e =
    ap (λ (text : List ℕ). (codes "event " <> decimal n <> codes " " <> decimal e.moment <> codes " " <> input_text e.input <> seen_text e.seen) ++ 10 ∷ text) (text_effects e.effects)
    ∙ event_parts (decimal n) (decimal e.moment) (input_text e.input) (seen_text e.seen) (effects_text e.effects)

text_entries : (n : ℕ) (es : List Entry) → lines_text (entries_lines n es) ≡ entries_text n es
text_entries n [] = refl
text_entries n (e ∷ es) = joined (entry_lines n e) (entries_lines (n + 1) es) (entry_text n e) (entries_text (n + 1) es) (text_entry n e) (text_entries (n + 1) es)

order_entry_text : (clock n gener ctrl : ℕ) (rest : List ℕ) → (codes "log " <> decimal clock <> codes " " <> decimal n <> codes " order " <> decimal gener <> codes " " <> decimal ctrl) ++ 10 ∷ rest
    ≡ (codes "log " <> decimal clock <> codes " " <> decimal n <> codes " order " <> decimal gener <> codes " " <> decimal ctrl <> codes "\n") ++ rest
order_entry_text clock n gener ctrl rest = simp append_assoc

change_text : (clock n gener ctrl tick : ℕ) (step freq : ℤ) (rest : List ℕ)
    → (codes "log " <> decimal clock <> codes " " <> decimal n <> codes " change " <> decimal gener <> codes " " <> decimal ctrl <> codes " " <> decimal tick <> codes " " <> signed_decimal step <> codes " " <> signed_decimal freq) ++ 10 ∷ rest
    ≡ (codes "log " <> decimal clock <> codes " " <> decimal n <> codes " change " <> decimal gener <> codes " " <> decimal ctrl <> codes " " <> decimal tick <> codes " " <> signed_decimal step <> codes " " <> signed_decimal freq <> codes "\n") ++ rest
change_text clock n gener ctrl tick step freq rest = simp append_assoc

text_logged : (clock n : ℕ) (entries : List LogEntry) → lines_text (logged_lines clock n entries) ≡ log_entries_text clock n entries
unfolding line_text
text_logged clock n [] = refl
text_logged clock n (An_order gener ctrl ∷ entries) = ap (λ (text : List ℕ). line_text (Logged clock n (An_order gener ctrl)) ++ 10 ∷ text) (text_logged clock (n + 1) entries) ∙ order_entry_text clock n gener ctrl (log_entries_text clock (n + 1) entries)
text_logged clock n (A_change gener ctrl tick step freq ∷ entries) = ap (λ (text : List ℕ). line_text (Logged clock n (A_change gener ctrl tick step freq)) ++ 10 ∷ text) (text_logged clock (n + 1) entries) ∙ change_text clock n gener ctrl tick step freq (log_entries_text clock (n + 1) entries)

clock_text : (clock : ℕ) (time ppb : ℤ) (rest : List ℕ) → (codes "clock " <> decimal clock <> codes " " <> signed_decimal time <> codes " " <> signed_decimal ppb) ++ 10 ∷ rest ≡ codes "clock " <> decimal clock <> codes " " <> signed_decimal time <> codes " " <> signed_decimal ppb <> codes "\n" <> rest
clock_text clock time ppb rest = simp append_assoc

text_log : (log : Log) → lines_text (log_lines log) ≡ log_text log
unfolding log_lines log_text line_text
text_log log = ap (λ (text : List ℕ). line_text (Clock log.clock log.opening.time log.opening.drift) ++ 10 ∷ text) (text_logged log.clock 1 log.entries) ∙ clock_text log.clock log.opening.time (floor_of log.opening.drift (pos 65536)) (log_entries_text log.clock 1 log.entries)

text_logs : (logs : List Log) → lines_text (logs_lines logs) ≡ logs_text logs
text_logs [] = refl
text_logs (log ∷ logs) = joined (log_lines log) (logs_lines logs) (log_text log) (logs_text logs) (text_log log) (text_logs logs)

last_text : (n : ℕ) → lines_text (End n ∷ []) ≡ codes "end " <> decimal n <> codes "\n"
unfolding line_text
last_text n = simp append_assoc

pub lines_are_text : (r : Run) → lines_text (lines_of r) ≡ text_of r
unfolding lines_of line_text
lines_are_text r =
    ap (λ (text : List ℕ). codes "bc-transcript 1" ++ 10 ∷ text)
    (joined (entries_lines 1 r.entries) _ (entries_text 1 r.entries) _ (text_entries 1 r.entries)
    (joined (logs_lines r.logs) _ (logs_text r.logs) _ (text_logs r.logs) (last_text (length r.entries))))
