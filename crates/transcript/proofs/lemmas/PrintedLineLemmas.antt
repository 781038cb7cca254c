-- The lines of a transcript, of the pieces that are added one after another.
use Rattle.std.proofs.Common.{◌≡◌, ℕ, List, [], ◌∷◌, ◌++◌, sym, append_assoc, codes}
use Rattle.std.specs.Fmt.{decimal, signed_decimal}
use Rattle.std.proofs.lemmas.List.{append-nil}
use Rattle.hex.specs.Hex.{encode_lower}
use Rattle.transcript.specs.declared.line.Line.TheVariants.{Answer, Clock, Event}
use Rattle.transcript.specs.TranscriptLines.{line_text}
use Rattle.ptp_profile.specs.declared.roles.RoleOrder.{RoleOrder}
use Rattle.ptp_profile.specs.declared.seats.Log.{Log}
use Rattle.bc_history.specs.declared.entry.Entry.{Entry}
use Rattle.bc_history.specs.declared.entry.Sent.{Sent}
use Rattle.transcript.specs.PrintedLines.{order_text, frame_text, answer_text}
use Rattle.ptp_profile.specs.Port.PrintedNames.{◌<>◌}
use Rattle.bc_history.specs.Run.Transcript.{orders_text, frames_text, answers_text, answer_lines, indented, input_text, seen_text, effects_text, entry_text, drift_text, log_entries_text, log_text}

pub orders_text-more : (order : RoleOrder) (orders : List RoleOrder) → orders_text (order ∷ orders) ≡ order_text order ++ orders_text orders
unfolding order_text
orders_text-more order orders = sym (simp (append_assoc, append-nil))

pub frames_text-more : (sent : Sent) (frames : List Sent) → frames_text (sent ∷ frames) ≡ frame_text sent ++ frames_text frames
unfolding frame_text
frames_text-more sent frames = sym (simp (append_assoc, append-nil))

pub answers_text-more : (answer : List ℕ) (answers : List (List ℕ)) → answers_text (answer ∷ answers) ≡ answer_text answer ++ answers_text answers
unfolding answer_text
answers_text-more answer answers = sym (simp (append_assoc, append-nil))

entry_parts : (number moment input seen effects out line ended new : List ℕ)
    → line ≡ out ++ (codes "event " <> number <> codes " " <> moment <> codes " " <> input <> seen) → ended ≡ line ++ codes "\n" → new ≡ ended ++ effects
    → new ≡ out ++ (codes "event " <> number <> codes " " <> moment <> codes " " <> input <> seen <> codes "\n" <> effects)
entry_parts number moment input seen effects out line ended new line_is ended_is is = rw (is, ended_is, line_is) (simp append_assoc)

-- the line that begins an entry, and its effects
pub entry_lines : (n : ℕ) (e : Entry) (out line ended new : List ℕ) → line ≡ out ++ line_text (Event n e.moment e.input e.seen) → ended ≡ line ++ codes "\n" → new ≡ ended ++ effects_text e.effects
    → new ≡ out ++ entry_text n e
unfolding entry_text line_text
entry_lines n e out line ended new line_is ended_is is = entry_parts (decimal n) (decimal e.moment) (input_text e.input) (seen_text e.seen) (effects_text e.effects) out line ended new line_is ended_is is

log_parts : (clock time drift entries out line ended new : List ℕ)
    → line ≡ out ++ (codes "clock " <> clock <> codes " " <> time <> codes " " <> drift) → ended ≡ line ++ codes "\n" → new ≡ ended ++ entries
    → new ≡ out ++ (codes "clock " <> clock <> codes " " <> time <> codes " " <> drift <> codes "\n" <> entries)
log_parts clock time drift entries out line ended new line_is ended_is is = rw (is, ended_is, line_is) (simp append_assoc)

-- the line that begins a clock, and its log
pub log_lines : (log : Log) (out line ended new : List ℕ) → line ≡ out ++ line_text (Clock log.clock log.opening.time log.opening.drift) → ended ≡ line ++ codes "\n" → new ≡ ended ++ log_entries_text log.clock 1 log.entries
    → new ≡ out ++ log_text log
unfolding log_text line_text
log_lines log out line ended new line_is ended_is is = log_parts (decimal log.clock) (signed_decimal log.opening.time) (drift_text log.opening) (log_entries_text log.clock 1 log.entries) out line ended new line_is ended_is is

answer_parts : (hex printed out line ended new : List ℕ) → line ≡ out ++ (codes "  answer " <> hex) → ended ≡ line ++ codes "\n" → new ≡ ended ++ printed
    → new ≡ out ++ (codes "  answer " <> hex <> codes "\n" <> printed <> [])
answer_parts hex printed out line ended new line_is ended_is is = rw (is, ended_is, line_is) (simp (append_assoc, append-nil))

-- the line of an answer, and those that print it
pub answer_lines-are : (answer out line ended new : List ℕ) → line ≡ out ++ line_text (Answer answer) → ended ≡ line ++ codes "\n" → new ≡ ended ++ indented (answer_lines answer)
    → new ≡ out ++ answer_text answer
unfolding answer_text line_text
answer_lines-are answer out line ended new line_is ended_is is = answer_parts (encode_lower answer) (indented (answer_lines answer)) out line ended new line_is ended_is is
