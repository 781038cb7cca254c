-- The lines of lists that grow at their end.
use Rattle.std.proofs.Common.{◌≡◌, ℕ, suc, ◌+◌, List, [], ◌∷◌, ◌++◌, length, map, refl, sym, ap, ◌∙◌, arith, append_assoc}
use Rattle.std.proofs.lemmas.List.{append-nil}
use Rattle.ptp_profile.specs.declared.seats.Log.{Log}
use Rattle.ptp_profile.specs.declared.seats.LogEntry.{LogEntry}
use Rattle.bc_history.specs.declared.entry.Entry.{Entry}
use Rattle.bc_history.specs.Run.Transcript.{answer_lines}
use Rattle.transcript.specs.declared.line.Line.{Line}
use Rattle.transcript.specs.declared.line.Line.TheVariants.{Answer, Printed, Logged}
use Rattle.transcript.specs.RunLines.{answers_lines, entry_lines, entries_lines, logged_lines, log_lines, logs_lines}

-- entries with one more
pub entries_lines-push : (n : ℕ) (es : List Entry) (e : Entry) → entries_lines n (es ++ e ∷ []) ≡ entries_lines n es ++ entry_lines (n + length es) e
entries_lines-push n [] e =
    let zero : n + 0 ≡ n = omega arith in
    rw zero (append-nil (entry_lines n e))
entries_lines-push n (x ∷ es) e =
    let same : n + suc (length es) ≡ n + 1 + length es = omega arith in
    rw (entries_lines-push (n + 1) es e, same) (sym (append_assoc (entry_lines n x) (entries_lines (n + 1) es) (entry_lines (n + 1 + length es) e)))

-- entries of a log with one more
pub logged_lines-push : (clock n : ℕ) (xs : List LogEntry) (x : LogEntry) → logged_lines clock n (xs ++ x ∷ []) ≡ logged_lines clock n xs ++ Logged clock (n + length xs) x ∷ []
logged_lines-push clock n [] x =
    let zero : n + 0 ≡ n = omega arith in
    rw zero refl
logged_lines-push clock n (y ∷ xs) x =
    let same : n + suc (length xs) ≡ n + 1 + length xs = omega arith in
    rw (logged_lines-push clock (n + 1) xs x, same) refl

-- logs with one more
pub logs_lines-push : (logs : List Log) (log : Log) → logs_lines (logs ++ log ∷ []) ≡ logs_lines logs ++ log_lines log
logs_lines-push [] log = append-nil (log_lines log)
logs_lines-push (x ∷ logs) log = rw (logs_lines-push logs log) (sym (append_assoc (log_lines x) (logs_lines logs) (log_lines log)))

-- answers with one more
pub answers_lines-push : (answers : List (List ℕ)) (answer : List ℕ)
    → answers_lines (answers ++ answer ∷ []) ≡ answers_lines answers ++ (Answer answer ∷ map Printed (answer_lines answer))
answers_lines-push [] answer = ap (λ (ls : List Line). Answer answer ∷ ls) (append-nil (map Printed (answer_lines answer)))
answers_lines-push (x ∷ answers) answer =
    ap (λ (ls : List Line). Answer x ∷ ls) (ap (λ (ls : List Line). map Printed (answer_lines x) ++ ls) (answers_lines-push answers answer)
    ∙ sym (append_assoc (map Printed (answer_lines x)) (answers_lines answers) (Answer answer ∷ map Printed (answer_lines answer))))
