-- Lines that a reader takes begin the lines of a run that its text shows whole: what was read, with
-- the lines that have to stand behind it.
use Rattle.std.proofs.Common.{rules, ◌≡◌, ℕ, suc, ◌+◌, ◌<◌, ◌^◌, zero, ℤ, pos, true, refl, sym, ap, ◌∙◌, arith, List, [], ◌∷◌, ◌++◌, length, length-append, map, Option, Some, None, append_assoc, subst}
use Rattle.std.specs.Prelude.{All, AllPairs, ◌==◌, ◌&&◌, slice_index_or}
use Rattle.std.specs.Str.{bytes_eq}
use Rattle.std.proofs.lemmas.Bool.{ltb-true}
use Rattle.std.proofs.lemmas.Bool.Decides.{Decides-eqb}
use Rattle.std.proofs.lemmas.List.{append-nil}
use Rattle.std.proofs.lemmas.List.Elements.{All-nil, All-push}
use Rattle.std.proofs.lemmas.List.Quantifiers.{all_pairs_push}
use Rattle.std.proofs.lemmas.Slice.Eq.{bytes_eq-Decides}
use Rattle.ptp_profile.specs.declared.seats.Log.{Log}
use Rattle.ptp_profile.specs.declared.seats.LogEntry.{LogEntry}
use Rattle.bc_history.specs.declared.entry.Effects.{Effects}
use Rattle.bc_history.specs.declared.entry.Entry.{Entry}
use Rattle.bc_history.specs.declared.entry.Run.{Run}
use Rattle.bc_history.specs.Run.FormedRuns.{IsFormedEntry, IsFormedOpening, IsFormedRun, AreFormedMoves}
use Rattle.transcript.specs.declared.line.Line.{Line}
use Rattle.transcript.specs.declared.line.Line.TheVariants.{Head, Event, Fate, State, Parent, Order, Measure, Sent, Told, Asked, Answer, Printed, Clock, Logged, End}
use Rattle.transcript.specs.declared.progress.Progress.{Progress}
use Rattle.transcript.specs.declared.progress.Progress.TheVariants.{Start, Opened, InEntry, InLog, Ended}
use Rattle.transcript.specs.NextLines.{next, so_far, with_head, with_event, with_clock, with_logged, with_end, with_printed, with_effect, with_effect_line, affected, shown_behind, is_above, is_empty, bare_entry, bare_log, no_effects}
use Rattle.transcript.specs.RunLines.{effects_lines, entry_lines, entries_lines, logged_lines, log_lines, logs_lines, lines_of}
use Rattle.transcript.specs.TranscriptFaults.{IsBegun}
use Rattle.transcript.specs.TranscriptLines.{IsFormedLine}
use Rattle.transcript.specs.TypedLines.{IsTypedLine, IsTypedLogEntry, IsWithinSigned}
use Rattle.transcript.specs.TypedRuns.{IsTypedEntry, IsTypedLog, IsTypedRun}
use Rattle.transcript.proofs.lemmas.EffectStepLemmas.{chosen, both, empty_is, IsEffectStep, effect_step}
use Rattle.transcript.proofs.lemmas.ListEndLemmas.{All-unpush, pairs_front, pairs_last}
use Rattle.transcript.proofs.lemmas.RunLineLemmas.{entries_lines-push, logged_lines-push, logs_lines-push}

-- ---- what was read

-- the run so far, with what has begun
abbrev pub held : Progress → Run
held Start = record { entries = []; logs = [] }
held Opened = record { entries = []; logs = [] }
held (InEntry entries e shown) = record { entries = entries ++ e ∷ []; logs = [] }
held (InLog entries logs log) = record { entries = entries; logs = logs ++ log ∷ [] }
held (Ended entries logs) = record { entries = entries; logs = logs }

-- the lines that have to stand next
abbrev pub missing : Progress → List Line
missing Start = []
missing Opened = []
missing (InEntry entries e shown) = map Printed shown
missing (InLog entries logs log) = []
missing (Ended entries logs) = []

-- the lines of a run up to its last one
abbrev pub body : Run → List Line
body r = Head ∷ (entries_lines 1 r.entries ++ logs_lines r.logs)

-- the lines that what was read stands for
abbrev pub standing : Progress → List Line
standing Start = []
standing Opened = body (held Opened)
standing (InEntry entries e shown) = body (held (InEntry entries e shown))
standing (InLog entries logs log) = body (held (InLog entries logs log))
standing (Ended entries logs) = body (held (Ended entries logs)) ++ End (length entries) ∷ []

pub record IsReached (lines : List Line) (p : Progress) : Type 0 where
  pub whole : lines ++ missing p ≡ standing p
  pub formed : IsFormedRun (held p)
  pub typed : IsTypedRun (held p)

-- a run so far: its lines are those before
pub record IsSoFar (lines : List Line) (r : Run) : Type 0 where
  pub whole : lines ≡ body r
  pub formed : IsFormedRun r
  pub typed : IsTypedRun r

empty_formed : IsFormedRun (record { entries = []; logs = [] })
empty_formed = record {
  entries = All-nil IsFormedEntry;
  rising = λ i j d lt below. absurd (omega (arith, below));
  openings = All-nil (λ (log : Log). IsFormedOpening log.opening);
}

empty_typed : IsTypedRun (record { entries = []; logs = [] })
empty_typed = record { entries = All-nil IsTypedEntry; logs = All-nil IsTypedLog; count = omega arith }

pub reached_start : IsReached [] Start
reached_start = record { whole = refl; formed = empty_formed; typed = empty_typed }

-- where nothing has to go on, the lines before are those of the run so far
so_far_is : (lines : List Line) (p : Progress) (r : Run) → IsReached lines p → so_far p ≡ Some r → IsSoFar lines r
so_far_is lines Start r at h = absurd (cc)
so_far_is lines Opened r at h =
    let same : held Opened ≡ r = cc in
    subst (λ (run : Run). IsSoFar lines run) same (record { whole = sym (append-nil lines) ∙ at.whole; formed = at.formed; typed = at.typed })
so_far_is lines (InEntry entries e []) r at h =
    let same : held (InEntry entries e []) ≡ r = cc in
    subst (λ (run : Run). IsSoFar lines run) same (record { whole = sym (append-nil lines) ∙ at.whole; formed = at.formed; typed = at.typed })
so_far_is lines (InEntry entries e (text ∷ shown)) r at h = absurd (cc)
so_far_is lines (InLog entries logs log) r at h =
    let same : held (InLog entries logs log) ≡ r = cc in
    subst (λ (run : Run). IsSoFar lines run) same (record { whole = sym (append-nil lines) ∙ at.whole; formed = at.formed; typed = at.typed })
so_far_is lines (Ended entries logs) r at h = absurd (cc)

-- ---- a line more

step_is : (lines : List Line) (x : Line) (p q : Progress) → p ≡ q → IsReached (lines ++ x ∷ []) p → IsReached (lines ++ x ∷ []) q
step_is lines x p q e at = subst (λ (k : Progress). IsReached (lines ++ x ∷ []) k) e at

step_head : (lines : List Line) (p q : Progress) → IsReached lines p → with_head p ≡ Some q → IsReached (lines ++ Head ∷ []) q
step_head lines Start q at h =
    let same : Opened ≡ q = cc in
    let none : lines ≡ [] = sym (append-nil lines) ∙ at.whole in
    step_is lines Head Opened q same (record { whole = rw none refl; formed = empty_formed; typed = empty_typed })
step_head lines Opened q at h = absurd (cc)
step_head lines (InEntry entries e shown) q at h = absurd (cc)
step_head lines (InLog entries logs log) q at h = absurd (cc)
step_head lines (Ended entries logs) q at h = absurd (cc)

eqb_is : (a b : ℕ) → (a == b) ≡ true → a ≡ b
eqb_is a b h = (Decides-eqb a b).0 h

-- an entry that begins
begun_lines : (es : List Entry) (e : Entry) (number : ℕ) → number ≡ length es + 1 → e.effects ≡ no_effects
    → (Head ∷ (entries_lines 1 es ++ [])) ++ Event number e.moment e.input e.seen ∷ [] ≡ Head ∷ (entries_lines 1 (es ++ e ∷ []) ++ [])
unfolding entry_lines effects_lines
begun_lines es e number is bare =
    let count : 1 + length es ≡ number = omega arith in
    ap (λ (ls : List Line). Head ∷ ls)
    (ap (λ (ls : List Line). ls ++ Event number e.moment e.input e.seen ∷ []) (append-nil (entries_lines 1 es))
    ∙ sym (append-nil (entries_lines 1 (es ++ e ∷ [])) ∙ entries_lines-push 1 es e
    ∙ ap (λ (n : ℕ). entries_lines 1 es ++ entry_lines n e) count
    ∙ ap (λ (f : Effects). entries_lines 1 es ++ (Event number e.moment e.input e.seen ∷ effects_lines f)) bare))

no_moves : AreFormedMoves []
no_moves = record { rising = λ i j d lt below. absurd (omega (arith, below)); twice = λ port. omega arith }

step_event : (lines : List Line) (so : Option Run) (number moment : ℕ) (input : _) (seen : _) (q : Progress) → ((r : Run) → so ≡ Some r → IsSoFar lines r)
    → IsFormedLine (Event number moment input seen) → IsTypedLine (Event number moment input seen)
    → with_event so number (bare_entry moment input seen) ≡ Some q → IsReached (lines ++ Event number moment input seen ∷ []) q
step_event lines None number moment input seen q before formed within h = absurd (cc)
step_event lines (Some r) number moment input seen q before formed within h =
    let e = bare_entry moment input seen in
    let parts = chosen (is_empty r.logs && (number == length r.entries + 1)) (InEntry r.entries e []) q h in
    let tests = both (is_empty r.logs) (number == length r.entries + 1) parts.0 in
    let no_logs = empty_is r.logs tests.0 in
    let count = eqb_is number (length r.entries + 1) tests.1 in
    let so_far = before r refl in
    step_is lines (Event number moment input seen) (InEntry r.entries e []) q parts.1 (record {
      whole = append-nil (lines ++ Event number moment input seen ∷ [])
          ∙ ap (λ (ls : List Line). ls ++ Event number moment input seen ∷ []) (so_far.whole ∙ ap (λ (logs : List Log). Head ∷ (entries_lines 1 r.entries ++ logs_lines logs)) no_logs)
          ∙ begun_lines r.entries e number count refl;
      formed = record {
        entries = All-push IsFormedEntry r.entries e so_far.formed.entries (record {
          input = formed.0;
          read = formed.1;
          effects = record { states = no_moves; measure = tt; frames = All-nil _; answers = All-nil _ };
        });
        rising = λ i j d lt below. absurd (omega (arith, below));
        openings = All-nil (λ (log : Log). IsFormedOpening log.opening);
      };
      typed = record {
        entries = All-push IsTypedEntry r.entries e so_far.typed.entries (record {
          moment = within.1;
          input = within.2;
          seen = within.3;
          effects = record { states = All-nil _; parent = tt; orders = All-nil _; measure = tt; frames = All-nil _; told = tt; answers = All-nil _ };
        });
        logs = All-nil IsTypedLog;
        count = let long = length-append r.entries (e ∷ []) in let below : number < 2 ^ 64 = within.0 in omega (arith, long);
      };
    })

above_all : (logs : List Log) (clock : ℕ) → AllPairs (λ (former later : Log). former.clock < later.clock) logs → is_above logs clock ≡ true → (k : ℕ) (d : Log) → k < length logs → (slice_index_or logs k d).clock < clock
above_all [] clock rising above k d below = absurd (omega (arith, below))
above_all (a ∷ []) clock rising above zero d below = ltb-true a.clock clock above
above_all (a ∷ []) clock rising above (suc k) d below = absurd (omega (arith, below))
above_all (a ∷ b ∷ logs) clock rising above zero d below =
    let next : b.clock < clock = above_all (b ∷ logs) clock (λ i j d lt low. rising (suc i) (suc j) d (omega arith) (omega arith)) above 0 d (omega arith) in
    let first : a.clock < b.clock = rising 0 1 d (omega arith) (omega arith) in
    omega arith
above_all (a ∷ b ∷ logs) clock rising above (suc k) d below =
    above_all (b ∷ logs) clock (λ i j d lt low. rising (suc i) (suc j) d (omega arith) (omega arith)) above k d (omega arith)

-- a log that begins
opened_lines : (r : Run) (log : Log) → log.entries ≡ []
    → body r ++ Clock log.clock log.opening.time log.opening.drift ∷ [] ≡ Head ∷ (entries_lines 1 r.entries ++ logs_lines (r.logs ++ log ∷ []))
unfolding log_lines
opened_lines r log none =
    ap (λ (ls : List Line). Head ∷ ls) (append_assoc (entries_lines 1 r.entries) (logs_lines r.logs) (Clock log.clock log.opening.time log.opening.drift ∷ [])
    ∙ ap (λ (ls : List Line). entries_lines 1 r.entries ++ ls)
    (sym (logs_lines-push r.logs log ∙ ap (λ (xs : List LogEntry). logs_lines r.logs ++ (Clock log.clock log.opening.time log.opening.drift ∷ logged_lines log.clock 1 xs)) none)))

zero_fits : IsWithinSigned 63 (pos 0)
zero_fits = search rules

step_clock : (lines : List Line) (so : Option Run) (clock : ℕ) (time drift : ℤ) (q : Progress) → ((r : Run) → so ≡ Some r → IsSoFar lines r)
    → IsFormedLine (Clock clock time drift) → IsTypedLine (Clock clock time drift)
    → with_clock so (bare_log clock time drift) ≡ Some q → IsReached (lines ++ Clock clock time drift ∷ []) q
step_clock lines None clock time drift q before formed within h = absurd (cc)
step_clock lines (Some r) clock time drift q before formed within h =
    let log = bare_log clock time drift in
    let parts = chosen (is_above r.logs clock) (InLog r.entries r.logs log) q h in
    let so_far = before r refl in
    step_is lines (Clock clock time drift) (InLog r.entries r.logs log) q parts.1 (record {
      whole = append-nil (lines ++ Clock clock time drift ∷ []) ∙ ap (λ (ls : List Line). ls ++ Clock clock time drift ∷ []) so_far.whole ∙ opened_lines r log refl;
      formed = record {
        entries = so_far.formed.entries;
        rising = all_pairs_push (λ (former later : Log). former.clock < later.clock) r.logs log so_far.formed.rising (above_all r.logs clock so_far.formed.rising parts.0);
        openings = All-push (λ (log : Log). IsFormedOpening log.opening) r.logs log so_far.formed.openings (record { tick = refl; freq = refl; drift = formed });
      };
      typed = record {
        entries = so_far.typed.entries;
        logs = All-push IsTypedLog r.logs log so_far.typed.logs (record {
          clock = within.0;
          opening = record { tick = omega arith; time = within.1; freq = zero_fits; drift = within.2 };
          entries = All-nil IsTypedLogEntry;
          count = omega arith;
        });
        count = so_far.typed.count;
      };
    })

-- an entry of a log
logged_more : (front : List Line) (logs : List Log) (log : Log) (entry : LogEntry)
    → (front ++ logs_lines (logs ++ log ∷ [])) ++ Logged log.clock (1 + length log.entries) entry ∷ [] ≡ front ++ logs_lines (logs ++ record log { entries = log.entries ++ entry ∷ [] } ∷ [])
unfolding log_lines
logged_more front logs log entry =
    let x = Logged log.clock (1 + length log.entries) entry in
    let c = Clock log.clock log.opening.time log.opening.drift in
    append_assoc front (logs_lines (logs ++ log ∷ [])) (x ∷ [])
    ∙ ap (λ (ls : List Line). front ++ ls)
    (ap (λ (ls : List Line). ls ++ x ∷ []) (logs_lines-push logs log)
    ∙ append_assoc (logs_lines logs) (c ∷ logged_lines log.clock 1 log.entries) (x ∷ [])
    ∙ ap (λ (ls : List Line). logs_lines logs ++ (c ∷ ls)) (sym (logged_lines-push log.clock 1 log.entries entry))
    ∙ sym (logs_lines-push logs (record log { entries = log.entries ++ entry ∷ [] })))

-- parts of a list with one more
log_openings : (logs : List Log) (log : Log) → All (λ (log : Log). IsFormedOpening log.opening) (logs ++ log ∷ []) → All (λ (log : Log). IsFormedOpening log.opening) logs × IsFormedOpening log.opening
log_openings logs log all = All-unpush (λ (log : Log). IsFormedOpening log.opening) logs log all

log_parts : (logs : List Log) (log : Log) → All IsTypedLog (logs ++ log ∷ []) → All IsTypedLog logs × IsTypedLog log
log_parts logs log all = All-unpush IsTypedLog logs log all

entry_parts : (es : List Entry) (e : Entry) → All IsFormedEntry (es ++ e ∷ []) → All IsFormedEntry es × IsFormedEntry e
entry_parts es e all = All-unpush IsFormedEntry es e all

typed_parts : (es : List Entry) (e : Entry) → All IsTypedEntry (es ++ e ∷ []) → All IsTypedEntry es × IsTypedEntry e
typed_parts es e all = All-unpush IsTypedEntry es e all

-- a log whose entries grow keeps its clock
rising_same : (logs : List Log) (log longer : Log) → longer.clock ≡ log.clock → AllPairs (λ (former later : Log). former.clock < later.clock) (logs ++ log ∷ []) → AllPairs (λ (former later : Log). former.clock < later.clock) (logs ++ longer ∷ [])
rising_same logs log longer same rising =
    let R : Log → Log → Type 0 = λ former later. former.clock < later.clock in
    all_pairs_push R logs longer (pairs_front R logs log rising) (λ k d below. subst (λ (c : ℕ). (slice_index_or logs k d).clock < c) (sym same) (pairs_last R logs log rising k d below))

-- the lines of a run are those before its last one, and that
body_end : (r : Run) → lines_of r ≡ body r ++ End (length r.entries) ∷ []
unfolding lines_of
body_end r = ap (λ (ls : List Line). Head ∷ ls) (sym (append_assoc (entries_lines 1 r.entries) (logs_lines r.logs) (End (length r.entries) ∷ [])))

begun_by : (lines : List Line) (r : Run) (more : List Line) → lines ++ more ≡ body r → IsFormedRun r → IsTypedRun r → IsBegun lines
begun_by lines r more whole formed typed = record {
  run = r;
  formed = formed;
  typed = typed;
  more = more ++ End (length r.entries) ∷ [];
  begins = body_end r ∙ ap (λ (ls : List Line). ls ++ End (length r.entries) ∷ []) (sym whole) ∙ append_assoc lines more (End (length r.entries) ∷ []);
}

step_logged : (lines : List Line) (p : Progress) (clock number : ℕ) (entry : LogEntry) (q : Progress) → IsReached lines p → IsTypedLine (Logged clock number entry)
    → with_logged p clock number entry ≡ Some q → IsReached (lines ++ Logged clock number entry ∷ []) q
step_logged lines Start clock number entry q at within h = absurd (cc)
step_logged lines Opened clock number entry q at within h = absurd (cc)
step_logged lines (InEntry entries e shown) clock number entry q at within h = absurd (cc)
step_logged lines (InLog entries logs log) clock number entry q at within h =
    let longer : Log = record log { entries = log.entries ++ entry ∷ [] } in
    let parts = chosen ((clock == log.clock) && (number == length log.entries + 1)) (InLog entries logs longer) q h in
    let tests = both (clock == log.clock) (number == length log.entries + 1) parts.0 in
    let same_clock = eqb_is clock log.clock tests.0 in
    let count = eqb_is number (length log.entries + 1) tests.1 in
    let one_number : number ≡ 1 + length log.entries = omega arith in
    let front : List Line = Head ∷ entries_lines 1 entries in
    let was = log_parts logs log at.typed.logs in
    step_is lines (Logged clock number entry) (InLog entries logs longer) q parts.1 (record {
      whole = append-nil (lines ++ Logged clock number entry ∷ [])
          ∙ ap (λ (ls : List Line). ls ++ Logged clock number entry ∷ []) (sym (append-nil lines) ∙ at.whole)
          ∙ ap (λ (c : ℕ). (front ++ logs_lines (logs ++ log ∷ [])) ++ Logged c number entry ∷ []) same_clock
          ∙ ap (λ (n : ℕ). (front ++ logs_lines (logs ++ log ∷ [])) ++ Logged log.clock n entry ∷ []) one_number
          ∙ logged_more front logs log entry;
      formed = record {
        entries = at.formed.entries;
        rising = rising_same logs log longer refl at.formed.rising;
        openings = All-push (λ (log : Log). IsFormedOpening log.opening) logs longer (log_openings logs log at.formed.openings).0 (log_openings logs log at.formed.openings).1;
      };
      typed = record {
        entries = at.typed.entries;
        logs = All-push IsTypedLog logs longer was.0 (record {
          clock = was.1.clock;
          opening = was.1.opening;
          entries = All-push IsTypedLogEntry log.entries entry was.1.entries within.2;
          count = let long = length-append log.entries (entry ∷ []) in let below : number < 2 ^ 64 = within.1 in omega (arith, long);
        });
        count = at.typed.count;
      };
    })
step_logged lines (Ended entries logs) clock number entry q at within h = absurd (cc)

step_end : (lines : List Line) (so : Option Run) (number : ℕ) (q : Progress) → ((r : Run) → so ≡ Some r → IsSoFar lines r) → with_end so number ≡ Some q → IsReached (lines ++ End number ∷ []) q
step_end lines None number q before h = absurd (cc)
step_end lines (Some r) number q before h =
    let parts = chosen (number == length r.entries) (Ended r.entries r.logs) q h in
    let count = eqb_is number (length r.entries) parts.0 in
    let so_far = before r refl in
    step_is lines (End number) (Ended r.entries r.logs) q parts.1 (record {
      whole = append-nil (lines ++ End number ∷ []) ∙ ap (λ (ls : List Line). ls ++ End number ∷ []) so_far.whole ∙ ap (λ (n : ℕ). body r ++ End n ∷ []) count;
      formed = so_far.formed;
      typed = so_far.typed;
    })

step_printed : (lines : List Line) (p : Progress) (text : List ℕ) (q : Progress) → IsReached lines p → with_printed p text ≡ Some q → IsReached (lines ++ Printed text ∷ []) q
step_printed lines Start text q at h = absurd (cc)
step_printed lines Opened text q at h = absurd (cc)
step_printed lines (InEntry entries e []) text q at h = absurd (cc)
step_printed lines (InEntry entries e (line ∷ shown)) text q at h =
    let parts = chosen (bytes_eq line text) (InEntry entries e shown) q h in
    let same : line ≡ text = (bytes_eq-Decides line text).0 parts.0 in
    step_is lines (Printed text) (InEntry entries e shown) q parts.1 (record {
      whole = append_assoc lines (Printed text ∷ []) (map Printed shown) ∙ ap (λ (t : List ℕ). lines ++ (Printed t ∷ map Printed shown)) (sym same) ∙ at.whole;
      formed = at.formed;
      typed = at.typed;
    })
step_printed lines (InLog entries logs log) text q at h = absurd (cc)
step_printed lines (Ended entries logs) text q at h = absurd (cc)

-- the lines of the last entry, whose effects have more lines
effect_lines_more : (es : List Entry) (e : Entry) (g : Effects) (more : List Line) → effects_lines e.effects ++ more ≡ effects_lines g
    → (Head ∷ (entries_lines 1 (es ++ e ∷ []) ++ [])) ++ more ≡ Head ∷ (entries_lines 1 (es ++ record e { effects = g } ∷ []) ++ [])
unfolding entry_lines
effect_lines_more es e g more grown =
    let first = Event (1 + length es) e.moment e.input e.seen in
    ap (λ (ls : List Line). Head ∷ ls)
    (ap (λ (ls : List Line). ls ++ more) (append-nil (entries_lines 1 (es ++ e ∷ [])) ∙ entries_lines-push 1 es e)
    ∙ append_assoc (entries_lines 1 es) (first ∷ effects_lines e.effects) more
    ∙ ap (λ (ls : List Line). entries_lines 1 es ++ (first ∷ ls)) grown
    ∙ sym (append-nil (entries_lines 1 (es ++ record e { effects = g } ∷ [])) ∙ entries_lines-push 1 es (record e { effects = g })))

affected_by : (lines : List Line) (entries : List Entry) (e : Entry) (x : Line) (g : Effects) → IsReached lines (InEntry entries e []) → IsEffectStep e.input e.effects x g
    → IsReached (lines ++ x ∷ []) (InEntry entries (record e { effects = g }) (shown_behind x))
affected_by lines entries e x g at step =
    let was = entry_parts entries e at.formed.entries in
    let kept = typed_parts entries e at.typed.entries in
    record {
      whole = append_assoc lines (x ∷ []) (map Printed (shown_behind x))
          ∙ ap (λ (ls : List Line). ls ++ (x ∷ map Printed (shown_behind x))) (sym (append-nil lines) ∙ at.whole)
          ∙ effect_lines_more entries e g (x ∷ map Printed (shown_behind x)) step.lines;
      formed = record {
        entries = All-push IsFormedEntry entries (record e { effects = g }) was.0 (record { input = was.1.input; read = was.1.read; effects = step.formed was.1.effects });
        rising = at.formed.rising;
        openings = at.formed.openings;
      };
      typed = record {
        entries = All-push IsTypedEntry entries (record e { effects = g }) kept.0 (record { moment = kept.1.moment; input = kept.1.input; seen = kept.1.seen; effects = step.typed kept.1.effects });
        logs = at.typed.logs;
        count = let one = length-append entries (e ∷ []) in let other = length-append entries (record e { effects = g } ∷ []) in let below : length (entries ++ e ∷ []) < 2 ^ 64 = at.typed.count in omega (arith, one, other);
      };
    }

step_affected : (lines : List Line) (entries : List Entry) (e : Entry) (x : Line) (q : Progress) (g : Option Effects) → ((f : Effects) → g ≡ Some f → IsEffectStep e.input e.effects x f) → IsReached lines (InEntry entries e [])
    → affected entries e (shown_behind x) g ≡ Some q → IsReached (lines ++ x ∷ []) q
step_affected lines entries e x q None steps at h = absurd (cc)
step_affected lines entries e x q (Some f) steps at h =
    let same : InEntry entries (record e { effects = f }) (shown_behind x) ≡ q = cc in
    step_is lines x (InEntry entries (record e { effects = f }) (shown_behind x)) q same (affected_by lines entries e x f at (steps f refl))

step_effect : (lines : List Line) (p : Progress) (x : Line) (q : Progress) → IsReached lines p → IsFormedLine x → IsTypedLine x → with_effect_line p x ≡ Some q → IsReached (lines ++ x ∷ []) q
step_effect lines Start x q at formed within h = absurd (cc)
step_effect lines Opened x q at formed within h = absurd (cc)
step_effect lines (InEntry entries e []) x q at formed within h =
    step_affected lines entries e x q (with_effect e.input e.effects x) (λ f is. effect_step e.input e.effects f x formed within is) at h
step_effect lines (InEntry entries e (text ∷ shown)) x q at formed within h = absurd (cc)
step_effect lines (InLog entries logs log) x q at formed within h = absurd (cc)
step_effect lines (Ended entries logs) x q at formed within h = absurd (cc)

-- a line that may stand there
pub step : (lines : List Line) (p q : Progress) (x : Line) → IsReached lines p → IsFormedLine x → IsTypedLine x → next p x ≡ Some q → IsReached (lines ++ x ∷ []) q
step lines p q Head at formed within h = step_head lines p q at h
step lines p q (Event number moment input seen) at formed within h =
    step_event lines (so_far p) number moment input seen q (λ r is. so_far_is lines p r at is) formed within h
step lines p q (Clock clock time drift) at formed within h = step_clock lines (so_far p) clock time drift q (λ r is. so_far_is lines p r at is) formed within h
step lines p q (Logged clock number entry) at formed within h = step_logged lines p clock number entry q at within h
step lines p q (End number) at formed within h = step_end lines (so_far p) number q (λ r is. so_far_is lines p r at is) h
step lines p q (Printed text) at formed within h = step_printed lines p text q at h
step lines p q (Fate fate) at formed within h = step_effect lines p (Fate fate) q at formed within h
step lines p q (State m) at formed within h = step_effect lines p (State m) q at formed within h
step lines p q (Parent parent) at formed within h = step_effect lines p (Parent parent) q at formed within h
step lines p q (Order order) at formed within h = step_effect lines p (Order order) q at formed within h
step lines p q (Measure measure gener clock) at formed within h = step_effect lines p (Measure measure gener clock) q at formed within h
step lines p q (Sent sent) at formed within h = step_effect lines p (Sent sent) q at formed within h
step lines p q (Told told) at formed within h = step_effect lines p (Told told) q at formed within h
step lines p q (Asked error) at formed within h = step_effect lines p (Asked error) q at formed within h
step lines p q (Answer answer) at formed within h = step_effect lines p (Answer answer) q at formed within h

-- ---- a run

-- what was read, with what has to stand behind it and the last line, is a run
pub begun : (lines : List Line) (p : Progress) → IsReached lines p → IsBegun lines
unfolding lines_of
begun lines Start at = record {
  run = held Start;
  formed = at.formed;
  typed = at.typed;
  more = lines_of (held Start);
  begins = ap (λ (ls : List Line). ls ++ lines_of (held Start)) (sym (sym (append-nil lines) ∙ at.whole));
}
begun lines Opened at = begun_by lines (held Opened) (missing Opened) at.whole at.formed at.typed
begun lines (InEntry entries e shown) at = begun_by lines (held (InEntry entries e shown)) (map Printed shown) at.whole at.formed at.typed
begun lines (InLog entries logs log) at = begun_by lines (held (InLog entries logs log)) [] at.whole at.formed at.typed
begun lines (Ended entries logs) at = record {
  run = record { entries = entries; logs = logs };
  formed = at.formed;
  typed = at.typed;
  more = [];
  begins = body_end (record { entries = entries; logs = logs }) ∙ sym at.whole;
}

-- behind the last line the lines are the run's
pub ended : (lines : List Line) (entries : List Entry) (logs : List Log) → IsReached lines (Ended entries logs) → lines ≡ lines_of (record { entries = entries; logs = logs })
ended lines entries logs at = sym (append-nil lines) ∙ at.whole ∙ sym (body_end (record { entries = entries; logs = logs }))
