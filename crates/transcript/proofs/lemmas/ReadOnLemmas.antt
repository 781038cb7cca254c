-- A reader takes all lines of a run that its text shows whole, and has that run behind them.
use Rattle.std.proofs.Common.{◌≡◌, ℕ, suc, ◌+◌, ◌<◌, ℤ, pos, Bool, true, cond, refl, sym, ap, ◌∙◌, arith, List, [], ◌∷◌, ◌++◌, length, length-append, map, Option, Some, None, append_assoc, eq-eqb, subst}
use Rattle.std.specs.Prelude.{All, AllPairs, nat_lt, ◌==◌, ◌&&◌}
use Rattle.std.specs.Str.{bytes_eq}
use Rattle.std.proofs.lemmas.Bool.{lt-ltb, and_from}
use Rattle.std.proofs.lemmas.List.{append-nil}
use Rattle.std.proofs.lemmas.List.Elements.{All-head, All-tail}
use Rattle.std.proofs.lemmas.Slice.Eq.{bytes_eq-Decides}
use Rattle.ptp_base.specs.declared.identity.PortId.{PortId}
use Rattle.model_clock.specs.declared.state.ClockState.{ClockState}
use Rattle.ptp_profile.specs.declared.port_event.Fate.{Fate as A_fate}
use Rattle.ptp_profile.specs.declared.timing.Measure.{Measure as A_measure}
use Rattle.ptp_profile.specs.declared.roles.RoleOrder.{RoleOrder}
use Rattle.ptp_profile.specs.declared.seats.Held.{Held}
use Rattle.ptp_profile.specs.declared.seats.Log.{Log}
use Rattle.ptp_profile.specs.declared.seats.LogEntry.{LogEntry}
use Rattle.ptp_management.specs.declared.query.AskError.{AskError}
use Rattle.bc_history.specs.declared.entry.Input.{Input}
use Rattle.bc_history.specs.declared.entry.Seen.{Seen}
use Rattle.bc_history.specs.declared.entry.Moved.{Moved}
use Rattle.bc_history.specs.declared.entry.Sent.{Sent as A_frame}
use Rattle.bc_history.specs.declared.entry.Told.{Told as A_told}
use Rattle.bc_history.specs.declared.entry.Effects.{Effects}
use Rattle.bc_history.specs.declared.entry.Entry.{Entry}
use Rattle.bc_history.specs.declared.entry.Run.{Run}
use Rattle.bc_history.specs.Phases.Inputs.{port_of}
use Rattle.bc_history.specs.Run.FormedRuns.{AreFormedMoves, IsFormedMeasure, AreFormedEffects, IsFormedEntry, IsFormedOpening, IsFormedRun}
use Rattle.bc_history.specs.Run.Transcript.{answer_lines}
use Rattle.transcript.specs.declared.line.Line.{Line}
use Rattle.transcript.specs.declared.line.Line.TheVariants.{Head, Event, State, Order, Measure, Sent, Answer, Printed, Clock, Logged, End}
use Rattle.transcript.specs.declared.progress.Progress.{Progress}
use Rattle.transcript.specs.declared.progress.Progress.TheVariants.{Start, Opened, InEntry, InLog, Ended}
use Rattle.transcript.specs.NextLines.{next, and_then, read_on, so_far, with_event, with_clock, with_end, with_measure, is_above, bare_entry, bare_log, no_effects, affected}
use Rattle.transcript.specs.RunLines.{fate_lines, parent_lines, measure_lines, told_lines, asked_lines, answers_lines, effects_lines, entry_lines, entries_lines, logged_lines, log_lines, logs_lines, lines_of}
use Rattle.transcript.specs.TypedRuns.{IsTypedMeasured, IsTypedEffects, IsTypedEntry, IsTypedRun}
use Rattle.transcript.proofs.lemmas.MoveLemmas.{may-follow}

-- ---- lines behind lines

-- behind these lines this was read
pub record Reads (p : Progress) (lines : List Line) (q : Progress) : Type 0 where
  pub reads : read_on p lines ≡ Some q

pub read_on-append : (p : Progress) (xs ys : List Line) → read_on p (xs ++ ys) ≡ and_then (read_on p xs) (λ q. read_on q ys)
read_on-append p [] ys = refl
read_on-append p (x ∷ xs) ys =
    let by : (n : Option Progress) → and_then n (λ q. read_on q (xs ++ ys)) ≡ and_then (and_then n (λ q. read_on q xs)) (λ q. read_on q ys) =
    λ n. elim n as (λ m. and_then m (λ q. read_on q (xs ++ ys)) ≡ and_then (and_then m (λ q. read_on q xs)) (λ q. read_on q ys))
    [ None ↦ refl | Some q ↦ read_on-append q xs ys ] in
    by (next p x)

pub chain : (p q r : Progress) (xs ys : List Line) → Reads p xs q → Reads q ys r → Reads p (xs ++ ys) r
chain p q r xs ys a b = record {
  reads = read_on-append p xs ys ∙ ap (λ (n : Option Progress). and_then n (λ q. read_on q ys)) a.reads ∙ b.reads;
}

pub one_more : (p q r : Progress) (x : Line) (xs : List Line) → next p x ≡ Some q → Reads q xs r → Reads p (x ∷ xs) r
one_more p q r x xs a b = record { reads = ap (λ (n : Option Progress). and_then n (λ q. read_on q xs)) a ∙ b.reads }

pub none_more : (p : Progress) → Reads p [] p
none_more p = record { reads = refl }

-- the lines of a list, each of which may stand behind those before it
reads_list : {A : Type 0} (line : A → Line) (at : List A → Progress) (P : List A → Type 0)
    → ((done : List A) (x : A) (rest : List A) → P (done ++ x ∷ rest) → next (at done) (line x) ≡ Some (at (done ++ x ∷ [])))
    → (done rest : List A) → P (done ++ rest) → Reads (at done) (map line rest) (at (done ++ rest))
reads_list line at P may done [] h = rw (append-nil done) (none_more (at done))
reads_list {A} line at P may done (x ∷ rest) h =
    let same = append_assoc done (x ∷ []) rest in
    let further = reads_list line at P may (done ++ x ∷ []) rest (subst P (sym same) h) in
    one_more (at done) (at (done ++ x ∷ [])) (at (done ++ x ∷ rest)) (line x) (map line rest) (may done x rest h)
    (subst (λ (all : List A). Reads (at (done ++ x ∷ [])) (map line rest) (at all)) same further)

-- ---- the effects of an entry

same_bytes : (xs : List ℕ) → bytes_eq xs xs ≡ true
same_bytes xs = (bytes_eq-Decides xs xs).1 refl

reads_printed : (es : List Entry) (e : Entry) (shown : List (List ℕ)) → Reads (InEntry es e shown) (map Printed shown) (InEntry es e [])
reads_printed es e [] = none_more (InEntry es e [])
reads_printed es e (text ∷ shown) =
    one_more (InEntry es e (text ∷ shown)) (InEntry es e shown) (InEntry es e []) (Printed text) (map Printed shown)
    (ap (λ (b : Bool). cond b (Some (InEntry es e shown)) None) (same_bytes text)) (reads_printed es e shown)

module _ (es : List Entry) (input : Input) (moment : ℕ) (seen : Option Seen) where
  abbrev at : Effects → Progress
  at f = InEntry es (record { input = input; moment = moment; seen = seen; effects = f }) []

  reads_answers : (f : Effects) (done rest : List (List ℕ))
      → Reads (at (record f { answers = done })) (answers_lines rest) (at (record f { answers = done ++ rest }))
  reads_answers f done [] = rw (append-nil done) (none_more (at (record f { answers = done })))
  reads_answers f done (answer ∷ rest) =
      let same = append_assoc done (answer ∷ []) rest in
      let after : Effects = record f { answers = done ++ answer ∷ [] } in
      let further = reads_answers f (done ++ answer ∷ []) rest in
      let opened : Progress = InEntry es (record { input = input; moment = moment; seen = seen; effects = after }) (answer_lines answer) in
      one_more (at (record f { answers = done })) opened (at (record f { answers = done ++ answer ∷ rest })) (Answer answer) (map Printed (answer_lines answer) ++ answers_lines rest) refl
      (chain opened (at after) (at (record f { answers = done ++ answer ∷ rest })) (map Printed (answer_lines answer)) (answers_lines rest)
      (reads_printed es (record { input = input; moment = moment; seen = seen; effects = after }) (answer_lines answer))
      (subst (λ (all : List (List ℕ)). Reads (at after) (answers_lines rest) (at (record f { answers = all }))) same further))

  reads_fate : (fate : Option A_fate) → Reads (at no_effects) (fate_lines fate) (at (record no_effects { fate = fate }))
  reads_fate None = none_more (at no_effects)
  reads_fate (Some fate) = record { reads = refl }

  reads_states : (f : Effects) → AreFormedMoves f.states
      → Reads (at (record no_effects { fate = f.fate })) (map State f.states) (at (record no_effects { fate = f.fate; states = f.states }))
  reads_states f formed =
      reads_list State (λ (done : List Moved). at (record no_effects { fate = f.fate; states = done })) AreFormedMoves
      (λ done m rest h. ap (λ (b : Bool). affected es (record { input = input; moment = moment; seen = seen; effects = record no_effects { fate = f.fate; states = done } }) []
      (cond b (Some (record no_effects { fate = f.fate; states = done ++ m ∷ [] })) None)) (may-follow done m rest h))
      [] f.states formed

  reads_parent : (fate : Option A_fate) (states : List Moved) (parent : Option PortId)
      → Reads (at (record no_effects { fate = fate; states = states })) (parent_lines parent) (at (record no_effects { fate = fate; states = states; parent = parent }))
  reads_parent fate states None = none_more (at (record no_effects { fate = fate; states = states }))
  reads_parent fate states (Some parent) = record { reads = refl }

  reads_orders : (fate : Option A_fate) (states : List Moved) (parent : Option PortId) (orders : List RoleOrder)
      → Reads (at (record no_effects { fate = fate; states = states; parent = parent })) (map Order orders) (at (record no_effects { fate = fate; states = states; parent = parent; orders = orders }))
  reads_orders fate states parent orders =
      reads_list Order (λ (done : List RoleOrder). at (record no_effects { fate = fate; states = states; parent = parent; orders = done })) (λ all. Unit {0}) (λ done x rest h. refl) [] orders tt

  reads_measure : (fate : Option A_fate) (states : List Moved) (parent : Option PortId) (orders : List RoleOrder) (measure : Option (A_measure × Held))
      → IsFormedMeasure input measure → IsTypedMeasured measure
      → Reads (at (record no_effects { fate = fate; states = states; parent = parent; orders = orders })) (measure_lines measure) (at (record no_effects { fate = fate; states = states; parent = parent; orders = orders; measure = measure }))
  reads_measure fate states parent orders None formed typed = none_more (at (record no_effects { fate = fate; states = states; parent = parent; orders = orders }))
  reads_measure fate states parent orders (Some m) formed typed =
      let f : Effects = record no_effects { fate = fate; states = states; parent = parent; orders = orders } in
      let after : Effects = record no_effects { fate = fate; states = states; parent = parent; orders = orders; measure = Some m } in
      let may : nat_lt m.1.ctrl 256 ≡ true = lt-ltb m.1.ctrl 256 (typed.1.2) in
      let gives : with_measure f m.0 m.1.gener m.1.clock (port_of input) ≡ Some after =
      ap (with_measure f m.0 m.1.gener m.1.clock) formed ∙ ap (λ (b : Bool). cond b (Some after) None) may in
      one_more (at f) (at after) (at after) (Measure m.0 m.1.gener m.1.clock) []
      (ap (λ (g : Option Effects). affected es (record { input = input; moment = moment; seen = seen; effects = f }) [] g) gives) (none_more (at after))

  reads_frames : (f : Effects) (frames : List A_frame)
      → Reads (at (record f { frames = []; told = None; asked = None; answers = [] })) (map Sent frames) (at (record f { frames = frames; told = None; asked = None; answers = [] }))
  reads_frames f frames =
      reads_list Sent (λ (done : List A_frame). at (record f { frames = done; told = None; asked = None; answers = [] })) (λ all. Unit {0}) (λ done x rest h. refl) [] frames tt

  reads_told : (f : Effects) (told : Option A_told)
      → Reads (at (record f { told = None; asked = None; answers = [] })) (told_lines told) (at (record f { told = told; asked = None; answers = [] }))
  reads_told f None = none_more (at (record f { told = None; asked = None; answers = [] }))
  reads_told f (Some told) = record { reads = refl }

  reads_asked : (f : Effects) (asked : Option AskError) → Reads (at (record f { asked = None; answers = [] })) (asked_lines asked) (at (record f { asked = asked; answers = [] }))
  reads_asked f None = none_more (at (record f { asked = None; answers = [] }))
  reads_asked f (Some error) = record { reads = refl }

  -- all effects
  pub reads_effects : (f : Effects) → AreFormedEffects input f → IsTypedEffects f → Reads (at no_effects) (effects_lines f) (at f)
  unfolding effects_lines
  reads_effects f formed typed =
      chain (at no_effects) (at (record no_effects { fate = f.fate })) (at f) _ _ (reads_fate f.fate)
      (chain (at (record no_effects { fate = f.fate })) (at (record no_effects { fate = f.fate; states = f.states })) (at f) _ _ (reads_states f formed.states)
      (chain (at (record no_effects { fate = f.fate; states = f.states })) (at (record no_effects { fate = f.fate; states = f.states; parent = f.parent })) (at f) _ _ (reads_parent f.fate f.states f.parent)
      (chain (at (record no_effects { fate = f.fate; states = f.states; parent = f.parent })) (at (record no_effects { fate = f.fate; states = f.states; parent = f.parent; orders = f.orders })) (at f) _ _ (reads_orders f.fate f.states f.parent f.orders)
      (chain (at (record no_effects { fate = f.fate; states = f.states; parent = f.parent; orders = f.orders })) (at (record f { frames = []; told = None; asked = None; answers = [] })) (at f) _ _ (reads_measure f.fate f.states f.parent f.orders f.measure formed.measure typed.measure)
      (chain (at (record f { frames = []; told = None; asked = None; answers = [] })) (at (record f { told = None; asked = None; answers = [] })) (at f) _ _ (reads_frames f f.frames)
      (chain (at (record f { told = None; asked = None; answers = [] })) (at (record f { asked = None; answers = [] })) (at f) _ _ (reads_told f f.told)
      (chain (at (record f { asked = None; answers = [] })) (at (record f { answers = [] })) (at f) _ _ (reads_asked f f.asked)
      (reads_answers f [] f.answers))))))))

-- ---- entries

-- the entries before and a run of no clocks yet
abbrev entries_run : List Entry → Run
entries_run es = record { entries = es; logs = [] }

reads_entry : (p : Progress) (es : List Entry) (e : Entry) → so_far p ≡ Some (entries_run es) → IsFormedEntry e → IsTypedEntry e → Reads p (entry_lines (length es + 1) e) (InEntry es e [])
unfolding entry_lines
reads_entry p es e is formed typed =
    let bare = bare_entry e.moment e.input e.seen in
    one_more p (InEntry es bare []) (InEntry es e []) (Event (length es + 1) e.moment e.input e.seen) (effects_lines e.effects)
    (ap (λ (r : Option Run). with_event r (length es + 1) bare) is
    ∙ ap (λ (b : Bool). cond b (Some (InEntry es bare [])) None) (eq-eqb (length es + 1) (length es + 1) refl))
    (reads_effects es e.input e.moment e.seen e.effects formed.effects typed.effects)

-- all entries, behind which the run has them
pub record ReadsTo (p : Progress) (lines : List Line) (r : Run) : Type 0 where
  pub last : Progress
  pub reads : Reads p lines last
  pub so_far : so_far last ≡ Some r

reads_entries : (p : Progress) (es rest : List Entry) → so_far p ≡ Some (entries_run es) → All IsFormedEntry rest → All IsTypedEntry rest
    → ReadsTo p (entries_lines (length es + 1) rest) (entries_run (es ++ rest))
reads_entries p es [] is formed typed = record {
  last = p;
  reads = none_more p;
  so_far = is ∙ ap (λ (all : List Entry). Some (entries_run all)) (sym (append-nil es));
}
reads_entries p es (e ∷ rest) is formed typed =
    let further = reads_entries (InEntry es e []) (es ++ e ∷ []) rest refl (All-tail IsFormedEntry e rest formed) (All-tail IsTypedEntry e rest typed) in
    let number : length (es ++ e ∷ []) + 1 ≡ length es + 1 + 1 = omega (arith, length-append es (e ∷ [])) in
    record {
      last = further.last;
      reads = chain p (InEntry es e []) further.last (entry_lines (length es + 1) e) (entries_lines (length es + 1 + 1) rest)
          (reads_entry p es e is (All-head IsFormedEntry e rest formed) (All-head IsTypedEntry e rest typed))
          (subst (λ (n : ℕ). Reads (InEntry es e []) (entries_lines n rest) further.last) number further.reads);
      so_far = further.so_far ∙ ap (λ (all : List Entry). Some (entries_run all)) (append_assoc es (e ∷ []) rest);
    }

-- ---- clocks

reads_logged : (es : List Entry) (logs : List Log) (clock : ℕ) (opening : ClockState) (done rest : List LogEntry)
    → Reads (InLog es logs (record { clock = clock; opening = opening; entries = done })) (logged_lines clock (length done + 1) rest) (InLog es logs (record { clock = clock; opening = opening; entries = done ++ rest }))
reads_logged es logs clock opening done [] = rw (append-nil done) (none_more (InLog es logs (record { clock = clock; opening = opening; entries = done })))
reads_logged es logs clock opening done (x ∷ rest) =
    let at : List LogEntry → Progress = λ all. InLog es logs (record { clock = clock; opening = opening; entries = all }) in
    let further = reads_logged es logs clock opening (done ++ x ∷ []) rest in
    let number : length (done ++ x ∷ []) + 1 ≡ length done + 1 + 1 = omega (arith, length-append done (x ∷ [])) in
    let test : ((clock == clock) && (length done + 1 == length done + 1)) ≡ true = and_from (clock == clock) (length done + 1 == length done + 1) (eq-eqb clock clock refl) (eq-eqb (length done + 1) (length done + 1) refl) in
    one_more (at done) (at (done ++ x ∷ [])) (at (done ++ x ∷ rest)) (Logged clock (length done + 1) x) (logged_lines clock (length done + 1 + 1) rest)
    (ap (λ (b : Bool). cond b (Some (at (done ++ x ∷ []))) None) test)
    (subst (λ (n : ℕ). Reads (at (done ++ x ∷ [])) (logged_lines clock n rest) (at (done ++ x ∷ rest))) number
    (subst (λ (all : List LogEntry). Reads (at (done ++ x ∷ [])) (logged_lines clock (length (done ++ x ∷ []) + 1) rest) (at all)) (append_assoc done (x ∷ []) rest) further))

-- clocks stand in rising order
abbrev AreRising : List Log → Type 0
AreRising logs = AllPairs (λ (former later : Log). former.clock < later.clock) logs

above : (done : List Log) (log : Log) (rest : List Log) → AreRising (done ++ log ∷ rest) → is_above done log.clock ≡ true
above [] log rest rising = refl
above (a ∷ []) log rest rising = lt-ltb a.clock log.clock (rising 0 1 a (omega arith) (omega arith))
above (a ∷ b ∷ done) log rest rising = above (b ∷ done) log rest (λ i j d lt below. rising (suc i) (suc j) d (omega arith) (omega arith))

opening_again : (c : ClockState) → IsFormedOpening c → record { tick = 0; time = c.time; freq = pos 0; drift = c.drift } ≡ c
opening_again c formed =
    let tick = formed.tick in
    let freq = formed.freq in
    ap (λ (t : ℕ). record c { tick = t; freq = pos 0 }) (sym tick) ∙ ap (λ (z : ℤ). record c { freq = z }) (sym freq)

reads_log : (p : Progress) (es : List Entry) (done : List Log) (log : Log) (rest : List Log) → so_far p ≡ Some (record { entries = es; logs = done }) → AreRising (done ++ log ∷ rest) → IsFormedOpening log.opening
    → Reads p (log_lines log) (InLog es done log)
unfolding log_lines
reads_log p es done log rest is rising formed =
    let bare = bare_log log.clock log.opening.time log.opening.drift in
    let again : bare ≡ record log { entries = [] } = ap (λ (c : ClockState). record log { opening = c; entries = [] }) (opening_again log.opening formed) in
    one_more p (InLog es done (record log { entries = [] })) (InLog es done log) (Clock log.clock log.opening.time log.opening.drift) (logged_lines log.clock 1 log.entries)
    (ap (λ (r : Option Run). with_clock r bare) is
    ∙ ap (λ (b : Bool). cond b (Some (InLog es done bare)) None) (above done log rest rising)
    ∙ ap (λ (l : Log). Some (InLog es done l)) again)
    (reads_logged es done log.clock log.opening [] log.entries)

reads_logs : (p : Progress) (es : List Entry) (done rest : List Log) → so_far p ≡ Some (record { entries = es; logs = done }) → AreRising (done ++ rest) → All (λ (log : Log). IsFormedOpening log.opening) rest
    → ReadsTo p (logs_lines rest) (record { entries = es; logs = done ++ rest })
reads_logs p es done [] is rising formed = record {
  last = p;
  reads = none_more p;
  so_far = is ∙ ap (λ (all : List Log). Some (record { entries = es; logs = all })) (sym (append-nil done));
}
reads_logs p es done (log ∷ rest) is rising formed =
    let P : Log → Type 0 = λ log. IsFormedOpening log.opening in
    let same = append_assoc done (log ∷ []) rest in
    let further = reads_logs (InLog es done log) es (done ++ log ∷ []) rest refl (subst AreRising (sym same) rising) (All-tail P log rest formed) in
    record {
      last = further.last;
      reads = chain p (InLog es done log) further.last (log_lines log) (logs_lines rest) (reads_log p es done log rest is rising (All-head P log rest formed)) further.reads;
      so_far = further.so_far ∙ ap (λ (all : List Log). Some (record { entries = es; logs = all })) same;
    }

-- ---- all

-- behind all lines of a run a reader has that run
pub reads_run : (r : Run) → IsFormedRun r → IsTypedRun r → Reads Start (lines_of r) (Ended r.entries r.logs)
unfolding lines_of
reads_run r formed typed =
    let entries = reads_entries Opened [] r.entries refl formed.entries typed.entries in
    let logs = reads_logs entries.last r.entries [] r.logs entries.so_far formed.rising formed.openings in
    let last : Reads logs.last (End (length r.entries) ∷ []) (Ended r.entries r.logs) =
    one_more logs.last (Ended r.entries r.logs) (Ended r.entries r.logs) (End (length r.entries)) []
    (ap (λ (run : Option Run). with_end run (length r.entries)) logs.so_far ∙ ap (λ (b : Bool). cond b (Some (Ended r.entries r.logs)) None) (eq-eqb (length r.entries) (length r.entries) refl))
    (none_more (Ended r.entries r.logs)) in
    one_more Start Opened (Ended r.entries r.logs) Head _ refl
    (chain Opened entries.last (Ended r.entries r.logs) (entries_lines 1 r.entries) _ entries.reads
    (chain entries.last logs.last (Ended r.entries r.logs) (logs_lines r.logs) _ logs.reads last))
