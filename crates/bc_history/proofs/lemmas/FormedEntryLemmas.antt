-- The entries of a history and the clocks of a scenario hold nothing that a text can't show.
use Rattle.std.proofs.Common.{◌≡◌, ℕ, ℤ, pos, negsuc, ◌+◌, ◌*◌, ◌/◌, ◌^◌, ◌<◌, ◌≤◌, Bool, true, false, cond, List, [], ◌∷◌, length, get_or, Option, Some, None, refl, sym, ap, ◌∙◌, subst, arith}
use Rattle.std.specs.Prelude.{◌*ℤ◌, ◌==◌, IsTrue, nat_lt, slice_get, option_to_list, flat_map, map}
use Rattle.std.specs.List.{All}
use Rattle.std.proofs.lemmas.List.Elements.{All-nil, All-append, All-filter, All-get_or, All-map, All-weaker}
use Rattle.std.proofs.lemmas.Int.{ints}
use Rattle.std.proofs.lemmas.Option.{slice_get_within, get_or_from_slice_get, slice_get-get_or}
use Rattle.ptp_base.specs.Floor.{floor_of}
use Rattle.ptp_management.specs.ManagementQueries.{AnsweringPort, shows, asked_by}
use Rattle.ptp_profile.specs.declared.message.Message.{Message}
use Rattle.ptp_profile.specs.declared.port_event.Timer.{Timer}
use Rattle.ptp_profile.specs.declared.seats.Held.{Held}
use Rattle.ptp_profile.specs.declared.timing.Measure.{Measure}
use Rattle.ptp_profile.specs.Port.PortTimers.{due_of}
use Rattle.ptp_profile.specs.Wire.MessageFormat.{message_octets}
use Rattle.model_clock.specs.declared.state.ClockState.{ClockState}
use Rattle.bc_history.specs.declared.entry.Input.{Input}
use Rattle.bc_history.specs.declared.entry.Input.TheVariants.{Frame, Timed, Down, Up, Report, Turn, Sampled, Query}
use Rattle.bc_history.specs.declared.entry.Entry.{Entry}
use Rattle.bc_history.specs.declared.entry.Sent.{Sent}
use Rattle.bc_history.specs.declared.port_input.PortEntry.{PortEntry}
use Rattle.bc_history.specs.declared.scenario.Happening.{Happening}
use Rattle.bc_history.specs.declared.scenario.Happening.TheVariants.{Frame as Frame_record, Down as Down_record, Up as Up_record}
use Rattle.bc_history.specs.declared.scenario.Options.{Options}
use Rattle.bc_history.specs.declared.scenario.Record.{Record}
use Rattle.bc_history.specs.declared.scenario.Scenario.{Scenario}
use Rattle.bc_history.specs.Phases.State.{Core, Event, State}
use Rattle.bc_history.specs.Phases.HubPort.{HubPort}
use Rattle.bc_history.specs.Phases.Inputs.{event_of, port_at}
use Rattle.bc_history.specs.Phases.PortPhase.{fate_at}
use Rattle.bc_history.specs.Phases.RolePhase.{states_of}
use Rattle.bc_history.specs.Phases.QueryAnswers.{answering_port, answering_sets}
use Rattle.bc_history.specs.Phases.Step.{core_after, core_before, core_between, port_entry, state_of}
use Rattle.bc_history.specs.Phases.EntryEffects.{effects_of, entry_after, entry_frames, event, frame_of_message, messages_of}
use Rattle.bc_history.specs.Run.FormedRuns.{AreFormedMoves, IsFormedEntry, IsFormedInput, IsFormedMeasure, IsFormedOpening}
use Rattle.bc_history.specs.Run.History.{Follows}
use Rattle.bc_history.specs.Run.NextInputs.{IsNext, IsNextOf, input_of, record_or_timer, records_of}
use Rattle.bc_history.specs.Scenario.OptionTable.{ClockOptionIsFrom, option_table}
use Rattle.bc_history.specs.Scenario.ScenarioRules.{IsHappening, IsOpeningClock, IsQuery, IsRecordOf, IsScenario}
use Rattle.bc_history.proofs.lemmas.EntryPhaseLemmas.{measure_at-some}
use Rattle.bc_history.proofs.lemmas.MeasureLemmas.{told-measure}
use Rattle.bc_history.proofs.lemmas.MoveLemmas.{formed_moves}
use Rattle.bc_history.proofs.lemmas.OptionRuleLemmas.{row_at}
use Rattle.bc_history.proofs.lemmas.PortIdentityLemmas.{port-state_of, ports-length}
use Rattle.bc_history.proofs.lemmas.ShownAnswerLemmas.{FitsSets, shown_answers, small-text}
use Rattle.bc_history.proofs.lemmas.StampLemmas.{made-stamp}

-- ---- the input

-- what is so of each element is so of one that is there
all_there : {X : Type 0} (P : X → Type 0) (xs : List X) (i : ℕ) (x : X) → All P xs → slice_get xs i ≡ Some x → P x
all_there P xs i x each there =
    subst P (get_or_from_slice_get xs i x x there) (All-get_or P xs i x (slice_get_within xs i x there) each)

-- a frame of a record has an octet
record_frame : (p tick : ℕ) (what : Happening) (port at : ℕ) (octets : List ℕ) → IsHappening what → Some (input_of p tick what) ≡ Some (Frame port at octets) → 1 ≤ length octets
record_frame p tick (Frame_record said) port at octets rule is = let same : said ≡ octets = cc in subst (λ (l : List ℕ). 1 ≤ length l) same rule.0
record_frame p tick Down_record port at octets rule is = cc
record_frame p tick Up_record port at octets rule is = cc

-- so has the next input of a port, where that is a frame
next_frame : (p : ℕ) (r : Option Record) (t : Option (ℕ × Timer)) (port at : ℕ) (octets : List ℕ) → ((x : Record) → r ≡ Some x → IsHappening x.what)
    → record_or_timer p r t ≡ Some (Frame port at octets) → 1 ≤ length octets
next_frame p None None port at octets rule is = cc
next_frame p None (Some t) port at octets rule is = cc
next_frame p (Some r) None port at octets rule is = record_frame p r.tick r.what port at octets (rule r refl) is
next_frame p (Some r) (Some t) port at octets rule is = by (nat_lt t.0 r.tick) is
  where
    by : (b : Bool) → cond b (Some (Timed p t.0 t.1)) (Some (input_of p r.tick r.what)) ≡ Some (Frame port at octets) → 1 ≤ length octets
    by true is = cc
    by false is = record_frame p r.tick r.what port at octets (rule r refl) is

-- by the port that is there
due_frame : (s : Scenario) → IsScenario s → (port : Option HubPort) (p at : ℕ) (octets : List ℕ) → IsNextOf s port (Frame p at octets) → 1 ≤ length octets
due_frame s is None p at octets next = absurd next
due_frame s is (Some h) p at octets next =
    let mine = λ (r : Record). r.port == h.port.id.port in
    let rules = All-filter mine (IsRecordOf (length s.ports)) s.records is.records in
    next_frame h.port.id.port (slice_get (records_of s h.port.id.port) h.taken) (due_of h.port.timers) p at octets
    (λ r there. (all_there (IsRecordOf (length s.ports)) (records_of s h.port.id.port) h.taken r rules there).what) next.1

-- an input that is next can be shown
formed_input : (s : Scenario) → IsScenario s → (h : State) (input : Input) → IsNext s h input → IsFormedInput input
formed_input s is h (Frame port tick octets) next = due_frame s is (port_at h.core.ports port) port tick octets next
formed_input s is h (Timed port tick timer) next = tt
formed_input s is h (Down port tick) next = tt
formed_input s is h (Up port tick) next = tt
formed_input s is h (Report port tick gener action outcome) next = tt
formed_input s is h (Turn clock tick) next = tt
formed_input s is h (Sampled clock tick lead theirs own action outcome) next = tt
formed_input s is h (Query tick text) next = (all_there IsQuery s.queries h.queries (record { tick = tick; text = text }) is.queries next).words

-- ---- the measure

-- a measure is of the port whose entry it is
formed_measure : (s : Scenario) → IsScenario s → (before : List Entry) (e : Entry) → Follows s before e → (m : Option (Measure × Held)) → e.effects.measure ≡ m
    → IsFormedMeasure e.input m
formed_measure s is before e f None told = tt
formed_measure s is before e f (Some m) told =
    let h = state_of s before in
    let given = measure_at-some (event_of e) (core_after s.options h (event_of e)).ports m (sym (told-measure s before e f) ∙ told) in
    given.of ∙ ap (λ (p : ℕ). Some p) (sym (made-stamp s is before e given.number m f given.of told).ctrl)

-- ---- the frames

-- a list that begins with an element has one
begun : (xs ys : List ℕ) (x : ℕ) → xs ≡ x ∷ ys → 1 ≤ length xs
begun xs ys x is = rw is (omega arith)

-- a message has an octet
message_filled : (m : Message) → 1 ≤ length (message_octets m)
unfolding message_octets
message_filled m = begun (message_octets m) _ _ refl

-- what is made of an option's value
all_flat : {X Y : Type 0} (P : Y → Type 0) (f : X → List Y) (o : Option X) → ((x : X) → All P (f x)) → All P (flat_map f (option_to_list o))
all_flat P f None each = All-nil P
all_flat P f (Some x) each = All-append P (f x) [] (each x) (All-nil P)

-- each frame that an entry sends has one
formed_frames : (o : Options) (e : Option PortEntry) (c : Core) → All (λ (sent : Sent). 1 ≤ length sent.octets) (entry_frames o e c)
formed_frames o None c = All-nil _
formed_frames o (Some e) c =
    all_flat (λ (sent : Sent). 1 ≤ length sent.octets) (λ (h : HubPort). map (frame_of_message h.port.id.port)
    (messages_of o (fate_at o e c) c.master e.reading e.input.tick e.input.what h.port)) (port_at c.ports e.input.number)
    (λ h. All-map (λ (sent : Sent). 1 ≤ length sent.octets) (frame_of_message h.port.id.port) (messages_of o (fate_at o e c) c.master e.reading e.input.tick e.input.what h.port)
    (λ k d below. message_filled (get_or (messages_of o (fate_at o e c) c.master e.reading e.input.tick e.input.what h.port) k d)))

-- ---- the answers

-- the data sets of a history have numbers that fit
fits_sets : (s : Scenario) → IsScenario s → (before : List Entry) → FitsSets (answering_sets s.options (state_of s before))
fits_sets s is before = record {
  clock = omega (arith, is.options.0.1);
  ports = All-map (λ (p : AnsweringPort). p.id.port < 2 ^ 16) answering_port (state_of s before).core.ports (λ k d below. few k d below);
}
  where
    few : (k : ℕ) (d : HubPort) → k < length (state_of s before).core.ports → (get_or (state_of s before).core.ports k d).port.id.port < 2 ^ 16
    few k d below =
        let h = get_or (state_of s before).core.ports k d in
        let number = (port-state_of s before k h (slice_get-get_or (state_of s before).core.ports k d below)).number in
        omega (arith, number, below, ports-length s before, is.port_count.1)

-- ---- the effects

module _ (o : Options) (h : State) (e : Event) where
  -- the changes of state
  states-told : AreFormedMoves (effects_of o h e).states
  unfolding effects_of
  states-told = formed_moves 1 (states_of h.core.ports) (states_of (core_between o h e).ports) (states_of (core_after o h e).ports)

  -- the frames
  frames-told : All (λ (sent : Sent). 1 ≤ length sent.octets) (effects_of o h e).frames
  unfolding effects_of
  frames-told = formed_frames o (port_entry h e) (core_before h e)

-- the answers: only a query has them
answers-told : (s : Scenario) → IsScenario s → (before : List Entry) (e : Event) (input : Input) → e.input ≡ input
    → All (λ (answer : List ℕ). IsTrue (shows answer)) (effects_of s.options (state_of s before) e).answers
unfolding effects_of
answers-told s is before e (Query tick text) at =
    let h = state_of s before in
    rw at (shown_answers (answering_sets s.options h) h.requests (asked_by text) (fits_sets s is before) (small-text text))
answers-told s is before e (Frame port tick octets) at = rw at (All-nil _)
answers-told s is before e (Timed port tick timer) at = rw at (All-nil _)
answers-told s is before e (Down port tick) at = rw at (All-nil _)
answers-told s is before e (Up port tick) at = rw at (All-nil _)
answers-told s is before e (Report port tick gener action outcome) at = rw at (All-nil _)
answers-told s is before e (Turn clock tick) at = rw at (All-nil _)
answers-told s is before e (Sampled clock tick lead theirs own action outcome) at = rw at (All-nil _)

-- ---- an entry

-- an entry that follows can be shown
pub formed_entry : (s : Scenario) (before : List Entry) (e : Entry) → IsScenario s → Follows s before e → IsFormedEntry e
unfolding entry_after
formed_entry s before e is f = record {
  input = formed_input s is (state_of s before) e.input f.due.0;
  read = f.read;
  effects = record {
    states = subst (λ (x : Entry). AreFormedMoves x.effects.states) (sym f.made) (states-told s.options (state_of s before) (event e.input e.seen));
    measure = formed_measure s is before e f e.effects.measure refl;
    frames = subst (λ (x : Entry). All (λ (sent : Sent). 1 ≤ length sent.octets) x.effects.frames) (sym f.made) (frames-told s.options (state_of s before) (event e.input e.seen));
    answers = subst (λ (x : Entry). All (λ (answer : List ℕ). IsTrue (shows answer)) x.effects.answers) (sym f.made) (answers-told s is before (event e.input e.seen) e.input refl);
  };
}

-- ---- a clock

-- the floor of a multiple is the factor
floor_multiple : (value : ℤ) → floor_of (value *ℤ pos 65536) (pos 65536) ≡ value
floor_multiple (pos n) = omega (arith, ints)
floor_multiple (negsuc n) =
    let below : negsuc n *ℤ pos 65536 ≡ negsuc (n * 65536 + 65535) = omega (arith, ints) in
    let within : (n * 65536 + 65535) / 65536 ≡ n = omega arith in
    ap (λ (z : ℤ). floor_of z (pos 65536)) below ∙ ap negsuc within

-- a drift in whole ppb
whole_drift : (drift value : ℤ) → drift ≡ value *ℤ pos 65536 → drift ≡ floor_of drift (pos 65536) *ℤ pos 65536
whole_drift drift value is = is ∙ ap (λ (z : ℤ). z *ℤ pos 65536) (sym (ap (λ (d : ℤ). floor_of d (pos 65536)) is ∙ floor_multiple value))

-- a clock as a scenario has it can be shown
formed_clock : (c : ClockState) → IsOpeningClock c → IsFormedOpening c
formed_clock c is =
    let drift = row_at (ClockOptionIsFrom c) option_table 28 _ is.options refl in
    record { tick = is.tick; freq = is.freq; drift = whole_drift c.drift drift.1.0 drift.1.1 }

-- so can all of them
pub formed_openings : (s : Scenario) → IsScenario s → All IsFormedOpening s.clocks
formed_openings s is = All-weaker IsOpeningClock IsFormedOpening formed_clock s.clocks is.clocks
