-- An entry tells what its input is for.
use Rattle.std.proofs.Common.{◌≡◌, ℕ, zero, suc, ◌+◌, Bool, true, false, cond, eqb, refl, sym, ap, subst, ◌∙◌, List, [], ◌∷◌, Option, Some, None, Result, Ok, Err}
use Rattle.std.specs.Prelude.{◌&&◌, is_some, slice_get, option_map, option_and_then, option_to_list, flat_map, IsSomeAnd}
use Rattle.std.proofs.lemmas.Bool.{false≢true}
use Rattle.std.proofs.lemmas.Option.{same_Some}
use Rattle.ptp_management.specs.declared.query.AskError.{AskError}
use Rattle.ptp_management.specs.declared.query.Request.{Request}
use Rattle.ptp_profile.specs.Port.PortStates.{is_dependent}
use Rattle.ptp_profile.specs.Port.Port.{with_receipt_renewed}
use Rattle.ptp_profile.specs.declared.seats.Held.{Held}
use Rattle.ptp_profile.specs.declared.timing.Measure.{Measure}
use Rattle.ptp_management.specs.ManagementQueries.{AnsweringSets, asked_by}
use Rattle.bc_history.specs.declared.entry.Effects.{Effects}
use Rattle.bc_history.specs.declared.entry.Entry.{Entry}
use Rattle.bc_history.specs.declared.entry.Input.{Input}
use Rattle.bc_history.specs.declared.entry.Input.TheVariants.{Frame, Timed, Down, Up, Report, Turn, Sampled, Query}
use Rattle.bc_history.specs.declared.entry.Seen.{Seen}
use Rattle.bc_history.specs.declared.port_input.EventContext.{EventContext}
use Rattle.bc_history.specs.declared.port_input.PortInput.{PortInput}
use Rattle.bc_history.specs.declared.scenario.Options.{Options}
use Rattle.bc_history.specs.declared.scenario.Scenario.{Scenario}
use Rattle.bc_history.specs.Phases.State.{Event, Follower, Core, Roles, State}
use Rattle.bc_history.specs.Phases.HubPort.{HubPort, TickMeasure}
use Rattle.bc_history.specs.Phases.Inputs.{is_read, port_at, port_input, port_of}
use Rattle.bc_history.specs.Phases.PortPhase.{happening_measure, measured_at}
use Rattle.bc_history.specs.Phases.DecisionPhase.{best_of, is_sent_by, newest_sender, with_renewal}
use Rattle.bc_history.specs.Phases.NoticePhase.{after_posting_from, notice_for, told_at}
use Rattle.bc_history.specs.Phases.QueryAnswers.{answering_sets, answers_of, refusal_of}
use Rattle.bc_history.specs.Phases.Step.{core_after, followers_between, roles_after, state_of}
use Rattle.bc_history.specs.Phases.EntryEffects.{effects_of, entry_after, event}
use Rattle.bc_history.specs.Run.History.{Follows}
use Rattle.bc_history.specs.Phases.EffectKinds.{TellsByKind, is_frame, is_query, is_there, is_turn}
use Rattle.bc_history.specs.Run.NextInputs.{IsNext}
use Rattle.bc_history.proofs.lemmas.CoreInvariantLemmas.{Each, Each-core_after}

-- ---- options

-- what a total function makes of an option is there where that is
is_some-then : {X Y : Type 0} (f : X → Y) (o : Option X) → is_some (option_and_then (λ x. Some (f x)) o) ≡ is_some o
is_some-then f None = refl
is_some-then f (Some x) = refl

-- the same of a map
is_some-map : {X Y : Type 0} (f : X → Y) (o : Option X) → is_some (option_map f o) ≡ is_some o
is_some-map f None = refl
is_some-map f (Some x) = refl

-- what a function that gives nothing makes of an option
none-then : {X Y : Type 0} (o : Option X) → option_and_then (λ (x : X). let none : Option Y = None in none) o ≡ None
none-then None = refl
none-then (Some x) = refl

-- nor does it give elements
none-flat : {X Y : Type 0} (o : Option X) → flat_map (λ (x : X). let none : List Y = [] in none) (option_to_list o) ≡ []
none-flat None = refl
none-flat (Some x) = refl

-- an option whose value has a fact has a value
some-and : {X : Type 0} (P : X → Type 0) (o : Option X) → IsSomeAnd o P → is_some o ≡ true
some-and P None h = absurd h
some-and P (Some x) h = refl

-- ---- the followers that are there stay there

-- a notice to each follower from a clock on leaves who is there
is_some-after_posting_from : (o : Options) (c : Core) (r : Roles) (clock : ℕ) (fs : List Follower) (i : ℕ)
    → is_some (slice_get (after_posting_from o c r clock fs) i) ≡ is_some (slice_get fs i)
is_some-after_posting_from o c r clock [] i = refl
is_some-after_posting_from o c r clock (f ∷ fs) zero = refl
is_some-after_posting_from o c r clock (f ∷ fs) (suc i) = is_some-after_posting_from o c r (clock + 1) fs i

-- so does a generation that begins, or that doesn't
is_some-after_notices : (o : Options) (c : Core) (r : Roles) (fs : List Follower) (i : ℕ) (same : Bool)
    → is_some (slice_get (cond same fs (after_posting_from o c r 0 fs)) i) ≡ is_some (slice_get fs i)
is_some-after_notices o c r fs i true = refl
is_some-after_notices o c r fs i false = is_some-after_posting_from o c r 0 fs i

-- ---- a measure

-- a port that measured nothing, where the entry is of its number
abbrev IsUnmeasured : Input → ℕ → HubPort → Type 0
IsUnmeasured input p h = port_of input ≡ Some p → h.measured ≡ None

-- only a frame gives a measure
no_measure : (o : Options) (k : EventContext) (h : HubPort) (input : Input) (p : PortInput) → is_frame input ≡ false
    → port_input input ≡ Some p → happening_measure o k p.what h ≡ None
no_measure o k h (Frame port tick octets) p other is = absurd (false≢true (sym other))
no_measure o k h (Timed port tick timer) p other is = subst (λ q. happening_measure o k q.what h ≡ None) (same_Some _ p is) refl
no_measure o k h (Down port tick) p other is = subst (λ q. happening_measure o k q.what h ≡ None) (same_Some _ p is) refl
no_measure o k h (Up port tick) p other is = subst (λ q. happening_measure o k q.what h ≡ None) (same_Some _ p is) refl
no_measure o k h (Report port tick gener action outcome) p other is =
    subst (λ q. happening_measure o k q.what h ≡ None) (same_Some _ p is) refl
no_measure o k h (Turn clock tick) p other is = cc
no_measure o k h (Sampled clock tick lead theirs own action outcome) p other is = cc
no_measure o k h (Query tick text) p other is = cc

-- a renewal leaves what was measured
pub with_renewal-measured : (m : ℕ) (h : HubPort) → (with_renewal m h).measured ≡ h.measured
with_renewal-measured m h = by (is_dependent h.port.state && is_sent_by (best_of m h) (newest_sender h.kept))
  where
    by : (b : Bool) → (cond b (record h { port = with_receipt_renewed m h.port }) h).measured ≡ h.measured
    by true = refl
    by false = refl

-- so does the whole entry for each port of it
unmeasured : (o : Options) (h : State) (e : Event) → is_frame e.input ≡ false
    → Each (IsUnmeasured e.input) (core_after o h e).ports
unmeasured o h e other =
    Each-core_after o h e (λ p g. Unit {0}) (IsUnmeasured e.input) (record {
      own = λ k p g is was one. ap (option_map (measured_at k p.tick)) (no_measure o k g e.input p other is);
      elsewhere = λ p g differs was one. absurd (differs one);
    }) (record {
      code = λ m best parent steps p g none. none;
      renewal = λ m p g none one. with_renewal-measured m g ∙ none one;
    }) (λ p g there. tt)

-- the entry tells no measure then
none_at : (e : Event) (ports : List HubPort) (p : Option ℕ) → port_of e.input ≡ p → Each (IsUnmeasured e.input) ports
    → option_and_then (λ (h : HubPort). h.measured) (option_and_then (port_at ports) p) ≡ None
none_at e ports None is each = refl
none_at e ports (Some p) is each = by (port_at ports p) refl
  where
    by : (o : Option HubPort) → port_at ports p ≡ o → option_and_then (λ (h : HubPort). h.measured) o ≡ None
    by None there = refl
    by (Some h) there = each p h there is

-- ---- a query

-- what makes no request has no answers
refused-unanswered : (sets : AnsweringSets) (requests : ℕ) (asked : Result Request AskError) → is_some (refusal_of asked) ≡ true
    → answers_of sets requests asked ≡ []
refused-unanswered sets requests (Ok request) h = absurd (false≢true h)
refused-unanswered sets requests (Err error) h = refl

-- ---- the effects of an entry

module _ (o : Options) (h : State) (seen : Option Seen) where
  -- what an entry of an input tells
  made : Input → Effects
  made input = effects_of o h (event input seen)

  -- each frame has a fate, and nothing else has one
  fate-kind : (input : Input) → is_some (made input).fate ≡ (is_frame input && is_there h input)
  unfolding made effects_of
  fate-kind (Frame port tick octets) = is_some-then _ (port_at h.core.ports port)
  fate-kind (Timed port tick timer) = ap is_some (none-then (port_at h.core.ports port))
  fate-kind (Down port tick) = ap is_some (none-then (port_at h.core.ports port))
  fate-kind (Up port tick) = ap is_some (none-then (port_at h.core.ports port))
  fate-kind (Report port tick gener action outcome) = ap is_some (none-then (port_at h.core.ports port))
  fate-kind (Turn clock tick) = refl
  fate-kind (Sampled clock tick lead theirs own action outcome) = refl
  fate-kind (Query tick text) = refl

  -- only what comes with a reading sends frames
  frames-kind : (input : Input) → is_read input ≡ false → (made input).frames ≡ []
  unfolding made effects_of
  frames-kind (Frame port tick octets) other = absurd (false≢true (sym other))
  frames-kind (Timed port tick timer) other = absurd (false≢true (sym other))
  frames-kind (Down port tick) other = none-flat (port_at h.core.ports port)
  frames-kind (Up port tick) other = none-flat (port_at h.core.ports port)
  frames-kind (Report port tick gener action outcome) other = none-flat (port_at h.core.ports port)
  frames-kind (Turn clock tick) other = refl
  frames-kind (Sampled clock tick lead theirs own action outcome) other = refl
  frames-kind (Query tick text) other = refl

  -- each turn is told something, and nobody else is
  told-kind : (input : Input) → is_some (made input).told ≡ (is_turn input && is_there h input)
  unfolding made effects_of
  told-kind (Turn clock tick) =
      let e = event (Turn clock tick) seen in
      let c = core_after o h e in
      let r = roles_after o h e in
      is_some-map (told_at o c.moment tick (notice_for c r clock)) (slice_get (followers_between o h e) clock)
      ∙ is_some-after_notices o c r h.followers clock (eqb h.roles.gener r.gener)
  told-kind (Frame port tick octets) = refl
  told-kind (Timed port tick timer) = refl
  told-kind (Down port tick) = refl
  told-kind (Up port tick) = refl
  told-kind (Report port tick gener action outcome) = refl
  told-kind (Sampled clock tick lead theirs own action outcome) = refl
  told-kind (Query tick text) = refl

  -- only a frame gives a measure
  measure-kind : (input : Input) → is_frame input ≡ false → (made input).measure ≡ None
  unfolding made effects_of
  measure-kind input other =
      let e = event input seen in
      ap (option_map (λ (m : TickMeasure). let pair : Measure × Held = (m.measure, m.held) in pair))
      (none_at e (core_after o h e).ports (port_of input) refl (unmeasured o h e other))

  -- only a query asks and is answered
  asked-kind : (input : Input) → is_query input ≡ false → ((made input).asked ≡ None) × ((made input).answers ≡ [])
  unfolding made effects_of
  asked-kind (Query tick text) other = absurd (false≢true (sym other))
  asked-kind _ other = (refl, refl)

  -- and one that makes no request is not
  refused-kind : (input : Input) → is_some (made input).asked ≡ true → (made input).answers ≡ []
  unfolding made effects_of
  refused-kind (Query tick text) refused = refused-unanswered (answering_sets o h) h.requests (asked_by text) refused
  refused-kind _ refused = refl

-- an entry tells what its input is for
pub tells_by_kind : (s : Scenario) (before : List Entry) (input : Input) (seen : Option Seen)
    → TellsByKind (state_of s before) (entry_after s before input seen)
unfolding entry_after made
tells_by_kind s before input seen =
    let h = state_of s before in
    record {
      fate = fate-kind s.options h seen input;
      told = told-kind s.options h seen input;
      measure = measure-kind s.options h seen input;
      frames = frames-kind s.options h seen input;
      asked = λ other. (asked-kind s.options h seen input other).0;
      answers = λ other. (asked-kind s.options h seen input other).1;
      refused = refused-kind s.options h seen input;
    }

-- an entry that follows is of one who is there
pub is_there-due : (s : Scenario) (h : State) (input : Input) → IsNext s h input → is_there h input ≡ true
is_there-due s h (Frame port tick octets) next = some-and _ (port_at h.core.ports port) next
is_there-due s h (Timed port tick timer) next = some-and _ (port_at h.core.ports port) next
is_there-due s h (Down port tick) next = some-and _ (port_at h.core.ports port) next
is_there-due s h (Up port tick) next = some-and _ (port_at h.core.ports port) next
is_there-due s h (Report port tick gener action outcome) next = some-and _ (port_at h.core.ports port) next
is_there-due s h (Turn clock tick) next = some-and _ (slice_get h.followers clock) next
is_there-due s h (Sampled clock tick lead theirs own action outcome) next = some-and _ (slice_get h.followers clock) next
is_there-due s h (Query tick text) next = refl

-- so of an entry that follows
pub follows-there : (s : Scenario) (before : List Entry) (e : Entry) → Follows s before e
    → is_there (state_of s before) e.input ≡ true
follows-there s before e f = is_there-due s (state_of s before) e.input f.due.0

-- what an entry that follows tells is of its kind
pub follows-tells : (s : Scenario) (before : List Entry) (e : Entry) → Follows s before e → TellsByKind (state_of s before) e
follows-tells s before e f = subst (TellsByKind (state_of s before)) (sym f.made) (tells_by_kind s before e.input e.seen)
