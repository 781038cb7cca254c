-- Moments along a history, and what follows its end.
use Rattle.std.proofs.Common.{◌≡◌, ◌≤◌, refl, sym, ap, ◌∙◌, max, List, ◌∷◌, arith}
use Rattle.std.specs.Prelude.{false, is_some, Some, None, true}
use Rattle.std.proofs.lemmas.Bool.{false≢true}
use Rattle.bc_history.specs.declared.entry.Entry.{Entry}
use Rattle.bc_history.specs.declared.entry.Seen.{Seen}
use Rattle.bc_history.specs.declared.scenario.Options.{Options}
use Rattle.bc_history.specs.declared.scenario.Scenario.{Scenario}
use Rattle.bc_history.specs.Phases.State.{Event, Core, State}
use Rattle.bc_history.specs.Phases.Inputs.{event_of, is_read, tick_of}
use Rattle.bc_history.specs.Phases.PortPhase.{after_port}
use Rattle.bc_history.specs.Phases.DecisionPhase.{with_codes, after_hearing}
use Rattle.bc_history.specs.Phases.Step.{step, core_after, core_before, state_of}
use Rattle.bc_history.specs.Phases.EntryEffects.{entry_after, event}
use Rattle.bc_history.specs.Run.History.{Follows, IsHistory, IsFinished}
use Rattle.bc_history.proofs.lemmas.CoreInvariantLemmas.{kept-phases}

-- the moment after an entry is the greatest tick so far: its phases take no time
pub core_after-moment : (o : Options) (h : State) (e : Event) → (core_after o h e).moment ≡ max h.core.moment (tick_of e.input)
unfolding after_port with_codes after_hearing
core_after-moment o h e =
    (kept-phases o (λ (c : Core). c.moment ≡ (core_before h e).moment) (record {
      port = λ x c same. same;
      decisions = record { codes = λ c same. same; hearing = λ number c same. same };
    }) h e refl).1

-- the moment of a history is the greatest tick
pub state_of-moment : (s : Scenario) (e : Entry) (before : List Entry)
    → (state_of s (e ∷ before)).core.moment ≡ max (state_of s before).core.moment (tick_of e.input)
unfolding state_of step
state_of-moment s e before = core_after-moment s.options (state_of s before) (event_of e)

-- so has an entry that follows
follows-moment : (s : Scenario) (e : Entry) (before : List Entry) → Follows s before e
    → e.moment ≡ max (state_of s before).core.moment (tick_of e.input)
unfolding entry_after
follows-moment s e before f =
    ap (λ (x : Entry). x.moment) f.made ∙ core_after-moment s.options (state_of s before) (event e.input e.seen)

-- it is not below the entry's tick nor below a former moment
pub moments_rise : (s : Scenario) (e f : Entry) (before : List Entry) → IsHistory s (e ∷ f ∷ before)
    → (f.moment ≤ e.moment) × (tick_of e.input ≤ e.moment)
moments_rise s e f before h =
    let newer = follows-moment s e (f ∷ before) h.continues.0 in
    let older = follows-moment s f before h.continues.1.0 in
    let state = state_of-moment s f before in
    (omega arith, omega arith)

-- nothing follows a history after which nothing is due
pub none_follows : (s : Scenario) (before : List Entry) → IsFinished s before → (e : Entry) → Follows s before e → ⊥
none_follows s before done e f = done e.input f.due

-- an entry that follows has a reading where it is a frame or a timer
pub unread_follows : (s : Scenario) (before : List Entry) (e : Entry) → is_read e.input ≡ true → e.seen ≡ None
    → Follows s before e → ⊥
unread_follows s before e is none f = false≢true (sym (ap is_some none) ∙ (f.read ∙ is))

-- and without one where it is neither
pub read_follows : (s : Scenario) (before : List Entry) (e : Entry) (seen : Seen) → is_read e.input ≡ false → e.seen ≡ Some seen
    → Follows s before e → ⊥
read_follows s before e seen is some f = false≢true (sym is ∙ (sym f.read ∙ ap is_some some))
