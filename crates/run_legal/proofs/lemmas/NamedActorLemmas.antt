-- Each step of an actor enters its own entry, or acts freely: so changes stay named.
use Rattle.std.proofs.Common.{◌≡◌, ℕ, Bool, true, false, cond, eq-eqb, refl, sym, ap, ◌∙◌, subst, inl, inr, List, [], ◌∷◌, ◌++◌, Option, Some, None, arith}
use Rattle.std.specs.Prelude.{Contains, option_and_then, option_map, slice_get}
use Rattle.std.proofs.lemmas.Bool.{false≢true}
use Rattle.ptp_profile.specs.declared.seats.Held.{Held}
use Rattle.ptp_profile.specs.declared.timing.Action.{Action}
use Rattle.ptp_profile.specs.declared.roles.Lead.{Lead}
use Rattle.bc_history.specs.declared.entry.Entry.{Entry}
use Rattle.bc_history.specs.declared.entry.Input.{Input}
use Rattle.bc_history.specs.declared.entry.Input.TheVariants.{Report, Sampled, Turn, Query}
use Rattle.bc_history.specs.declared.entry.Outcome.{Outcome}
use Rattle.bc_history.specs.declared.entry.Outcome.TheVariants.{Changed}
use Rattle.bc_history.specs.declared.entry.Seen.{Seen}
use Rattle.bc_history.specs.declared.entry.Who.{Who}
use Rattle.bc_history.specs.declared.entry.Who.TheVariants.{Port as A_port, Follower as A_follower, Queries as The_queries}
use Rattle.bc_history.specs.declared.place.FollowerPlace.{FollowerPlace}
use Rattle.bc_history.specs.declared.place.FollowerPlace.TheVariants.{Turns as Turns_next, ReadsTheirs as Reads_theirs, ReadsOwn as Reads_own, Exchanges as Exchanges_own, Samples}
use Rattle.bc_history.specs.declared.place.PortPlace.{PortPlace}
use Rattle.bc_history.specs.declared.place.PortPlace.TheVariants.{Waits, Exchanges, Reports}
use Rattle.bc_history.specs.declared.scenario.Asked.{Asked}
use Rattle.bc_history.specs.declared.scenario.Scenario.{Scenario}
use Rattle.bc_history.specs.Phases.EntryEffects.{entry_after}
use Rattle.bc_history.specs.Phases.HubPort.{HubPort}
use Rattle.bc_history.specs.Phases.Inputs.{at_port, changed_at, port_at, tick_of}
use Rattle.bc_history.specs.Phases.State.{Follower}
use Rattle.bc_history.specs.Phases.Step.{state_of}
use Rattle.bc_history.specs.Run.FollowerPlace.{after_follower_reading, follower_place_by_entries}
use Rattle.bc_history.specs.Run.NextInputs.{next_input, query_input, turn_tick}
use Rattle.bc_history.specs.Run.PortPlace.{after_port_exchange, place_by_entries}
use Rattle.bc_history.specs.Run.Samples.{follower_samples}
use Rattle.bc_history.specs.Run.World.{Event, Free, Of_follower, Of_port, World, follower_event, follower_step, held_by, is_due, port_event, port_reading, port_step, query_step, seen_of, step_from, step_of, with_entry, with_follower}
use Rattle.bc_history.specs.Scenario.ScenarioRules.{IsScenario}
use Rattle.bc_history.proofs.lemmas.CoreInvariantLemmas.{port_at-at_port, port_at-elsewhere, slice_get-changed_at, slice_get-changed_elsewhere}
use Rattle.bc_history.proofs.lemmas.EntryPhaseLemmas.{option_and_then-some}
use Rattle.run_legal.specs.Numbers.GrownLogs.{outcome_of_exchange}
use Rattle.run_legal.specs.Numbers.Marks.{clock_of, exchange_marks, outcome_marks}
use Rattle.run_legal.specs.Runs.NamedChanges.{AreNamedSoFar, change_mark, input_to_enter, report_at, sample_at}
use Rattle.run_legal.specs.Runs.WorldInvariant.{IsRight}
use Rattle.run_legal.proofs.lemmas.FreeFollowerLemmas.{after_own_exchange}
use Rattle.run_legal.proofs.lemmas.FreeStepLemmas.{so-free}
use Rattle.run_legal.proofs.lemmas.FreePortLemmas.{after_exchange_of, exchange-asked}
use Rattle.run_legal.proofs.lemmas.NamedStepLemmas.{ActsFreely, EntersWith, OthersStay, change-exchanged, named-entered, named-freely}
use Rattle.run_legal.proofs.lemmas.PortExchangeLemmas.{held-own}
use Rattle.bc_history.proofs.lemmas.StampLemmas.{kept-stamp}

-- ---- others stay

-- where one port moves
port-others : (w next : World) (p : ℕ) (change : PortPlace → PortPlace) → next.ports ≡ at_port change p w.ports → next.followers ≡ w.followers → OthersStay w next (A_port p)
port-others w next p change ports followers (A_port q) other =
    let elsewhere : port_at next.ports q ≡ port_at w.ports q =
    ap (λ (ps : List PortPlace). port_at ps q) ports ∙ port_at-elsewhere change p q w.ports (λ e. false≢true (sym other ∙ eq-eqb q p (sym e))) in
    ap (λ (o : Option PortPlace). option_and_then (report_at q) o) elsewhere
port-others w next p change ports followers (A_follower c) other = ap (λ (fs : List FollowerPlace). option_and_then (sample_at c) (slice_get fs c)) followers
port-others w next p change ports followers The_queries other = refl

-- where one follower moves
follower-others : (w next : World) (c : ℕ) (place : FollowerPlace) → next.ports ≡ w.ports → next.followers ≡ changed_at (λ former. place) c w.followers → OthersStay w next (A_follower c)
follower-others w next c place ports followers (A_port q) other = ap (λ (ps : List PortPlace). option_and_then (report_at q) (port_at ps q)) ports
follower-others w next c place ports followers (A_follower d) other =
    let elsewhere : slice_get next.followers d ≡ slice_get w.followers d =
    ap (λ (fs : List FollowerPlace). slice_get fs d) followers ∙ slice_get-changed_elsewhere (λ (former : FollowerPlace). place) c d w.followers (λ e. false≢true (sym other ∙ eq-eqb d c (sym e))) in
    ap (λ (o : Option FollowerPlace). option_and_then (sample_at d) o) elsewhere
follower-others w next c place ports followers The_queries other = refl

-- where nobody does
nobody-others : (w next : World) (who : Who) → next.ports ≡ w.ports → next.followers ≡ w.followers → OthersStay w next who
nobody-others w next who ports followers (A_port q) other = ap (λ (ps : List PortPlace). option_and_then (report_at q) (port_at ps q)) ports
nobody-others w next who ports followers (A_follower d) other = ap (λ (fs : List FollowerPlace). option_and_then (sample_at d) (slice_get fs d)) followers
nobody-others w next who ports followers The_queries other = refl

-- ---- events

-- the input of an entry is the one that it was made of
entry-input : (s : Scenario) (before : List Entry) (input : Input) (seen : Option Seen) → (entry_after s before input seen).input ≡ input
unfolding entry_after
entry-input s before input seen = refl

-- a port's event
port-enters : (s : Scenario) (w : World) (p : ℕ) (input : Input) (seen : Option Seen) → ((next : Input) → input_to_enter w (A_port p) ≡ Some next → input ≡ next)
    → EntersWith w (port_event s w p input seen) (A_port p) (entry_after s w.entries input seen)
port-enters s w p input seen is = record {
  entries = refl;
  logs = refl;
  others = port-others w (port_event s w p input seen) p (λ place. place_by_entries s.options p (entry_after s w.entries input seen ∷ w.entries)) refl refl;
  own = λ next to. entry-input s w.entries input seen ∙ is next to;
}

-- a follower's
follower-enters : (s : Scenario) (w : World) (c : ℕ) (input : Input) → ((next : Input) → input_to_enter w (A_follower c) ≡ Some next → input ≡ next)
    → EntersWith w (follower_event s w c input) (A_follower c) (entry_after s w.entries input None)
follower-enters s w c input is = record {
  entries = refl;
  logs = refl;
  others = follower-others w (follower_event s w c input) c (follower_place_by_entries c (entry_after s w.entries input None ∷ w.entries)) refl refl;
  own = λ next to. entry-input s w.entries input None ∙ is next to;
}

-- a query
query-enters : (s : Scenario) (w : World) (e : Entry) → EntersWith w (with_entry w e) The_queries e
query-enters s w e = record {
  entries = refl;
  logs = refl;
  others = nobody-others w (with_entry w e) The_queries refl refl;
  own = λ next to. absurd (cc);
}

-- an actor's event enters an entry
record EntersBy (w next : World) (who : Who) : Type 0 where
  e : Entry
  enters : EntersWith w next who e

-- what a port that is there is to enter
port-to_enter : (w : World) (p : ℕ) (place : PortPlace) → port_at w.ports p ≡ Some place → input_to_enter w (A_port p) ≡ report_at p place
port-to_enter w p place there = ap (λ (o : Option PortPlace). option_and_then (report_at p) o) there

-- and a follower
follower-to_enter : (w : World) (c : ℕ) (place : FollowerPlace) → slice_get w.followers c ≡ Some place → input_to_enter w (A_follower c) ≡ sample_at c place
follower-to_enter w c place there = ap (λ (o : Option FollowerPlace). option_and_then (sample_at c) o) there

-- an event that is taken where a test passes
event-where : (b : Bool) (event next : World) → cond b (Some (Event event)) None ≡ Some (Event next) → event ≡ next
event-where true event next is = cc
event-where false event next is = absurd (cc)

-- an event that is taken where a test passes enters its entry
entered-if : (w event next : World) (who : Who) (b : Bool) (e : Entry) → EntersWith w event who e → cond b (Some (Event event)) None ≡ Some (Event next) → EntersBy w next who
entered-if w event next who b e enters is =
    record { e = e; enters = subst (λ (v : World). EntersWith w v who e) (event-where b event next is) enters }

module _ (s : Scenario) (w next : World) where
  -- a port's event enters its entry
  port-event-enters : (p : ℕ) (h : HubPort) (place : PortPlace) → port_at w.ports p ≡ Some place → port_step s w p h place ≡ Some (Event next) → EntersBy w next (A_port p)
  port-event-enters p h Waits there step =
      let some = option_and_then-some (λ (input : Input). cond (is_due s (tick_of input)) (Some (Event (port_event s w p input (port_reading s w h input)))) None) (next_input s h) (Event next) step in
      let enters = port-enters s w p some.0 (port_reading s w h some.0) (λ input to. let none : None ≡ Some input = sym (port-to_enter w p Waits there) ∙ to in absurd (cc)) in
      entered-if w (port_event s w p some.0 (port_reading s w h some.0)) next (A_port p) (is_due s (tick_of some.0)) (entry_after s w.entries some.0 (port_reading s w h some.0)) enters some.2
  port-event-enters p h (Exchanges tick held action) there step = absurd (cc)
  port-event-enters p h (Reports tick gener action outcome) there step =
      let enters = port-enters s w p (Report p tick gener action outcome) None
      (λ input to. let same : Some (Report p tick gener action outcome) ≡ Some input = sym (port-to_enter w p (Reports tick gener action outcome) there) ∙ to in cc) in
      record { e = entry_after s w.entries (Report p tick gener action outcome) None; enters = subst (λ (v : World). EntersWith w v (A_port p) (entry_after s w.entries (Report p tick gener action outcome) None)) (cc) enters }

  -- so does a follower's
  follower-event-enters : (c : ℕ) (f : Follower) (place : FollowerPlace) → slice_get w.followers c ≡ Some place → follower_step s w c f place ≡ Some (Event next) → EntersBy w next (A_follower c)
  follower-event-enters c f Turns_next there step =
      let enters = follower-enters s w c (Turn c (turn_tick s f)) (λ input to. let none : None ≡ Some input = sym (follower-to_enter w c Turns_next there) ∙ to in absurd (cc)) in
      entered-if w (follower_event s w c (Turn c (turn_tick s f))) next (A_follower c) (is_due s (turn_tick s f)) (entry_after s w.entries (Turn c (turn_tick s f)) None) enters step
  follower-event-enters c f (Reads_theirs tick lead) there step = absurd (cc)
  follower-event-enters c f (Reads_own tick lead theirs) there step = absurd (cc)
  follower-event-enters c f (Exchanges_own tick lead theirs own action) there step = absurd (cc)
  follower-event-enters c f (Samples tick lead theirs own action outcome) there step =
      let enters = follower-enters s w c (Sampled c tick lead theirs own action outcome)
      (λ input to. let same : Some (Sampled c tick lead theirs own action outcome) ≡ Some input = sym (follower-to_enter w c (Samples tick lead theirs own action outcome) there) ∙ to in cc) in
      record { e = entry_after s w.entries (Sampled c tick lead theirs own action outcome) None; enters = subst (λ (v : World). EntersWith w v (A_follower c) (entry_after s w.entries (Sampled c tick lead theirs own action outcome) None)) (cc) enters }

  -- and a query's
  query-event-enters : (o : Option Asked) → query_step s w o ≡ Some (Event next) → EntersBy w next The_queries
  query-event-enters None step = absurd (cc)
  query-event-enters (Some asked) step =
      let e = entry_after s w.entries (Query asked.tick asked.text) None in
      entered-if w (with_entry w e) next The_queries (is_due s asked.tick) e (query-enters s w e) step

  -- by the place of the port
  event-enters-port : (p : ℕ) (o : Option PortPlace) → port_at w.ports p ≡ o
      → option_and_then (λ place. step_from s w (A_port p) place) (option_map (λ place. Of_port place) o) ≡ Some (Event next) → EntersBy w next (A_port p)
  event-enters-port p None there step = absurd (cc)
  event-enters-port p (Some place) there step =
      let some = option_and_then-some (λ (h : HubPort). port_step s w p h place) (port_at (state_of s w.entries).core.ports p) (Event next) step in
      port-event-enters p some.0 place there some.2

  -- by that of the follower
  event-enters-follower : (c : ℕ) (o : Option FollowerPlace) → slice_get w.followers c ≡ o
      → option_and_then (λ place. step_from s w (A_follower c) place) (option_map (λ place. Of_follower place) o) ≡ Some (Event next) → EntersBy w next (A_follower c)
  event-enters-follower c None there step = absurd (cc)
  event-enters-follower c (Some place) there step =
      let some = option_and_then-some (λ (f : Follower). follower_step s w c f place) (slice_get (state_of s w.entries).followers c) (Event next) step in
      follower-event-enters c some.0 place there some.2

  -- so does each event
  event-enters : (who : Who) → step_of s w who ≡ Some (Event next) → EntersBy w next who
  event-enters (A_port p) step = event-enters-port p (port_at w.ports p) refl step
  event-enters (A_follower c) step = event-enters-follower c (slice_get w.followers c) refl step
  event-enters The_queries step = query-event-enters (query_input s (state_of s w.entries)) step

-- each event keeps all changes named, or to be
pub event-keeps-named : (s : Scenario) (w next : World) (who : Who) → AreNamedSoFar s w → step_of s w who ≡ Some (Event next) → AreNamedSoFar s next
event-keeps-named s w next who named step =
    let by = event-enters s w next who step in named-entered s w next who by.e by.enters named

-- ---- other steps

-- the only change that an outcome of this number names
named-alone : (clock own number : ℕ) → own ≡ clock → Contains (outcome_marks own (Changed number) ++ []) (change_mark clock number)
named-alone clock own number same = subst (λ (c : ℕ). Contains (outcome_marks own (Changed number) ++ []) (change_mark c number)) same (0, omega arith, refl)

-- a port's exchange
port-exchanges : (s : Scenario) → IsScenario s → (w : World) (p tick : ℕ) (held : Held) (action : Action) → IsRight s w → port_at w.ports p ≡ Some (Exchanges tick held action)
    → ActsFreely s w (after_exchange_of s w p tick held action) (A_port p)
port-exchanges s is w p tick held action right there = record {
  entries = refl;
  others = port-others w (after_exchange_of s w p tick held action) p (after_port_exchange outcome) refl refl;
  idle = port-to_enter w p (Exchanges tick held action) there;
  logs = λ clock number change.
      elim (change-exchanged s w.logs held tick action clock number change) [
        | inl before ↦ inl before
        | inr named ↦ inr (record { who = A_port p; input = Report p tick held.gener action outcome; next = to_enter; names = by clock number named.0 named.1 })
      ];
}
  where
    outcome : Outcome
    outcome = outcome_of_exchange s w.logs held tick action

    own : clock_of s p ≡ held.clock
    own =
        let asked = exchange-asked s.options p w.entries tick held action (right.ports p (Exchanges tick held action) there) in
        let by_port = kept-stamp s is w.entries p asked.m right.course.history asked.measured in
        sym (ap (λ (h : Held). h.clock) (sym asked.under) ∙ ap (λ (h : Held). h.clock) (held-own s (state_of s w.entries).roles.orders p asked.m.held by_port))

    to_enter : input_to_enter (after_exchange_of s w p tick held action) (A_port p) ≡ Some (Report p tick held.gener action outcome)
    to_enter =
        ap (λ (o : Option PortPlace). option_and_then (report_at p) o)
        (port_at-at_port (after_port_exchange outcome) p w.ports ∙ ap (option_map (after_port_exchange outcome)) there)

    by : (clock number : ℕ) → held.clock ≡ clock → outcome ≡ Changed number → Contains (exchange_marks s (Report p tick held.gener action outcome)) (change_mark clock number)
    by clock number same named =
        subst (λ (o : Outcome). Contains (exchange_marks s (Report p tick held.gener action o)) (change_mark clock number)) (sym named)
        (named-alone clock (clock_of s p) number (own ∙ same))

-- a follower's
follower-exchanges : (s : Scenario) (w : World) (c tick : ℕ) (lead : Lead) (theirs own : Seen) (action : Action) → slice_get w.followers c ≡ Some (Exchanges_own tick lead theirs own action)
    → ActsFreely s w (after_own_exchange s w c tick lead theirs own action) (A_follower c)
follower-exchanges s w c tick lead theirs own action there = record {
  entries = refl;
  others = follower-others w next c (Samples tick lead theirs own action outcome) refl refl;
  idle = follower-to_enter w c (Exchanges_own tick lead theirs own action) there;
  logs = λ clock number change.
      elim (change-exchanged s w.logs (held_by c lead) tick action clock number change) [
        | inl before ↦ inl before
        | inr named ↦ inr (record { who = A_follower c; input = Sampled c tick lead theirs own action outcome; next = to_enter; names = by clock number named.0 named.1 })
      ];
}
  where
    outcome : Outcome
    outcome = outcome_of_exchange s w.logs (held_by c lead) tick action

    next : World
    next = after_own_exchange s w c tick lead theirs own action

    to_enter : input_to_enter next (A_follower c) ≡ Some (Sampled c tick lead theirs own action outcome)
    to_enter =
        ap (λ (o : Option FollowerPlace). option_and_then (sample_at c) o)
        (slice_get-changed_at (λ (former : FollowerPlace). Samples tick lead theirs own action outcome) c w.followers
        ∙ ap (option_map (λ (former : FollowerPlace). Samples tick lead theirs own action outcome)) there)

    by : (clock number : ℕ) → c ≡ clock → outcome ≡ Changed number → Contains (exchange_marks s (Sampled c tick lead theirs own action outcome)) (change_mark clock number)
    by clock number same named =
        subst (λ (o : Outcome). Contains (exchange_marks s (Sampled c tick lead theirs own action o)) (change_mark clock number)) (sym named)
        (named-alone clock c number same)

-- a follower's reading
follower-reads : (s : Scenario) (w : World) (c : ℕ) (place former : FollowerPlace) → slice_get w.followers c ≡ Some former → sample_at c former ≡ None
    → ActsFreely s w (with_follower w c place) (A_follower c)
follower-reads s w c place former there none = record {
  entries = refl;
  others = follower-others w (with_follower w c place) c place refl refl;
  idle = follower-to_enter w c former there ∙ none;
  logs = λ clock number change. inl change;
}

-- each step that is no event keeps all changes named, or to be
pub free-keeps-named : (s : Scenario) → IsScenario s → (w next : World) (who : Who) → IsRight s w → AreNamedSoFar s w → step_of s w who ≡ Some (Free next) → AreNamedSoFar s next
free-keeps-named s is w next who right named step =
    named-freely s w next who
    (so-free s w next (λ (actor : Who) (later : World). ActsFreely s w later actor)
    (record {
      port_exchange = λ p tick held action there. port-exchanges s is w p tick held action right there;
      their_reading = λ c tick lead there. follower-reads s w c (Reads_own tick lead (seen_of s w lead.source tick)) (Reads_theirs tick lead) there refl;
      own_reading = λ c tick lead theirs there. follower-reads s w c (after_follower_reading s.options (follower_samples c w.entries) (seen_of s w c tick) (Reads_own tick lead theirs)) (Reads_own tick lead theirs) there refl;
      own_exchange = λ c tick lead theirs own action f is_f there. follower-exchanges s w c tick lead theirs own action there;
    }) who step) named
