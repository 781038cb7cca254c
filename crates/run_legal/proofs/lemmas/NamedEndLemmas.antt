-- In a right World in which nobody is a candidate nothing is due, and nobody is to name a change: so a run is legal.
use Rattle.std.proofs.Common.{◌≡◌, ◌≤◌, ℕ, zero, suc, Bool, cond, refl, sym, ap, ◌∙◌, subst, inl, inr, [], Option, Some, None}
use Rattle.std.specs.Prelude.{Contains, option_and_then, option_map, slice_get}
use Rattle.std.proofs.lemmas.Bool.{le-leb}
use Rattle.std.proofs.lemmas.List.{reverse-reverse}
use Rattle.std.proofs.lemmas.List.Elements.{All-contains}
use Rattle.bc_history.specs.declared.entry.Input.{Input}
use Rattle.bc_history.specs.declared.entry.Run.{Run}
use Rattle.bc_history.specs.declared.entry.Who.{Who}
use Rattle.bc_history.specs.declared.entry.Who.TheVariants.{Port as A_port, Follower as A_follower, Queries as The_queries}
use Rattle.bc_history.specs.declared.place.FollowerPlace.{FollowerPlace}
use Rattle.bc_history.specs.declared.place.FollowerPlace.TheVariants.{Turns as Turns_next, ReadsTheirs as Reads_theirs, ReadsOwn as Reads_own, Exchanges as Exchanges_own, Samples}
use Rattle.bc_history.specs.declared.place.PortPlace.{PortPlace}
use Rattle.bc_history.specs.declared.place.PortPlace.TheVariants.{Waits, Exchanges, Reports}
use Rattle.bc_history.specs.declared.scenario.Scenario.{Scenario}
use Rattle.bc_history.specs.Phases.HubPort.{HubPort, TickMeasure}
use Rattle.bc_history.specs.Phases.Inputs.{port_at}
use Rattle.bc_history.specs.Phases.State.{State, TickLead}
use Rattle.bc_history.specs.Phases.Step.{state_of}
use Rattle.bc_history.specs.Run.Actors.{actors_of}
use Rattle.bc_history.specs.Run.History.{IsFinished}
use Rattle.bc_history.specs.Run.PortEntries.{measured_by}
use Rattle.bc_history.specs.Run.World.{Going, IsWorld, status_after, Place, World, candidate_at, candidate_of, candidates, is_busy, is_due, place_due, place_of, run_of}
use Rattle.bc_history.specs.Scenario.ScenarioRules.{IsScenario}
use Rattle.bc_history.proofs.lemmas.EntryPhaseLemmas.{option_and_then-some}
use Rattle.bc_history.proofs.lemmas.FollowerEntriesLemmas.{leading_by-due}
use Rattle.bc_history.proofs.lemmas.FollowerPhaseLemmas.{leading-state_of}
use Rattle.bc_history.proofs.lemmas.MeasureLemmas.{measured_by-due}
use Rattle.bc_history.proofs.lemmas.PortIdentityLemmas.{ports-length}
use Rattle.run_legal.specs.Numbers.Marks.{Mark}
use Rattle.run_legal.specs.Runs.LegalRuns.{AreNamed, IsLegal}
use Rattle.run_legal.specs.Runs.NamedChanges.{AreNamedSoFar, change_mark, input_to_enter, report_at, sample_at}
use Rattle.run_legal.specs.Runs.WorldInvariant.{IsRight, IsStepTo, StaysRight}
use Rattle.run_legal.proofs.lemmas.NamedRunLemmas.{finished-at, no-candidates, none-made}
use Rattle.run_legal.proofs.lemmas.NamedActorLemmas.{event-keeps-named, free-keeps-named}
use Rattle.run_legal.proofs.lemmas.NamedStepLemmas.{named-opening}
use Rattle.run_legal.proofs.lemmas.NextInputLemmas.{beside, due-busy, follower-all, job_tick, job_tick-placed, measured_tick, next-all, port-all}
use Rattle.run_legal.proofs.lemmas.WorldLemmas.{IsRight-open, IsRight-opening, newest_first-from, throughout}

-- what is not there is nothing
none-some : {X : Type 0} (o : Option X) (x : X) → o ≡ None → o ≡ Some x → ⊥
none-some None x none there = cc
none-some (Some y) x none there = cc

-- ---- nothing is due

-- a tick is not up to the end of the run
abbrev IsLate : Scenario → ℕ → Type 0
IsLate s tick = tick ≤ s.options.duration → ⊥

module _ (s : Scenario) (w : World) (right : IsRight s w) (none : candidates s w ≡ []) where
  -- what the history gives
  abbrev h : State
  h = state_of s w.entries

  -- whoever acts is no candidate
  idle : (who : Who) → Contains (actors_of s) who → candidate_of s h w who ≡ None
  idle who acts = All-contains (λ (x : Who). candidate_of s h w x ≡ None) (actors_of s) who (none-made (candidate_of s h w) (actors_of s) none) acts

  -- whoever acts is not due by the end
  late : (who : Who) (place : Place) (tick : ℕ) → Contains (actors_of s) who → place_of w who ≡ Some place → place_due s h who place ≡ Some tick → IsLate s tick
  late who place tick acts there at le =
      let made : candidate_of s h w who ≡ Some (record { tick = tick; busy = is_busy place; who = who }) =
      ap (λ (o : Option Place). option_and_then (λ place. candidate_at s h who place) o) there
      ∙ (ap (λ (o : Option ℕ). option_map (λ (t : ℕ). record { tick = t; busy = is_busy place; who = who }) (option_and_then (λ (t : ℕ). cond (is_due s t) (Some t) None) o)) at
      ∙ ap (λ (b : Bool). option_map (λ (t : ℕ). record { tick = t; busy = is_busy place; who = who }) (cond b (Some tick) None)) (le-leb tick s.options.duration le)) in
      none-some (candidate_of s h w who) (record { tick = tick; busy = is_busy place; who = who }) (idle who acts) made

  -- so nothing is due
  pub finished : IsFinished s w.entries
  finished input due = next-all s w (IsLate s) right late input due.0 due.1

  -- ---- nobody is to name a change

  -- a port in the middle of its job would be due
  measured-late : (i tick : ℕ) (port : HubPort) (place : PortPlace) (o : Option TickMeasure) → measured_by (suc i) w.entries ≡ o → slice_get h.core.ports i ≡ Some port → slice_get w.ports i ≡ Some place
      → job_tick place ≡ Some tick → job_tick place ≡ measured_tick o → ⊥
  measured-late i tick port place None measured is there busy same = none-some (job_tick place) tick same busy
  measured-late i tick port place (Some m) measured is there busy same =
      let due = measured_by-due s (suc i) w.entries m right.course.history measured in
      port-all s w (IsLate s) right late i m.tick port place is there (due-busy s port place m.tick same) due

  -- so no port is to report
  reports-late : (p : ℕ) (place : PortPlace) (input : Input) → port_at w.ports p ≡ Some place → report_at p place ≡ Some input → ⊥
  reports-late zero place input there reports = cc
  reports-late (suc i) Waits input there reports = cc
  reports-late (suc i) (Exchanges tick held action) input there reports = cc
  reports-late (suc i) (Reports tick gener action outcome) input there reports =
      let port = beside w.ports h.core.ports i (Reports tick gener action outcome) (right.port_count ∙ sym (ports-length s w.entries)) there in
      measured-late i tick port.0 (Reports tick gener action outcome) (measured_by (suc i) w.entries) refl port.1 there refl
      (job_tick-placed s w (suc i) (Reports tick gener action outcome) (right.ports (suc i) (Reports tick gener action outcome) there))

  -- and no follower is to sample
  samples-late : (c : ℕ) (place : FollowerPlace) (input : Input) → slice_get w.followers c ≡ Some place → sample_at c place ≡ Some input → ⊥
  samples-late c Turns_next input there samples = cc
  samples-late c (Reads_theirs tick lead) input there samples = cc
  samples-late c (Reads_own tick lead theirs) input there samples = cc
  samples-late c (Exchanges_own tick lead theirs own action) input there samples = cc
  samples-late c (Samples tick lead theirs own action outcome) input there samples =
      let f = beside w.followers h.followers c (Samples tick lead theirs own action outcome) right.follower_count there in
      let led = (right.followers c f.0 (Samples tick lead theirs own action outcome) f.1 there).0 in
      let l : TickLead = record { tick = tick; lead = lead } in
      let due = leading_by-due s c w.entries l right.course.history (sym (leading-state_of s w.entries right.course.history c f.0 f.1) ∙ led) in
      follower-all s w (IsLate s) right late c tick f.0 (Samples tick lead theirs own action outcome) f.1 there refl due

  -- so nobody is to enter anything
  to_name-by : (change : Mark) (who : Who) (input : Input) → input_to_enter w who ≡ Some input → ⊥
  to_name-by change (A_port p) input next =
      let place = option_and_then-some (report_at p) (port_at w.ports p) input next in reports-late p place.0 input place.1 place.2
  to_name-by change (A_follower c) input next =
      let place = option_and_then-some (sample_at c) (slice_get w.followers c) input next in samples-late c place.0 input place.1 place.2
  to_name-by change The_queries input next = cc

  -- so each change is named by an outcome
  pub named : AreNamedSoFar s w → AreNamed s w.entries w.logs
  named so_far clock number change =
      elim (so_far clock number change) [
        | inl there ↦ there
        | inr to ↦ absurd (to_name-by (change_mark clock number) to.who to.input to.next)
      ]

-- ---- runs

-- what is so of a World from step to step
pub record IsRightAndNamed (s : Scenario) (w : World) : Type 0 where
  pub is_right : IsRight s w
  pub are_named : AreNamedSoFar s w

-- each state of the World that goes on is so
named-throughout : (s : Scenario) → IsScenario s → StaysRight s → (n : ℕ) (w : World) → status_after s n ≡ Going w → IsRightAndNamed s w
named-throughout s is stays =
    throughout s (IsRightAndNamed s) (record { is_right = IsRight-opening s; are_named = named-opening s })
    (λ w next who so step. record { is_right = stays w next who so.is_right step; are_named = by w next who so step })
  where
    by : (w next : World) (who : Who) → IsRightAndNamed s w → IsStepTo s w who next → AreNamedSoFar s next
    by w next who so (inl event) = event-keeps-named s w next who so.are_named event.0
    by w next who so (inr free) = free-keeps-named s is w next who so.is_right so.are_named free

-- a World that ends so gives a legal run
pub legal-at : (s : Scenario) (w : World) → IsRightAndNamed s w → candidates s w ≡ [] → IsLegal s (run_of s w)
legal-at s w so none =
    let logs = newest_first-from 0 s.clocks w.logs so.is_right.course.lawful.number in
    let entries = reverse-reverse w.entries in
    record {
      is_open = IsRight-open s w so.is_right;
      named = rw (logs, entries) (named s w so.is_right none so.are_named);
      finished = rw entries (finished s w so.is_right none);
    }

-- so the run of each scenario is legal
pub run-legal : (s : Scenario) → IsScenario s → StaysRight s → (run : Run) → IsWorld s run → IsLegal s run
run-legal s is stays run (n, ends) =
    let end = finished-at s run n ends in
    subst (IsLegal s) end.is (legal-at s end.w (named-throughout s is stays end.turn end.w end.going) (no-candidates s end.w end.nobody))
