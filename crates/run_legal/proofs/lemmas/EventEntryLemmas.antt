-- The entry of each event is right: of a port that waits or reports, of a follower's turn and its sample, of a query.
use Rattle.std.proofs.Common.{◌≡◌, ◌≤◌, ℕ, refl, sym, ◌∙◌, subst, List, [], ◌++◌, Option, Some, None}
use Rattle.std.specs.Prelude.{All, IsSomeAnd, is_some, slice_get}
use Rattle.std.proofs.lemmas.List.Elements.{All-nil}
use Rattle.ptp_profile.specs.declared.roles.Lead.{Lead}
use Rattle.ptp_profile.specs.declared.seats.LogEntry.{LogEntry}
use Rattle.ptp_profile.specs.declared.timing.Action.{Action}
use Rattle.bc_history.specs.declared.entry.Entry.{Entry}
use Rattle.bc_history.specs.declared.entry.Input.{Input}
use Rattle.bc_history.specs.declared.entry.Input.TheVariants.{Report, Turn, Sampled, Query}
use Rattle.bc_history.specs.declared.entry.Outcome.{Outcome}
use Rattle.bc_history.specs.declared.entry.Seen.{Seen}
use Rattle.bc_history.specs.declared.scenario.Asked.{Asked}
use Rattle.bc_history.specs.declared.scenario.Scenario.{Scenario}
use Rattle.bc_history.specs.Phases.EntryEffects.{entry_after, event}
use Rattle.bc_history.specs.Phases.HubPort.{HubPort, TickMeasure}
use Rattle.bc_history.specs.Phases.Inputs.{is_read, port_at}
use Rattle.bc_history.specs.Phases.State.{Follower}
use Rattle.bc_history.specs.Phases.Step.{state_of}
use Rattle.bc_history.specs.Run.Actors.{actor_of, entries_of}
use Rattle.bc_history.specs.Run.NextInputs.{IsDue, IsNext, IsReportOf, query_input, turn_tick}
use Rattle.bc_history.specs.Run.PortEntries.{measured_by}
use Rattle.bc_history.specs.Run.World.{World}
use Rattle.bc_history.proofs.lemmas.FollowerEntriesLemmas.{leading_by-due}
use Rattle.bc_history.proofs.lemmas.FollowerPhaseLemmas.{leading-state_of}
use Rattle.bc_history.proofs.lemmas.MeasureLemmas.{measured_by-due, measured-state_of}
use Rattle.run_legal.specs.Numbers.Knowledge.{AreRising, IsAbreast, IsNumbered, IsUpTo, IsWithin, known_to}
use Rattle.run_legal.specs.Numbers.Marks.{Mark, Sight, hub_sights, marks_in, marks_of, sight_mark}
use Rattle.run_legal.specs.Runs.Courses.{EachAfter, IsAgreed, IsCourse, IsReadRight, IsSteered}
use Rattle.run_legal.specs.Runs.RightEntries.{IsRightEntry}
use Rattle.run_legal.specs.Runs.WorldInvariant.{IsLed, IsToReport, IsToSample}
use Rattle.run_legal.proofs.lemmas.CourseLemmas.{actors_rise}
use Rattle.run_legal.proofs.lemmas.EventPlaceLemmas.{IsAtJob, asked_of, job-place}

-- an input that is due, with a reading where it wants one, makes a right entry where it would be right
pub right-made : (s : Scenario) (entries : List Entry) (logs : List (List LogEntry)) (input : Input) (seen : Option Seen) → IsDue s (state_of s entries) input → is_some seen ≡ is_read input
    → IsReadRight s logs (event input seen) → IsSteered s input entries → IsAgreed s logs input → IsAbreast s logs (event input seen) entries
    → IsRightEntry s entries logs (entry_after s entries input seen)
unfolding entry_after
right-made s entries logs input seen due read readings action agreed abreast = record {
  follows = record { due = due; read = read; made = refl };
  readings = readings;
  action = action;
  agreed = agreed;
  abreast = abreast;
}

-- an event that knew nothing is abreast
knows_nothing : (s : Scenario) (entries : List Entry) (logs : List (List LogEntry)) (input : Input) (seen : Option Seen) → EachAfter (IsNumbered s logs) entries
    → marks_of s (event input seen) ≡ [] → hub_sights s (event input seen) ≡ [] → IsAbreast s logs (event input seen) entries
knows_nothing s entries logs input seen each marks sights = record {
  rising = subst (λ (ms : List Mark). AreRising (ms ++ marks_in s (entries_of (actor_of input) entries))) (sym marks) (actors_rise s logs (actor_of input) entries each);
  within = subst (All (IsWithin logs)) (sym marks) (All-nil (IsWithin logs));
  told = subst (All (IsUpTo s logs (known_to (actor_of input) entries))) (sym marks) (All-nil (IsUpTo s logs (known_to (actor_of input) entries)));
  read = subst (All (λ (sight : Sight). IsUpTo s logs entries (sight_mark sight))) (sym sights) (All-nil (λ (sight : Sight). IsUpTo s logs entries (sight_mark sight)));
}

-- ---- a query

-- the next query is right
pub query-entry : (s : Scenario) (w : World) → IsCourse s w.entries w.logs → (asked : Asked) → query_input s (state_of s w.entries) ≡ Some asked → asked.tick ≤ s.options.duration
    → IsRightEntry s w.entries w.logs (entry_after s w.entries (Query asked.tick asked.text) None)
query-entry s w course asked next in_time =
    right-made s w.entries w.logs (Query asked.tick asked.text) None (next, in_time) refl (All-nil _) tt tt
    (knows_nothing s w.entries w.logs (Query asked.tick asked.text) None course.numbers refl refl)

-- ---- a follower

-- the turn of a follower that was told nothing is right
pub turn-entry : (s : Scenario) (w : World) → IsCourse s w.entries w.logs → (c : ℕ) (f : Follower) → slice_get (state_of s w.entries).followers c ≡ Some f → f.leading ≡ None
    → turn_tick s f ≤ s.options.duration → IsRightEntry s w.entries w.logs (entry_after s w.entries (Turn c (turn_tick s f)) None)
turn-entry s w course c f there none in_time =
    let next : IsNext s (state_of s w.entries) (Turn c (turn_tick s f)) =
    subst (λ (o : Option Follower). IsSomeAnd o (λ g. (g.leading ≡ None) × (turn_tick s f ≡ turn_tick s g))) (sym there) (none, refl) in
    right-made s w.entries w.logs (Turn c (turn_tick s f)) None (next, in_time) refl (All-nil _) tt tt
    (knows_nothing s w.entries w.logs (Turn c (turn_tick s f)) None course.numbers refl refl)

-- the sample that a follower is to make is right
pub sample-entry : (s : Scenario) (w : World) → IsCourse s w.entries w.logs → (c tick : ℕ) (lead : Lead) (theirs own : Seen) (action : Action) (outcome : Outcome) (f : Follower)
    → slice_get (state_of s w.entries).followers c ≡ Some f → IsLed f tick lead → IsToSample s w c tick lead theirs own action outcome
    → IsRightEntry s w.entries w.logs (entry_after s w.entries (Sampled c tick lead theirs own action outcome) None)
sample-entry s w course c tick lead theirs own action outcome f there led to =
    let next : IsNext s (state_of s w.entries) (Sampled c tick lead theirs own action outcome) =
    subst (λ (o : Option Follower). IsSomeAnd o (λ g. g.leading ≡ Some (record { tick = tick; lead = lead }))) (sym there) led in
    let in_time = leading_by-due s c w.entries (record { tick = tick; lead = lead }) course.history (sym (leading-state_of s w.entries course.history c f there) ∙ led) in
    right-made s w.entries w.logs (Sampled c tick lead theirs own action outcome) None (next, in_time) refl to.ready.readings to.ready.action to.agreed to.ready.abreast

-- ---- a port that reports

-- its report is right
pub report-entry : (s : Scenario) (w : World) → IsCourse s w.entries w.logs → (p tick gener : ℕ) (action : Action) (outcome : Outcome) (h : HubPort)
    → port_at (state_of s w.entries).core.ports p ≡ Some h → IsToReport s w p tick gener action outcome
    → IsRightEntry s w.entries w.logs (entry_after s w.entries (Report p tick gener action outcome) None)
report-entry s w course p tick gener action outcome h there to =
    let job = subst (IsAtJob (asked_of s.options p w.entries) (measured_by p w.entries)) to.place (job-place s.options p w.entries to.exchanges) in
    let x = job.0 in
    let measured : h.measured ≡ Some x = measured-state_of s w.entries course.history p h there ∙ job.1 in
    let reports : IsReportOf (Some h) tick gener =
    subst (λ (m : Option TickMeasure). IsSomeAnd m (λ (y : TickMeasure). (y.tick ≡ tick) × (y.held.gener ≡ gener))) (sym measured) (sym job.2, sym job.3) in
    let next : IsNext s (state_of s w.entries) (Report p tick gener action outcome) =
    subst (λ (o : Option HubPort). IsReportOf o tick gener) (sym there) reports in
    let in_time : tick ≤ s.options.duration = subst (λ (n : ℕ). n ≤ s.options.duration) (sym job.2) (measured_by-due s p w.entries x course.history job.1) in
    right-made s w.entries w.logs (Report p tick gener action outcome) None (next, in_time) refl (All-nil _) job.4 to.agreed to.abreast
