use Rattle.std.proofs.Common.{◌≡◌, ◌≤◌, ℕ, Bool, true, false, arith, refl, sym, Option, None, Some}
use Rattle.std.specs.Prelude.{◌==◌, ◌&&◌, IsSomeAnd, option_and_then, slice_get}
use Rattle.std.proofs.lemmas.Bool.{and_parts, eqb-true}
use Rattle.ptp_profile.specs.declared.timing.Action.{Action}
use Rattle.bc_history.specs.declared.entry.Input.TheVariants.{Sampled}
use Rattle.bc_history.specs.declared.entry.Outcome.{Outcome}
use Rattle.bc_history.specs.declared.entry.Seen.{Seen}
use Rattle.bc_history.specs.declared.scenario.Scenario.{Scenario}
use Rattle.bc_history.specs.Run.NextInputs.{IsDue}
use Rattle.bc_history.specs.Phases.State.{Follower, State, TickLead}
use Rattle.ptp_profile.specs.Wire.MessageFormat.{number_at, message_octets}
use Rattle.bc_history.specs.Run.World.{status_after}
use Rattle.bc_history.specs.Phases.Step.{step, state_of}
use Rattle.bc_history.specs.Phases.PortPhase.{after_port}
use Rattle.bc_history.specs.Phases.DecisionPhase.{with_codes, after_hearing}
use Rattle.bc_history.specs.Phases.RolePhase.{after_roles}
use Rattle.bc_history.specs.Phases.NoticePhase.{after_turn}
use Rattle.bc_history.specs.Phases.EntryEffects.{effects_of, entry_after}
use Rattle.bc_history.specs.Run.RunExamples.{history_before, realistic}
use Rattle.bc_history.specs.Scenario.Defaults.{silent}
use Rattle.bc_history.proofs.lemmas.FinishedLemmas.{finished-from_test}
use Rattle.bc_history.proofs.examples.runs_are_finished.Goals as goal

pub returns-clause-silent : goal.returns-clause-silent
unfolding number_at message_octets status_after step state_of after_port with_codes after_hearing after_roles after_turn effects_of entry_after
returns-clause-silent c = finished-from_test (silent 6 2) (history_before 0 (silent 6 2) 3) refl

pub returns-clause-second : goal.returns-clause-second
unfolding number_at message_octets status_after step state_of after_port with_codes after_hearing after_roles after_turn effects_of entry_after
returns-clause-second c = ((refl, refl), omega arith)

pub returns-clause-copied : goal.returns-clause-copied
unfolding number_at message_octets status_after step state_of after_port with_codes after_hearing after_roles after_turn effects_of entry_after
returns-clause-copied c = finished-from_test realistic (history_before 0 realistic 60) refl

-- what a follower is to copy, by a test
abbrev is_copying : ℕ → ℕ → ℕ → Option TickLead → Bool
is_copying tick gener source None = false
is_copying tick gener source (Some l) = (l.tick == tick) && ((l.lead.gener == gener) && (l.lead.source == source))

-- the lead of the follower of a clock
abbrev lead_at : State → ℕ → Option TickLead
lead_at h clock = option_and_then (λ (f : Follower). f.leading) (slice_get h.followers clock)

-- what the test tells
copying-from_test : (tick gener source : ℕ) (lead : Option TickLead) → is_copying tick gener source lead ≡ true
    → lead ≡ Some (record { tick = tick; lead = record { gener = gener; source = source } })
copying-from_test tick gener source None test = cc
copying-from_test tick gener source (Some l) test =
    let ticks = and_parts (l.tick == tick) ((l.lead.gener == gener) && (l.lead.source == source)) test in
    let leads = and_parts (l.lead.gener == gener) (l.lead.source == source) ticks.1 in
    rw (
      sym (eqb-true l.tick tick ticks.0),
      sym (eqb-true l.lead.gener gener leads.0),
      sym (eqb-true l.lead.source source leads.1),
    ) refl

-- it makes the follower's sample due
sampled : (s : Scenario) (h : State) (clock : ℕ) (l : TickLead) → lead_at h clock ≡ Some l → l.tick ≤ s.options.duration
    → (theirs own : Seen) (action : Action) (outcome : Outcome)
    → IsDue s h (Sampled clock l.tick l.lead theirs own action outcome)
sampled s h clock l is le theirs own action outcome = (by (slice_get h.followers clock) is, le)
  where
    by : (o : Option Follower) → option_and_then (λ (f : Follower). f.leading) o ≡ Some l → IsSomeAnd o (λ f. f.leading ≡ Some l)
    by None none = cc
    by (Some f) some = some

-- the follower of clock 1 is to copy clock 0 at 8 s
copies : is_copying 8000000000 2 0 (lead_at (state_of realistic (history_before 1 realistic 60)) 1) ≡ true
unfolding number_at message_octets status_after step state_of after_port with_codes after_hearing after_roles after_turn effects_of entry_after
copies = refl

pub returns-clause-sampled : goal.returns-clause-sampled
returns-clause-sampled c =
    let l : TickLead = record { tick = 8000000000; lead = record { gener = 2; source = 0 } } in
    let h = state_of realistic (history_before 1 realistic 60) in
    sampled realistic h 1 l (copying-from_test 8000000000 2 0 (lead_at h 1) copies) (omega arith)
