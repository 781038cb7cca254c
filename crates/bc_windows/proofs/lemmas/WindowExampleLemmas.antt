-- The worked example, by evaluation.
use Rattle.std.proofs.Common.{◌≡◌, ◌<◌, ◌≤◌, refl, sym, ◌∙◌, subst, List, [], ◌∷◌, drop, map, take, arith}
use Rattle.std.specs.Prelude.{All}
use Rattle.std.proofs.lemmas.List.{append-nil}
use Rattle.std.proofs.lemmas.List.Elements.{All-from_recursion}
use Rattle.ptp_profile.specs.declared.port_event.Timer.TheVariants.{AnnounceReceipt}
use Rattle.ptp_profile.specs.Wire.MessageFormat.{number_at, message_octets}
use Rattle.bc_history.specs.declared.entry.Entry.{Entry}
use Rattle.bc_history.specs.declared.entry.Input.{Input}
use Rattle.bc_history.specs.declared.entry.Input.TheVariants.{Frame, Timed, Down, Up, Report, Turn, Sampled, Query}
use Rattle.bc_history.specs.declared.scenario.Scenario.{Scenario}
use Rattle.bc_history.specs.Phases.DecisionPhase.{after_hearing, with_codes}
use Rattle.bc_history.specs.Phases.EntryEffects.{effects_of, entry_after}
use Rattle.bc_history.specs.Phases.Inputs.{tick_of}
use Rattle.bc_history.specs.Phases.NoticePhase.{after_turn}
use Rattle.bc_history.specs.Phases.PortPhase.{after_port}
use Rattle.bc_history.specs.Phases.RolePhase.{after_roles}
use Rattle.bc_history.specs.Phases.Step.{state_of, step}
use Rattle.bc_history.specs.Run.NextInputs.{IsNext}
use Rattle.bc_history.specs.Run.RunExamples.{becomes_master}
use Rattle.bc_history.specs.Run.World.{status_after}
use Rattle.bc_history.proofs.lemmas.FinishedLemmas.{finished-from_test}
use Rattle.bc_windows.specs.Windows.{IsBeyond, IsMadeBy}
use Rattle.bc_windows.specs.WindowExamples.{first_window, hurried_windows, lonely, lonely_entries, lonely_windows}
use Rattle.bc_windows.proofs.lemmas.WindowLemmas.{finished-beyond}

-- the same port in a run of 6 s
abbrev shorter : Scenario
shorter = record lonely { options = record lonely.options { duration = 6000000000 } }

-- the ticks of both entries
pub lonely-ticks : map (λ (e : Entry). tick_of e.input) lonely_entries ≡ 7000000000 ∷ 6000000000 ∷ []
unfolding number_at message_octets status_after step state_of after_port with_codes after_hearing after_roles after_turn effects_of entry_after
lonely-ticks = refl

-- what is next after the first entry doesn't depend on where the run ends
next-second : (input : Input) → IsNext lonely (state_of lonely (drop 1 lonely_entries)) input
    → IsNext shorter (state_of shorter (drop 1 lonely_entries)) input
unfolding number_at message_octets status_after step state_of after_port with_codes after_hearing after_roles after_turn effects_of entry_after
next-second (Frame port tick octets) next = next
next-second (Timed port tick timer) next = next
next-second (Down port tick) next = next
next-second (Up port tick) next = next
next-second (Report port tick gener action outcome) next = next
next-second (Turn clock tick) next = next
next-second (Sampled clock tick lead theirs own action outcome) next = next
next-second (Query tick text) next = next

-- nothing is next up to 6 s then
second-beyond : IsBeyond lonely (drop 1 lonely_entries) 6000000000
unfolding number_at message_octets status_after step state_of after_port with_codes after_hearing after_roles after_turn effects_of entry_after
second-beyond input next =
    finished-beyond shorter (drop 1 lonely_entries) (finished-from_test shorter (drop 1 lonely_entries) refl) input (next-second input next)

-- so both windows make the history, an entry each
pub lonely-made : IsMadeBy lonely lonely_windows lonely_entries
unfolding number_at message_octets status_after step state_of after_port with_codes after_hearing after_roles after_turn effects_of entry_after
lonely-made = (
  record {
    more = take 1 lonely_entries;
    history = refl;
    within = All-from_recursion (λ (e : Entry). tick_of e.input ≤ 7000000000) (take 1 lonely_entries) (omega arith, tt);
  },
  second-beyond,
  (
    record {
      more = drop 1 lonely_entries;
      history = refl;
      within = All-from_recursion (λ (e : Entry). tick_of e.input ≤ 6000000000) (drop 1 lonely_entries) (omega arith, tt);
    },
    tt,
    tt,
  ),
)

-- the earlier window alone doesn't: the second entry is beyond its end
pub alone-refused : IsMadeBy lonely (first_window ∷ []) lonely_entries → ⊥
unfolding number_at message_octets status_after step state_of after_port with_codes after_hearing after_roles after_turn effects_of entry_after
alone-refused (is, begins, made) =
    let all = subst (λ (es : List Entry). All (λ (e : Entry). tick_of e.input ≤ 6000000000) es) (sym (is.history ∙ append-nil is.more)) is.within in
    let within : 7000000000 ≤ 6000000000 = all 0 (becomes_master 1) (omega arith) in
    omega (arith, within)

-- nor may the later window begin before the first entry was made: its timer is next
pub hurried-refused : IsMadeBy lonely hurried_windows lonely_entries → ⊥
unfolding state_of
hurried-refused (is, begins, made) =
    let above : 6000000000 < 6000000000 = begins (Timed 1 6000000000 AnnounceReceipt) (refl, refl) in
    omega (arith, above)
