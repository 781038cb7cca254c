use Rattle.std.proofs.Common.{ℕ, ◌+◌, ◌<◌, ◌≤◌, ◌%◌, ◌∙◌, length, List, [], ◌∷◌, ◌++◌, refl, sym, ap, subst, arith}
use Rattle.std.specs.Prelude.{slice_set}
use Rattle.std.proofs.lemmas.List.{length-reverse}
use Rattle.ptp_base.specs.declared.limits.TheConstants.{ENTRIES_MAX}
use Rattle.bc_history.specs.declared.entry.Entry.{Entry}
use Rattle.bc_history.specs.Run.NextInputs.{IsDue}
use Rattle.bc_history.specs.Phases.Step.{state_of}
use Rattle.hub_core.specs.HubView.{HubState, HubYields, IsInWindow, entry_by, history_of, newest_seen}
use Rattle.bc_roles.specs.RolesView.{RolesView}
use Rattle.hub_core.specs.EffectRooms.{AreFew, TellsFew}
use Rattle.hub_core.specs.declared.hub.Hub.TheInside.{Inside}
use Rattle.bc_history.specs.Phases.State.{Event}
use Rattle.hub_core.specs.HubCost.{IsCountedAt, event_at, few_comparisons}
use Rattle.bc_ports.specs.DecisionCost.{setting_cost}
use Rattle.hub_core.proofs.lemmas.DecisionHistoryLemmas.{between-length}
use Rattle.hub_core.proofs.lemmas.HubLemmas.{HasTakenOne, event-taken, IsRoomier, drafted, entry-taken, gener-roomier, hub-next, hub-same, hub-yields, logs-roomier, machine-roomier, queries-served, requests-served, seen_of}
use Rattle.hub_core.proofs.hub.Hub.serve.Given.{Over}
use Rattle.hub_core.proofs.hub.Hub.serve.Goals as goal

pub invariant_of-self-in_err-push : goal.invariant_of-self-in_err-push
invariant_of-self-in_err-push g c =
    let i : Inside = c.self.inside in
    let more : IsRoomier i.machine.roles c.reserve.new.self = record { spare = c.reserve.new.self.seats.spare; same = c.reserve.ensures.same } in
    hub-same i _ c.self.invariant refl c.in_err-push.ensures.err refl refl refl
    (machine-roomier i.scenario.value i.machine _ c.reserve.new.self c.self.invariant.machine more) (gener-roomier i.machine.roles c.reserve.new.self more) refl

pub take-entry-requires-clause-at : goal.take-entry-requires-clause-at
take-entry-requires-clause-at g c =
    let i : Inside = c.self.inside in
    let more : IsRoomier i.machine.roles c.reserve.new.self = record { spare = c.reserve.new.self.seats.spare; same = c.reserve.ensures.same } in
    let gener = gener-roomier i.machine.roles c.reserve.new.self more in
    let due = subst (λ (h : HubState). IsDue h.scenario (state_of h.scenario h.entries) c.args.input) (sym c.self.view_is) c.requires.due in
    let long = length-reverse i.entries in
    let few = subst (λ (h : HubState). length h.entries < ENTRIES_MAX) (sym c.self.view_is) c.requires.few in
    record {
      scenario = i.scenario.value;
      entries = history_of i;
      rules = c.self.invariant.rules;
      machine = machine-roomier i.scenario.value i.machine _ c.reserve.new.self c.self.invariant.machine more;
      due = due;
      few = few;
      room = record { gener = omega (arith, gener, c.self.invariant.gener, long, few); spare = omega (arith, c.in_ok-reserve.ensures.ok) };
    }

-- the hub after the event
abbrev after : (g : Over) → goal.After-set g → Inside
after g c = record { alloc = c.self.inside.alloc; scenario = c.self.inside.scenario; machine = c.take-entry.new.self; entries = c.set.new.self; asked = c.self.inside.asked; sequence = c.self.inside.sequence; windows = c.self.inside.windows }

taken : (g : Over) (c : goal.After-set g) → HasTakenOne c.self.inside (after g c) c.args.input c.reserve.new.self.seats.logs c.take-entry.result
taken g c =
    let i : Inside = c.self.inside in
    let more : IsRoomier i.machine.roles c.reserve.new.self = record { spare = c.reserve.new.self.seats.spare; same = c.reserve.ensures.same } in
    let gener = gener-roomier i.machine.roles c.reserve.new.self more in
    let due = subst (λ (h : HubState). IsDue h.scenario (state_of h.scenario h.entries) c.args.input) (sym c.self.view_is) c.requires.due in
    record {
      scenario = refl;
      served = c.take-entry.ensures.served i.scenario.value (history_of i) c.self.invariant.rules
          (machine-roomier i.scenario.value i.machine _ c.reserve.new.self c.self.invariant.machine more)
          due;
      entries =
          c.set.ensures
          ∙ (ap (λ (es : List Entry). slice_set es c.len-last.result c.take-entry.result) c.in_ok-push.ensures.ok
          ∙ (ap (λ (k : ℕ). slice_set (i.entries ++ c.draft.result ∷ []) k c.take-entry.result) c.len-last.ensures
          ∙ drafted i.entries c.draft.result c.take-entry.result));
      asked = queries-served c.args.input i.asked c.requires.own;
      sequence = λ requests was. was ∙ ap (λ (n : ℕ). n % 65536) (requests-served c.args.input requests c.requires.own);
      gener = omega (arith, c.take-entry.ensures.gener, gener);
      logs_before = logs-roomier i.machine.roles c.reserve.new.self more;
      logs_after = c.take-entry.ensures.logs;
      windows = refl;
      decided = λ was. c.take-entry.ensures.bests i.scenario.value (history_of i) c.self.invariant.rules
          (machine-roomier i.scenario.value i.machine _ c.reserve.new.self c.self.invariant.machine more) due was;
    }

pub invariant_of-self-2 : goal.invariant_of-self-2
invariant_of-self-2 g c =
    let i : Inside = c.self.inside in
    let long = length-reverse i.entries in
    let few = subst (λ (h : HubState). length h.entries < ENTRIES_MAX) (sym c.self.view_is) c.requires.few in
    hub-next i (after g c) c.args.input c.reserve.new.self.seats.logs c.take-entry.result c.self.invariant (omega (arith, long, few))
    (subst (λ (h : HubState). IsDue h.scenario (state_of h.scenario h.entries) c.args.input) (sym c.self.view_is) c.requires.due)
    (subst (λ (h : HubState). IsInWindow h c.args.input) (sym c.self.view_is) c.requires.within) (taken g c)

pub returns-clause-yields : goal.returns-clause-yields
returns-clause-yields g c =
    let j = after g c in
    let H : HubState → Type 0 = λ h. HubYields h c.args.input (seen_of j) (entry_by h c.args.input (newest_seen (history_of j))).effects in
    let entry = entry-taken c.self.inside j c.args.input c.reserve.new.self.seats.logs c.take-entry.result (taken g c) in
    subst H c.self.view_is
    (hub-yields c.self.inside j c.args.input c.reserve.new.self.seats.logs c.take-entry.result _ _ (taken g c) (invariant_of-self-2 g c) refl (sym (ap (λ (e : Entry). e.effects) entry)))

pub returns-clause-few : goal.returns-clause-few
returns-clause-few g c =
    let i : Inside = c.self.inside in
    let j = after g c in
    let entry = entry-taken i j c.args.input c.reserve.new.self.seats.logs c.take-entry.result (taken g c) in
    let F : HubState → Type 0 = λ h. TellsFew h.scenario (entry_by h c.args.input (newest_seen (history_of j))).effects in
    let E : Entry → Type 0 = λ e. TellsFew i.scenario.value e.effects in
    let few = c.take-entry.ensures.few in
    let ports = c.self.invariant.machine.ports in
    let stamps = ap (λ (v : RolesView). length v.stamps) c.reserve.ensures.same ∙ c.self.invariant.machine.stamps in
    subst F c.self.view_is (subst E entry (subst (λ (n : ℕ). AreFew n (length i.scenario.value.clocks) c.take-entry.result.effects) ports (subst (λ (n : ℕ). AreFew i.machine.core.ports.len n c.take-entry.result.effects) stamps few)))

pub returns-clause-counted : goal.returns-clause-counted
returns-clause-counted g c =
    let i : Inside = c.self.inside in
    let more : IsRoomier i.machine.roles c.reserve.new.self = record { spare = c.reserve.new.self.seats.spare; same = c.reserve.ensures.same } in
    let due = subst (λ (h : HubState). IsDue h.scenario (state_of h.scenario h.entries) c.args.input) (sym c.self.view_is) c.requires.due in
    let counted = c.take-entry.ensures.counted i.scenario.value (history_of i) c.self.invariant.rules
    (machine-roomier i.scenario.value i.machine _ c.reserve.new.self c.self.invariant.machine more) due c.self.invariant.decided in
    let event_is = event-taken i (after g c) c.args.input c.reserve.new.self.seats.logs c.take-entry.result (taken g c) in
    let C : HubState → Type 0 = λ h. IsCountedAt h.scenario h.entries (event_at h c.args.input) c.args.steps.now c.take-entry.new.steps in
    subst C c.self.view_is (subst (λ (e : Event). IsCountedAt i.scenario.value (history_of i) e c.args.steps.now c.take-entry.new.steps) event_is counted)

pub returns-clause-most : goal.returns-clause-most
returns-clause-most g c =
    let h = c.args.self.now in
    let M : ℕ → Type 0 = λ n. c.take-entry.new.steps ≤ c.args.steps.now + few_comparisons h c.args.input + setting_cost n in
    subst M (between-length h.scenario h.entries (event_at h c.args.input)) (returns-clause-counted g c).counted
