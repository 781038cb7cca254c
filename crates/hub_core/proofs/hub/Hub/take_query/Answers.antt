use Rattle.std.proofs.Common.{None, ◌≡◌, ◌∙◌, ◌<◌, ◌+◌, ◌++◌, ◌∷◌, ℕ, List, [], length, refl, sym, ap, subst, arith}
use Rattle.std.proofs.lemmas.List.{length-reverse}
use Rattle.ptp_base.specs.declared.limits.TheConstants.{ENTRIES_MAX}
use Rattle.ptp_management.specs.ManagementQueries.{asked_by}
use Rattle.bc_history.specs.declared.entry.Entry.{Entry}
use Rattle.bc_history.specs.declared.entry.Input.TheVariants.{Query}
use Rattle.bc_history.specs.Phases.QueryAnswers.{answers_of, refusal_of}
use Rattle.bc_history.specs.Phases.Step.{state_of}
use Rattle.bc_history.specs.Run.NextInputs.{IsDue}
use Rattle.bc_ports.specs.declared.boundary_clock.BoundaryClock.{BoundaryClock}
use Rattle.pmc_query.specs.AnsweredSets.{answering}
use Rattle.hub_core.specs.EffectParts.{portless_effects}
use Rattle.hub_core.specs.HubView.{HubState, IsInWindow}
use Rattle.hub_core.specs.declared.hub.Hub.TheInside.{Inside}
use Rattle.hub_core.specs.declared.reply.Reply.{Reply}
use Rattle.hub_core.proofs.lemmas.HubLemmas.{hub-next, hub-yields}
use Rattle.hub_core.proofs.lemmas.QueryEntryLemmas.{HasReplied, query-taken, with_core}
use Rattle.hub_core.proofs.hub.Hub.take_query.Goals as goal

pub invariant_of-self-2 : goal.invariant_of-self-2
invariant_of-self-2 c =
    let i : Inside = c.self.inside in
    let j : Inside = record {
      alloc = i.alloc;
      scenario = i.scenario;
      machine = with_core i.machine c.advance_moment.new.self;
      entries = c.push.new.self;
      asked = i.asked + 1;
      sequence = c.next_sequence-sequence.result;
      windows = i.windows;
    } in
    let reply = c.in_ok-reply.reply in
    let text : c.items.result.now ≡ c.args.text = c.items.ensures in
    let replied : HasReplied i j c.args.tick c.args.text reply c.max-moment.result = record {
      scenario = refl;
      windows = refl;
      machine = refl;
      moment = c.max-moment.ensures;
      refused = c.in_ok-reply.ensures.asked ∙ ap (λ (x : List ℕ). refusal_of (asked_by x)) text;
      answered = λ requests same. c.in_ok-reply.ensures.answers requests same ∙ ap (λ (x : List ℕ). answers_of (answering i.machine.core.sets) requests (asked_by x)) text;
      next = λ query requests refused same. c.next_sequence-sequence.ensures query requests refused same;
      counted = refl;
      ports = ap (λ (n : BoundaryClock). n.ports.len) c.advance_moment.ensures.exact;
      sound = c.advance_moment.ensures.sound;
      clock = c.advance_moment.ensures.clock;
      bests = ap (λ (n : BoundaryClock). n.decider.bests) c.advance_moment.ensures.exact;
      entries = c.in_ok-push.ensures.ok ∙ ap (λ (e : Entry). i.entries ++ e ∷ []) c.query_entry.ensures;
    } in
    let taken = query-taken i j c.args.tick c.args.text reply c.max-moment.result c.self.invariant replied in
    let long = length-reverse i.entries in
    let few = subst (λ (h : HubState). length h.entries < ENTRIES_MAX) (sym c.self.view_is) c.requires.few in
    let due = subst (λ (h : HubState). IsDue h.scenario (state_of h.scenario h.entries) (Query c.args.tick c.args.text)) (sym c.self.view_is) c.requires.due in
    let within = subst (λ (h : HubState). IsInWindow h (Query c.args.tick c.args.text)) (sym c.self.view_is) c.requires.within in
    let next = hub-next i j (Query c.args.tick c.args.text) i.machine.roles.seats.logs _ c.self.invariant (omega (arith, long, few)) due within taken in
    next

pub returns-clause-yields : goal.returns-clause-yields
returns-clause-yields c =
    let i : Inside = c.self.inside in
    let j : Inside = record {
      alloc = i.alloc;
      scenario = i.scenario;
      machine = with_core i.machine c.advance_moment.new.self;
      entries = c.push.new.self;
      asked = i.asked + 1;
      sequence = c.next_sequence-sequence.result;
      windows = i.windows;
    } in
    let reply = c.in_ok-reply.reply in
    let text : c.items.result.now ≡ c.args.text = c.items.ensures in
    let replied : HasReplied i j c.args.tick c.args.text reply c.max-moment.result = record {
      scenario = refl;
      windows = refl;
      machine = refl;
      moment = c.max-moment.ensures;
      refused = c.in_ok-reply.ensures.asked ∙ ap (λ (x : List ℕ). refusal_of (asked_by x)) text;
      answered = λ requests same. c.in_ok-reply.ensures.answers requests same ∙ ap (λ (x : List ℕ). answers_of (answering i.machine.core.sets) requests (asked_by x)) text;
      next = λ query requests refused same. c.next_sequence-sequence.ensures query requests refused same;
      counted = refl;
      ports = ap (λ (n : BoundaryClock). n.ports.len) c.advance_moment.ensures.exact;
      sound = c.advance_moment.ensures.sound;
      clock = c.advance_moment.ensures.clock;
      bests = ap (λ (n : BoundaryClock). n.decider.bests) c.advance_moment.ensures.exact;
      entries = c.in_ok-push.ensures.ok ∙ ap (λ (e : Entry). i.entries ++ e ∷ []) c.query_entry.ensures;
    } in
    let taken = query-taken i j c.args.tick c.args.text reply c.max-moment.result c.self.invariant replied in
    let long = length-reverse i.entries in
    let few = subst (λ (h : HubState). length h.entries < ENTRIES_MAX) (sym c.self.view_is) c.requires.few in
    let due = subst (λ (h : HubState). IsDue h.scenario (state_of h.scenario h.entries) (Query c.args.tick c.args.text)) (sym c.self.view_is) c.requires.due in
    let within = subst (λ (h : HubState). IsInWindow h (Query c.args.tick c.args.text)) (sym c.self.view_is) c.requires.within in
    let next = hub-next i j (Query c.args.tick c.args.text) i.machine.roles.seats.logs _ c.self.invariant (omega (arith, long, few)) due within taken in
    hub-yields i j (Query c.args.tick c.args.text) i.machine.roles.seats.logs _ _ _ taken next c.self.view_is
    (c.query_effects.ensures ∙ ap (λ (x : Reply). portless_effects None x.asked x.answers) c.in_ok-told.ensures)
