use Rattle.std.proofs.Common.{◌≡◌, ◌∙◌, List, ap, sym, subst}
use Rattle.bc_history.specs.declared.entry.Input.{Input}
use Rattle.bc_history.specs.Phases.Step.{state_of}
use Rattle.ptp_profile.specs.Best.StateDecision.{bests_of}
use Rattle.ptp_profile.specs.declared.port_best.PortBest.{PortBest}
use Rattle.bc_history.specs.declared.entry.Entry.{Entry}
use Rattle.bc_history.specs.Phases.Inputs.{event_of, port_of}
use Rattle.bc_history.specs.Phases.State.{Event}
use Rattle.hub_core.specs.HubParts.{PartsYield}
use Rattle.hub_core.proofs.lemmas.DecisionHistoryLemmas.{bests-stay, event-after, uncounted}
use Rattle.hub_core.proofs.lemmas.PortlessEntryLemmas.{portless}
use Rattle.hub_core.proofs.lemmas.HubLemmas.{own-due}
use Rattle.hub_core.proofs.lemmas.PortEntryLemmas.{history-again}
use Rattle.hub_core.proofs.hub_parts.HubParts.take.Goals as goal

pub returns-else-is_of_follower-clause-served : goal.returns-else-is_of_follower-clause-served
returns-else-is_of_follower-clause-served g c = λ s entries rules machine due.
    let p = c.port_input.result in
    let yields = c.serve.ensures.served s entries rules machine (own-due s (state_of s entries) c.args.input p c.port_input.ensures due) in
    let Y : Input → Type 0 = λ x. PartsYield s entries c.args.self.now.roles.seats.logs x c.serve.new.self c.serve.result in
    subst Y (history-again c.args.input p c.port_input.ensures) yields

pub returns-else-is_of_follower-clause-bests : goal.returns-else-is_of_follower-clause-bests
returns-else-is_of_follower-clause-bests g c = λ s entries rules machine due was.
    let p = c.port_input.result in
    c.serve.ensures.bests s entries rules machine (own-due s (state_of s entries) c.args.input p c.port_input.ensures due) was

pub returns-else-is_of_follower-clause-counted : goal.returns-else-is_of_follower-clause-counted
returns-else-is_of_follower-clause-counted g c = λ s entries rules machine due was.
    let p = c.port_input.result in
    c.serve.ensures.counted s entries rules machine (own-due s (state_of s entries) c.args.input p c.port_input.ensures due) was

pub returns-then-is_of_follower-clause-bests : goal.returns-then-is_of_follower-clause-bests
returns-then-is_of_follower-clause-bests g c = λ s entries rules machine due was.
    let served = c.follow.ensures.served s entries rules machine due in
    let input : c.follow.result.input ≡ c.args.input = ap (λ (e : Entry). (event_of e).input) served.entry_is ∙ ap (λ (e : Event). e.input) (event-after s entries c.args.input _) in
    let own = portless c.args.input (sym c.is_of_follower.ensures ∙ c.if-is_of_follower.true) in
    ap (λ (bests : List PortBest). bests_of bests) c.follow.ensures.bests ∙ (was ∙ sym (bests-stay s entries c.follow.result (ap port_of input ∙ own)))

pub returns-then-is_of_follower-clause-counted : goal.returns-then-is_of_follower-clause-counted
returns-then-is_of_follower-clause-counted g c = λ s entries rules machine due was. uncounted _ _ _ _ _
