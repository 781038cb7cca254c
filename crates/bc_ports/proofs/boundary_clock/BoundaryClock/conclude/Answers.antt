use Rattle.std.proofs.Common.{◌≡◌, ◌∙◌, List, Option, true, ap, rules, subst, sym}
use Rattle.ptp_profile.specs.declared.port_event.Fate.{Fate}
use Rattle.bc_history.specs.Phases.Inputs.{port_at}
use Rattle.bc_history.specs.Phases.PortPhase.{after_port, fate_at}
use Rattle.bc_history.specs.Phases.DecisionPhase.{raises_decision, with_decision}
use Rattle.bc_ports.specs.Representation.{CoreRepresents}
use Rattle.ptp_profile.specs.declared.port_best.PortBest.{PortBest}
use Rattle.ptp_profile.specs.Best.StateDecision.{bests_of}
use Rattle.bc_ports.proofs.lemmas.PortCodeLemmas.{bests-port_bests}
use Rattle.bc_ports.proofs.boundary_clock.BoundaryClock.conclude.Goals as goal

pub returns-then-outcome-clause-core : goal.returns-then-outcome-clause-core
returns-then-outcome-clause-core g c = λ o core before after y.
    let e = c.args.entry.now in
    let raised : c.args.outcome.now.raises ≡ true = search rules in
    let is : raises_decision (fate_at o e core) (port_at core.ports e.input.number) e.input.tick e.input.what ≡ true =
    ap (λ (f : Option Fate). raises_decision f (port_at core.ports e.input.number) e.input.tick e.input.what) (sym y.fate) ∙ (sym y.raises_is ∙ raised) in
    let R : Option Fate → Type 0 = λ f. CoreRepresents o c.rule.new.self (with_decision o f e.input.number (after_port o e core)) in
    rw is (subst R y.fate (c.rule.ensures.core o c.args.outcome.now.fate (after_port o e core) y.sender y.clock))

pub returns-then-outcome-clause-bests : goal.returns-then-outcome-clause-bests
returns-then-outcome-clause-bests g c = λ o core is.
    let raised : c.args.outcome.now.raises ≡ true = search rules in
    rw raised (ap (λ (xs : List PortBest). bests_of xs) (c.rule.ensures.bests o core is) ∙ bests-port_bests core.moment core.ports)
