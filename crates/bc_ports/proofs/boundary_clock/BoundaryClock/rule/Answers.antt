use Rattle.std.proofs.Common.{◌≡◌, ◌∙◌, ap, sym, List, Option, subst}
use Rattle.ptp_base.specs.declared.identity.PortId.{PortId}
use Rattle.bc_history.specs.Phases.OpeningState.{local_announcement}
use Rattle.bc_history.specs.Phases.DecisionPhase.{best_among, with_codes}
use Rattle.bc_ports.specs.ClockYield.{IsKeptAt}
use Rattle.ptp_profile.specs.declared.port_best.PortBest.{PortBest}
use Rattle.ptp_profile.specs.Best.StateDecision.{bests_of}
use Rattle.bc_ports.specs.DecisionCost.{bests_at}
use Rattle.bc_ports.proofs.lemmas.PortCodeLemmas.{bests-port_bests}
use Rattle.bc_ports.proofs.lemmas.BoundaryClockLemmas.{bests-with_codes, heard-decided}
use Rattle.bc_ports.proofs.boundary_clock.BoundaryClock.rule.Goals as goal

pub returns-in-Some-clause-core : goal.returns-in-Some-clause-core
returns-in-Some-clause-core g c = λ o fate core kept is.
    let own = local_announcement o in
    let best = best_among core.moment core.ports in
    let P : Option PortId → Type 0 = λ s. IsKeptAt c.args.number fate s core.ports in
    let k = subst P c.in-Some.is kept in
    let bests : bests_at (with_codes own best core).moment (with_codes own best core).ports ≡ bests_of c.decide.new.self.decider.bests = bests-with_codes own best core ∙ (sym (bests-port_bests core.moment core.ports) ∙ ap (λ (xs : List PortBest). bests_of xs) (sym (c.decide.ensures.bests o core is))) in
    rw k.0 (c.renew.ensures.core o (with_codes own best core) (heard-decided own best core c.args.number c.in-Some.sender k.1) bests (c.decide.ensures.core o core is))
