use Rattle.std.proofs.Common.{◌≡◌, refl, subst, sym}
use Rattle.bc_history.specs.Phases.OpeningState.{opening}
use Rattle.bc_history.specs.Scenario.ScenarioRules.{IsScenario}
use Rattle.bc_history.specs.declared.scenario.Scenario.{Scenario}
use Rattle.hub_core.specs.HubParts.{PartsRepresent}
use Rattle.ptp_profile.specs.Best.StateDecision.{bests_of}
use Rattle.bc_ports.specs.DecisionCost.{no_bests}
use Rattle.hub_core.proofs.lemmas.HubLemmas.{hub-opened}
use Rattle.hub_core.proofs.hub.Hub.new.Goals as goal

pub invariant_of-result : goal.invariant_of-result
invariant_of-result c =
    let S : Scenario → Type 0 = λ s. IsScenario s in
    let B : Scenario → Type 0 = λ s. bests_of c.in_ok-new.field-0.core.decider.bests ≡ no_bests s.ports in
    let M : Scenario → Type 0 = λ s. PartsRepresent s c.in_ok-new.field-0 (opening s) in
    hub-opened _ c.new-2.ensures (subst S (sym c.of.ensures) c.rules.ensures) (subst M (sym c.of.ensures) c.in_ok-new.ensures.machine) c.in_ok-new.ensures.gener refl refl c.none.ensures (subst B (sym c.of.ensures) c.in_ok-new.ensures.bests)
