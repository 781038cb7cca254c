use Rattle.std.proofs.Common.{◌≡◌, ◌∙◌, ℕ, ◌+◌, ◌*◌, ◌≤◌, List, length, ap, sym, subst, arith}
use Rattle.std.specs.Prelude.{All}
use Rattle.ptp_profile.specs.declared.port_best.PortBest.{PortBest}
use Rattle.ptp_profile.specs.Best.StateDecision.{bests_of}
use Rattle.state_decision.specs.DeciderView.{DeciderView}
use Rattle.bc_history.specs.declared.scenario.Options.{Options}
use Rattle.bc_history.specs.Phases.State.{Core}
use Rattle.bc_ports.specs.DecisionCost.{passing, setting_cost}
use Rattle.bc_ports.specs.DecisionScratch.{IsNear, port_bests}
use Rattle.bc_ports.specs.Representation.{CoreRepresents, PortsRepresent}
use Rattle.bc_ports.specs.declared.hub_port.HubPort.{HubPort as KeptPort}
use Rattle.bc_ports.proofs.lemmas.PortCodeLemmas.{bests-port_bests}
use Rattle.bc_ports.proofs.boundary_clock.BoundaryClock.set_bests.Given.{Over}
use Rattle.bc_ports.proofs.boundary_clock.BoundaryClock.set_bests.Goals as goal

-- what the ports hear
heard_is : (g : Over) (c : goal.After-set_bests g) → c.set_bests.new.decider.bests ≡ c.push_bests.new.out.items
heard_is g c = ap (λ (d : DeciderView). d.bests) c.set_bests.ensures.bests ∙ c.items.ensures

-- is what those of the history hear
bests_are : (g : Over) (c : goal.After-set_bests g) (o : Options) (core : Core) → CoreRepresents o c.args.self.now core → c.push_bests.new.out.items ≡ port_bests core.moment core.ports
bests_are g c o core is =
    let P : List KeptPort → Type 0 = λ qs. PortsRepresent o.delay_filter_length c.args.self.now.moment qs core.ports in
    c.push_bests.ensures.bests o.delay_filter_length core.ports (subst P (sym c.deref.ensures.value) is.ports) ∙ ap (λ (m : ℕ). port_bests m core.ports) is.moment

counted : (g : Over) (c : goal.After-set_bests g) (o : Options) (core : Core) → CoreRepresents o c.args.self.now core
    → c.push_bests.new.steps ≤ c.args.steps.now + 15 * passing core.moment core.ports
counted g c o core is =
    let P : List KeptPort → Type 0 = λ qs. PortsRepresent o.delay_filter_length c.args.self.now.moment qs core.ports in
    let C : ℕ → Type 0 = λ m. c.push_bests.new.steps ≤ c.args.steps.now + 15 * passing m core.ports in
    subst C is.moment (c.push_bests.ensures.counted o.delay_filter_length core.ports (subst P (sym c.deref.ensures.value) is.ports))

pub returns-clause-near : goal.returns-clause-near
returns-clause-near g c =
    let P : List PortBest → Type 0 = λ bests. All (λ (b : PortBest). IsNear b.best) bests in
    subst P (sym (heard_is g c)) c.push_bests.ensures.near

pub returns-clause-bests : goal.returns-clause-bests
returns-clause-bests g c = λ o core is. heard_is g c ∙ bests_are g c o core is

pub returns-clause-same_bests : goal.returns-clause-same_bests
returns-clause-same_bests g c = λ o core is same.
    let heard : bests_of c.items.result.now ≡ bests_of c.args.self.now.decider.bests =
    ap (λ (bests : List PortBest). bests_of bests) (c.items.ensures ∙ bests_are g c o core is) ∙ bests-port_bests core.moment core.ports ∙ same in
    let quiet = c.set_bests.ensures.same_bests heard in
    let few = counted g c o core is in
    omega (arith, quiet, few)

pub returns-clause-counted : goal.returns-clause-counted
returns-clause-counted g c = λ o core is.
    let few = counted g c o core is in
    let many = c.set_bests.ensures.counted in
    let long : length c.items.result.now ≡ c.args.self.now.ports.len = ap (λ (xs : List PortBest). length xs) c.items.ensures ∙ c.push_bests.ensures.length ∙ c.deref.ensures.len in
    let M : ℕ → Type 0 = λ n. c.set_bests.new.steps ≤ c.push_bests.new.steps + setting_cost n in
    let most = subst M long many in
    omega (arith, few, most)
