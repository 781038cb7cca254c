use Rattle.std.proofs.Common.{◌≡◌, ◌∙◌, ◌<◌, List, length, map, ◌++◌, drop, take, ap, refl, sym, subst, arith, ℕ, Option, None}
use Rattle.std.specs.Prelude.{fold}
use Rattle.std.proofs.lemmas.List.{with_items_is}
use Rattle.ptp_base.specs.declared.announcement.Announcement.{Announcement}
use Rattle.ptp_base.specs.declared.code.Code.{Code}
use Rattle.ptp_base.specs.declared.limits.TheConstants.{STEPS_END}
use Rattle.ptp_profile.specs.declared.port_best.PortBest.{PortBest}
use Rattle.ptp_profile.specs.Best.MasterData.{after_code}
use Rattle.ptp_profile.specs.Best.StateDecision.{bests_of, codes_of}
use Rattle.ptp_profile.specs.Best.ForeignMasters.{ebest}
use Rattle.data_sets.specs.DataSetsView.{master_in}
use Rattle.bc_history.specs.declared.scenario.Options.{Options}
use Rattle.bc_history.specs.Phases.DecisionPhase.{with_code}
use Rattle.bc_history.specs.Phases.OpeningState.{local_announcement}
use Rattle.bc_history.specs.Phases.State.{Core}
use Rattle.bc_ports.specs.Representation.{ArePortsOf, CoreRepresents, PortsRepresent}
use Rattle.bc_ports.specs.DecisionScratch.{IsNear, port_bests}
use Rattle.bc_ports.specs.declared.boundary_clock.BoundaryClock.{BoundaryClock}
use Rattle.bc_ports.specs.declared.hub_port.HubPort.{HubPort as KeptPort}
use Rattle.bc_ports.proofs.lemmas.PortCodeLemmas.{fold-has}
use Rattle.bc_ports.proofs.lemmas.DecisionLemmas.{decided-core}
use Rattle.bc_ports.proofs.boundary_clock.BoundaryClock.decide.Given.{Over}
use Rattle.bc_ports.proofs.boundary_clock.BoundaryClock.decide.Goals as goal

pub apply_codes-requires : goal.apply_codes-requires
apply_codes-requires g c =
    let P : Option Announcement → Type 0 = λ b. IsNear b in
    subst P (sym c.ebest-best.ensures) (fold-has (λ (a : Announcement). a.steps < STEPS_END) None c.set_bests.new.self.decider.bests tt c.set_bests.ensures.near)

-- the ports and the codes as the vectors have them
ports_are : (g : Over) (c : goal.After-self-2-1 g) → take c.set_bests.new.self.ports.len (c.decide_ports.new.ports ++ drop (length c.decide_ports.new.ports) c.set_bests.new.self.ports.items) ≡ c.decide_ports.new.ports
ports_are g c = with_items_is c.set_bests.new.self.ports c.decide_ports.new.ports (omega (arith, c.decide_ports.ensures.length, c.deref_mut-2.ensures.len))

codes_are : (g : Over) (c : goal.After-self-2-1 g) → take c.set_bests.new.self.scratch.codes.len (c.codes.new.out ++ drop (length c.codes.new.out) c.set_bests.new.self.scratch.codes.items) ≡ c.codes.new.out
codes_are g c = with_items_is c.set_bests.new.self.scratch.codes c.codes.new.out (omega (arith, c.codes.auto.out, c.deref_mut.ensures.len))

-- the clock once each port's best was set
heard : (g : Over) (c : goal.After-self-2-1 g) (o : Options) (core : Core) → CoreRepresents o c.args.self.now core → CoreRepresents o c.set_bests.new.self core
heard g c o core is =
    let C : BoundaryClock → Type 0 = λ n. CoreRepresents o n core in
    subst C (sym c.set_bests.ensures.same) (record { moment = is.moment; clock = is.clock; master = is.master; own = is.own; numbers = is.numbers; ports = is.ports })

pub returns-clause-core : goal.returns-clause-core
returns-clause-core g c = λ o core was.
    let now = c.set_bests.new.self in
    let is = heard g c o core was in
    let n = o.delay_filter_length in
    let m = now.moment in
    let d = now.sets in
    let hs = core.ports in
    let own = local_announcement o in
    let best = c.ebest-best.result in
    let A : List KeptPort → Type 0 = λ qs. PortsRepresent n m qs hs in
    let bests : now.decider.bests ≡ port_bests m hs = c.set_bests.ensures.bests o core was ∙ ap (λ (k : ℕ). port_bests k hs) (sym is.moment) in
    let best_is = c.ebest-best.ensures ∙ ap (λ (x : List PortBest). ebest (bests_of x)) bests in
    let codes_is : c.codes.new.out ≡ codes_of own (port_bests m hs) =
    c.codes.ensures.codes ∙ (ap (λ (a : Announcement). codes_of a now.decider.bests) is.own ∙ ap (λ (x : List PortBest). codes_of own x) bests) in
    let codes_2 = c.deref.ensures.value ∙ codes_are g c in
    let codes_3 = c.deref-2.ensures.value ∙ codes_are g c in
    let applied_is = c.apply_codes.ensures.master o is.clock ∙ ap (λ (x : List Code). fold (after_code own best) (master_in d) x) codes_2 in
    let N : List KeptPort → Type 0 = λ qs. ArePortsOf o 1 qs in
    let numbers = subst N (sym (ports_are g c)) (c.decide_ports.ensures.of o (subst N (sym c.deref_mut-2.ensures.value) is.numbers)) in
    decided-core o now _ core best c.codes.new.out is best_is codes_is refl refl (c.apply_codes.ensures.clock o is.clock) numbers applied_is
    (λ with. let P : List KeptPort → Type 0 = λ qs. PortsRepresent n m qs (map (with_code own m best d.parent c.apply_codes.new.sets.steps) hs) in
    subst P (sym (ports_are g c)) (c.decide_ports.ensures.ports n own best d.parent hs c.is_new_parent-is_new.ensures (codes_3 ∙ with) (subst A (sym c.deref_mut-2.ensures.value) is.ports)))
