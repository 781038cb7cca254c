use Rattle.std.proofs.Common.{◌≡◌, ◌∙◌, List, length, ap, arith, refl, subst, sym}
use Rattle.ptp_base.specs.declared.port_conf.PortConf.{PortConf}
use Rattle.data_sets.specs.declared.data_sets.DataSets.{DataSets}
use Rattle.data_sets.specs.declared.port_set.PortSet.{PortSet}
use Rattle.bc_history.specs.declared.scenario.Options.{Options}
use Rattle.bc_history.specs.declared.scenario.Scenario.{Scenario}
use Rattle.bc_history.specs.Phases.OpeningState.{local_announcement}
use Rattle.bc_ports.specs.OpenPorts.{ArePortsFrom, port_sets_from}
use Rattle.bc_ports.specs.declared.boundary_clock.BoundaryClock.{BoundaryClock}
use Rattle.std.proofs.lemmas.List.{length-replicate}
use Rattle.ptp_profile.specs.declared.port_best.PortBest.{PortBest}
use Rattle.ptp_profile.specs.Best.StateDecision.{bests_of}
use Rattle.state_decision.specs.DeciderView.{unset}
use Rattle.bc_ports.proofs.lemmas.OpenPortLemmas.{bests-opened, clock_opened, own_sets, port_sets_from-length}
use Rattle.bc_ports.proofs.boundary_clock.BoundaryClock.new.Goals as goal

pub returns-clause-clock : goal.returns-clause-clock
returns-clause-clock c =
    let s : Scenario = c.args.s.now in
    let options : c.s.inside.options ≡ s.options = ap (λ (x : Scenario). x.options) c.s.view_is in
    let confs : c.items.result.now ≡ s.ports = c.items.ensures ∙ ap (λ (x : Scenario). x.ports) c.s.view_is in
    let confs_2 : c.items-2.result.now ≡ s.ports = c.items-2.ensures ∙ ap (λ (x : Scenario). x.ports) c.s.view_is in
    let S : Options → List PortConf → Type 0 = λ o cs. c.in_ok-sets.sets ≡ port_sets_from o 1 cs in
    let P : Options → List PortConf → Type 0 = λ o cs. ArePortsFrom o 1 c.in_ok-open_ports.field-0.items cs in
    let D : Options → Type 0 = λ o. c.new.result ≡ own_sets o c.local_announcement-own.result c.in_ok-sets.sets in
    let n : BoundaryClock = record { moment = 0; sets = c.new.result; ports = c.in_ok-open_ports.field-0; scratch = c.in_ok-with.field-0; decider = c.in_ok-new.field-0 } in
    clock_opened s c.local_announcement-own.result c.in_ok-sets.sets c.new.result n (c.local_announcement-own.ensures ∙ ap (λ (o : Options). local_announcement o) options)
    (subst (λ (o : Options). S o s.ports) options (subst (S c.s.inside.options) confs c.in_ok-sets.ensures))
    (subst D options c.new.ensures)
    (subst (λ (o : Options). P o s.ports) options (subst (P c.s.inside.options) confs_2 c.in_ok-open_ports.ensures.ports)) refl c.in_ok-new.ensures.own

pub returns-clause-sound : goal.returns-clause-sound
returns-clause-sound c =
    let s : Scenario = c.args.s.now in
    let confs : c.items.result.now ≡ s.ports = c.items.ensures ∙ ap (λ (x : Scenario). x.ports) c.s.view_is in
    let confs_2 : c.items-2.result.now ≡ s.ports = c.items-2.ensures ∙ ap (λ (x : Scenario). x.ports) c.s.view_is in
    let ports : c.in_ok-open_ports.field-0.len ≡ length s.ports = c.in_ok-open_ports.ensures.length ∙ ap (λ (ps : List PortConf). length ps) confs_2 in
    let places : c.len.result ≡ length s.ports = c.len.ensures ∙ ap (λ (x : Scenario). length x.ports) c.s.view_is in
    let count : c.len-2.result ≡ length s.ports = c.len-2.ensures ∙ ap (λ (x : Scenario). length x.ports) c.s.view_is in
    let sets : length c.in_ok-sets.sets ≡ length s.ports =
    ap (λ (x : List PortSet). length x) c.in_ok-sets.ensures ∙ (port_sets_from-length c.s.inside.options 1 c.items.result.now ∙ ap (λ (ps : List PortConf). length ps) confs) in
    record {
      few = let most = c.rules.ensures.port_count.1 in omega (arith, ports, most);
      early = omega arith;
      sets = ap (λ (d : DataSets). length d.ports) c.new.ensures ∙ (sets ∙ sym ports);
      bests = let room = c.in_ok-with.ensures.bests in omega (arith, ports, places, room);
      codes = c.in_ok-with.ensures.codes ∙ (places ∙ sym ports);
      states = let room = c.in_ok-with.ensures.states in omega (arith, ports, places, room);
      decided = ap (λ (xs : List PortBest). length xs) c.in_ok-new.ensures.bests ∙ (length-replicate c.len-2.result unset ∙ (count ∙ sym ports));
    }

pub returns-clause-bests : goal.returns-clause-bests
returns-clause-bests c =
    let s : Scenario = c.args.s.now in
    let count : c.len-2.result ≡ length s.ports = c.len-2.ensures ∙ ap (λ (x : Scenario). length x.ports) c.s.view_is in
    ap (λ (xs : List PortBest). bests_of xs) c.in_ok-new.ensures.bests ∙ bests-opened s.ports c.len-2.result count
