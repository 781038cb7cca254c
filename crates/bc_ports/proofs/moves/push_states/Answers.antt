use Rattle.std.proofs.Common.{◌≡◌, ◌∙◌, ◌-◌, ◌<◌, suc, List, [], ◌∷◌, ◌++◌, drop, length, ap, sym, arith, add-one, append_assoc, length-append}
use Rattle.std.proofs.lemmas.List.{append-nil}
use Rattle.ptp_base.specs.Room.{Reserved}
use Rattle.ptp_base.specs.declared.port_state.PortState.{PortState}
use Rattle.bc_history.specs.Phases.RolePhase.{states_of}
use Rattle.bc_history.specs.Phases.HubPort.{HubPort}
use Rattle.bc_ports.proofs.lemmas.RepresentationLemmas.{PortsRepresent-next, PortsRepresent-end}
use Rattle.bc_ports.proofs.moves.push_states.Goals as goal

pub loop-port-preserved : goal.loop-port-preserved
loop-port-preserved c =
    let done : List PortState = c.loop-port.out.items in
    let one : PortState = c.state.result in
    let items : c.push.new.self.items ≡ done ++ one ∷ [] = ap (λ (r : Reserved PortState). r.items) c.push.ensures in
    let spare : c.push.new.self.spare ≡ c.loop-port.out.spare - 1 = ap (λ (r : Reserved PortState). r.spare) c.push.ensures in
    record {
      room = omega (arith, spare, c.loop-port.invariant.room);
      count = rw items (simp length-append (omega (arith, c.loop-port.invariant.count)));
      states = λ n m hs all.
          let lt : c.loop-port.port-index < length c.args.ports.now = omega arith in
          let nx = PortsRepresent-next n m c.args.ports.now hs c.loop-port.port-index _ all lt c.port-item.is in
          let rest : List PortState = states_of (drop (suc c.loop-port.port-index) hs) in
          let is : one ≡ nx.0.port.state = c.state.ensures ∙ nx.2.engine.state in
          rw (add-one, items, append_assoc) (ap (λ (x : PortState). done ++ (x ∷ rest)) is ∙ (ap (λ (xs : List HubPort). done ++ states_of xs) (sym nx.1) ∙ c.loop-port.invariant.states n m hs all));
    }

pub returns-clause-states : goal.returns-clause-states
returns-clause-states c = λ n m hs all.
    let end : drop c.loop-port.port-index hs ≡ [] = PortsRepresent-end n m c.args.ports.now hs c.loop-port.port-index all (omega arith) in
    let done : List PortState = c.loop-port.out.items in
    sym (append-nil done) ∙ (ap (λ (xs : List HubPort). done ++ states_of xs) (sym end) ∙ c.loop-port.invariant.states n m hs all)
