use Rattle.std.proofs.Common.{◌≡◌, ◌∙◌, ◌-◌, ◌+◌, ◌*◌, ◌≤◌, ◌<◌, suc, List, [], ◌∷◌, ◌++◌, drop, length, refl, ap, sym, arith, add-one, append_assoc, length-append, Option}
use Rattle.std.proofs.lemmas.List.{append-nil}
use Rattle.std.proofs.lemmas.List.Elements.{All-push}
use Rattle.ptp_base.specs.Room.{Reserved}
use Rattle.ptp_base.specs.declared.port_state.PortState.{PortState}
use Rattle.ptp_base.specs.declared.announcement.Announcement.{Announcement}
use Rattle.bc_history.specs.Phases.DecisionPhase.{best_of}
use Rattle.ptp_profile.specs.declared.port_best.PortBest.{PortBest}
use Rattle.bc_history.specs.Phases.HubPort.{HubPort}
use Rattle.bc_ports.specs.DecisionScratch.{IsNear, port_bests}
use Rattle.bc_ports.proofs.lemmas.RepresentationLemmas.{PortsRepresent-next, PortsRepresent-end}
use Rattle.bc_ports.specs.DecisionCost.{passing}
use Rattle.bc_ports.proofs.lemmas.DecisionCostLemmas.{passing-step}
use Rattle.bc_ports.proofs.decision.push_bests.Goals as goal

abbrev hears : PortState → Option Announcement → PortBest
hears s b = record { state = s; best = b }

same_best : (s t : PortState) (b d : Option Announcement) → s ≡ t → b ≡ d → hears s b ≡ hears t d
same_best s t b d state best = rw (state, best) refl

pub loop-port-preserved : goal.loop-port-preserved
loop-port-preserved g c =
    let done : List PortBest = c.loop-port.out.items in
    let one : PortBest = record { state = c.state.result; best = c.best.result } in
    let items : c.push.new.self.items ≡ done ++ one ∷ [] = ap (λ (r : Reserved PortBest). r.items) c.push.ensures in
    let spare : c.push.new.self.spare ≡ c.loop-port.out.spare - 1 = ap (λ (r : Reserved PortBest). r.spare) c.push.ensures in
    record {
      room = omega (arith, spare, c.loop-port.invariant.room);
      spare = let before = c.loop-port.invariant.spare in rw items (simp length-append (omega (arith, spare, before)));
      count = rw items (simp length-append (omega (arith, c.loop-port.invariant.count)));
      bests = λ n hs all.
          let lt : c.loop-port.port-index < length c.args.ports.now = omega arith in
          let nx = PortsRepresent-next n c.args.moment c.args.ports.now hs c.loop-port.port-index _ all lt c.port-item.is in
          let rest : List PortBest = port_bests c.args.moment (drop (suc c.loop-port.port-index) hs) in
          let is : one ≡ hears nx.0.port.state (best_of c.args.moment nx.0) = same_best _ _ _ _ (c.state.ensures ∙ nx.2.engine.state) (c.best.ensures.best n nx.0 nx.2) in
          rw (add-one, items, append_assoc) (ap (λ (x : PortBest). done ++ (x ∷ rest)) is ∙ (ap (λ (xs : List HubPort). done ++ port_bests c.args.moment xs) (sym nx.1) ∙ c.loop-port.invariant.bests n hs all));
      counted = λ n hs all.
          let lt : c.loop-port.port-index < length c.args.ports.now = omega arith in
          let nx = PortsRepresent-next n c.args.moment c.args.ports.now hs c.loop-port.port-index _ all lt c.port-item.is in
          let rest : List HubPort = drop (suc c.loop-port.port-index) hs in
          let step : c.best.new.steps + 15 * passing c.args.moment rest ≤ c.loop-port.steps + 15 * passing c.args.moment (nx.0 ∷ rest) =
          passing-step c.args.moment nx.0 rest c.loop-port.steps c.best.new.steps (c.best.ensures.settled n nx.0 nx.2) c.best.ensures.counted in
          let so_far = c.loop-port.invariant.counted n hs all in
          let head : passing c.args.moment (drop c.loop-port.port-index hs) ≡ passing c.args.moment (nx.0 ∷ rest) = ap (λ (xs : List HubPort). passing c.args.moment xs) nx.1 in
          rw add-one (omega (arith, step, so_far, head));
      near = rw items (All-push (λ (b : PortBest). IsNear b.best) done one c.loop-port.invariant.near c.best.ensures.near);
    }

pub returns-clause-counted : goal.returns-clause-counted
returns-clause-counted g c = λ n hs all.
    let so_far = c.loop-port.invariant.counted n hs all in
    omega (arith, so_far)

pub returns-clause-bests : goal.returns-clause-bests
returns-clause-bests g c = λ n hs all.
    let end : drop c.loop-port.port-index hs ≡ [] = PortsRepresent-end n c.args.moment c.args.ports.now hs c.loop-port.port-index all (omega arith) in
    let done : List PortBest = c.loop-port.out.items in
    sym (append-nil done) ∙ (ap (λ (xs : List HubPort). done ++ port_bests c.args.moment xs) (sym end) ∙ c.loop-port.invariant.bests n hs all)
