use Rattle.std.proofs.Common.{◌≡◌, ◌∙◌, ℕ, suc, ◌+◌, Bool, true, false, cond, List, [], ◌∷◌, drop, ap, sym, arith, Option, Some}
use Rattle.std.specs.Prelude.{unwrap_or}
use Rattle.std.specs.List.{position_from}
use Rattle.ptp_profile.specs.Port.PortStates.{is_slave}
use Rattle.bc_history.specs.Phases.RolePhase.{states_of}
use Rattle.bc_history.specs.Phases.HubPort.{HubPort}
use Rattle.bc_ports.proofs.lemmas.RepresentationLemmas.{PortsRepresent-next, PortsRepresent-end}
use Rattle.bc_ports.proofs.moment.slave_port.Goals as goal

-- the port at the place is in SLAVE, or it is looked for behind it
found : (hs : List HubPort) (place : ℕ) (h : HubPort) (is : Bool) → drop place hs ≡ h ∷ drop (suc place) hs → is_slave h.port.state ≡ is
    → position_from is_slave (place + 1) (states_of (drop place hs)) ≡ cond is (Some (place + 1)) (position_from is_slave (place + 1 + 1) (states_of (drop (suc place) hs)))
found hs place h is next state =
    ap (λ (xs : List HubPort). position_from is_slave (place + 1) (states_of xs)) next
    ∙ ap (λ (b : Bool). cond b (Some (place + 1)) (position_from is_slave (place + 1 + 1) (states_of (drop (suc place) hs)))) state

pub returns-then-is_slave : goal.returns-then-is_slave
returns-then-is_slave c = λ n m hs all.
    let place = c.loop-place.place in
    let next = PortsRepresent-next n m c.args.ports.now hs place _ all c.loop-place-test.true c.index-ports-place.is in
    let state = ap is_slave (sym next.2.engine.state) ∙ ap is_slave (sym c.state.ensures) ∙ sym c.is_slave.ensures ∙ c.if-is_slave.true in
    sym (ap (λ (p : Option ℕ). unwrap_or p 0) (c.loop-place.invariant.searched n m hs all ∙ found hs place next.0 true next.1 state))

pub loop-place-preserved : goal.loop-place-preserved
loop-place-preserved c = record {
  searched = λ n m hs all.
      let place = c.loop-place.place in
      let next = PortsRepresent-next n m c.args.ports.now hs place _ all c.loop-place-test.true c.index-ports-place.is in
      let state = ap is_slave (sym next.2.engine.state) ∙ ap is_slave (sym c.state.ensures) ∙ sym c.is_slave.ensures ∙ c.if-is_slave.false in
      let one : suc place ≡ place + 1 = omega arith in
      c.loop-place.invariant.searched n m hs all ∙ found hs place next.0 false next.1 state
      ∙ ap (λ (k : ℕ). position_from is_slave (place + 1 + 1) (states_of (drop k hs))) one;
}

pub returns : goal.returns
returns c = λ n m hs all.
    let end : drop c.loop-place.place hs ≡ [] = PortsRepresent-end n m c.args.ports.now hs c.loop-place.place all c.loop-place-test.false in
    sym (ap (λ (p : Option ℕ). unwrap_or p 0) (c.loop-place.invariant.searched n m hs all ∙ ap (λ (xs : List HubPort). position_from is_slave (c.loop-place.place + 1) (states_of xs)) end))
