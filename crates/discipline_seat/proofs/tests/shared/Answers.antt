use Rattle.std.proofs.Common.{◌≡◌, ap, sym, subst, arith}
use Rattle.ptp_profile.specs.Roles.SeatLogs.{HasOrder}
use Rattle.discipline_seat.specs.SeatValue.{SeatValue}
use Rattle.discipline_seat.specs.SeatCalls.{IsNewHub}
use Rattle.discipline_seat.specs.declared.view.View.{View}
use Rattle.discipline_seat.specs.Rule.SeatLog.{SeatLog}
use Rattle.discipline_seat.proofs.lemmas.HeldOrderLemmas.{met_ordered, new_ordered, then_ordered, first_forest, still_has, first_has}
use Rattle.discipline_seat.proofs.tests.shared.Goals as goal

pub order-receipt-requires-clause-forest : goal.order-receipt-requires-clause-forest
order-receipt-requires-clause-forest c =
    let is : c.reserve.new.self.view ≡ c.in_ok-seats.hub.view = ap (λ (p : SeatValue). p.view) c.in_ok-reserve.ensures.same in
    first_forest c.reserve.new.self.view 0 1 (omega arith) (subst (λ (v : View). IsNewHub 2 v c.in_ok-seats.passes.made) (sym is) c.in_ok-seats.ensures.ordered).nothing

pub returns-clause-order : goal.returns-clause-order
returns-clause-order c =
    let met = c.meet.ensures.met 0 in
    let made = c.order-receipt.ensures.ordered in
    let ordered = subst (λ (l : SeatLog). HasOrder l 1 1) (sym made.is) (first_has 1 1 made.log) in
    subst (λ (l : SeatLog). HasOrder l 1 1) (sym met.2) (still_has _ _ 1 1 met.0 ordered)

pub returns-clause-ordered : goal.returns-clause-ordered
returns-clause-ordered c =
    let is : c.reserve.new.self.view ≡ c.in_ok-seats.hub.view = ap (λ (p : SeatValue). p.view) c.in_ok-reserve.ensures.same in
    let new = subst (λ (v : View). IsNewHub 2 v c.in_ok-seats.passes.made) (sym is) c.in_ok-seats.ensures.ordered in
    let first = then_ordered _ _ 0 0 0 1 1 _ (new_ordered _ _ _ new) c.order-receipt.ensures.same c.order-receipt.ensures.ordered in
    met_ordered _ _ 1 1 1 first c.meet.ensures.hub_owner c.meet.ensures.orders
