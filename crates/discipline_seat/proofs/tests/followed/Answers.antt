use Rattle.std.proofs.Common.{◌≡◌, ◌∙◌, ap, sym, subst}
use Rattle.ptp_profile.specs.Roles.SeatLogs.{HasOrder}
use Rattle.discipline_seat.specs.SeatValue.{SeatValue}
use Rattle.discipline_seat.specs.SeatCalls.{IsNewHub}
use Rattle.discipline_seat.specs.declared.view.View.{View}
use Rattle.discipline_seat.specs.Rule.SeatLog.{SeatLog}
use Rattle.discipline_seat.proofs.lemmas.HeldOrderLemmas.{met_ordered, new_ordered, then_ordered, copy_forest, still_has, first_has, second_new}
use Rattle.discipline_seat.proofs.tests.followed.Goals as goal

pub order-receipt-requires-clause-forest : goal.order-receipt-requires-clause-forest
order-receipt-requires-clause-forest c =
    let is : c.reserve.new.self.view ≡ c.in_ok-seats.hub.view = ap (λ (p : SeatValue). p.view) c.in_ok-reserve.ensures.same in
    copy_forest c.reserve.new.self.view (subst (λ (v : View). IsNewHub 1 v c.in_ok-seats.passes.made) (sym is) c.in_ok-seats.ensures.ordered).nothing

pub returns-clause-order : goal.returns-clause-order
returns-clause-order c =
    let met = c.meet.ensures.met 0 in
    let made = c.order-receipt.ensures.ordered in
    let ordered = subst (λ (l : SeatLog). HasOrder l 2 129) (sym made.is) (first_has 2 129 made.log) in
    subst (λ (l : SeatLog). HasOrder l 2 129) (sym met.2) (still_has _ _ 2 129 met.0 ordered)

pub returns-clause-ordered : goal.returns-clause-ordered
returns-clause-ordered c =
    let is : c.reserve.new.self.view ≡ c.in_ok-seats.hub.view = ap (λ (p : SeatValue). p.view) c.in_ok-reserve.ensures.same in
    let new = subst (λ (v : View). IsNewHub 1 v c.in_ok-seats.passes.made) (sym is) c.in_ok-seats.ensures.ordered in
    let first = then_ordered _ _ 0 0 0 2 129 _ (new_ordered _ _ _ new) c.order-receipt.ensures.same c.order-receipt.ensures.ordered in
    met_ordered _ _ 2 129 1 first c.meet.ensures.hub_owner c.meet.ensures.orders

pub returns-clause-owner : goal.returns-clause-owner
returns-clause-owner c =
    let new = second_new _ _ 1 _ _ _ _ _ c.in_ok-seats.ensures.passes c.in-Some.ensures.first c.in-Some-take.ensures.first in
    c.meet.ensures.owner ∙ ap (λ (p : SeatValue). p.view.owner) c.in_ok-reserve-2.ensures.same ∙ new.owner
