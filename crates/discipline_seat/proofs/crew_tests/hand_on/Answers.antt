use Rattle.std.proofs.Common.{◌≡◌, ◌∙◌, sym, subst, arith}
use Rattle.discipline_seat.specs.SeatCalls.{EntryAdded}
use Rattle.discipline_seat.specs.CrewOrders.{crew_ctrl}
use Rattle.ptp_profile.specs.Roles.Forest.{IsForest}
use Rattle.ptp_profile.specs.declared.seats.LogEntry.TheVariants.{Order}
use Rattle.discipline_seat.specs.Rule.SeatView.{ctrls_with}
use Rattle.discipline_seat.proofs.lemmas.CrewLemmas.{back_forest, crew_ordered, on_forest, ordered_by}
use Rattle.discipline_seat.proofs.crew_tests.hand_on.Goals as goal

pub order-revoked-requires-clause-forest : goal.order-revoked-requires-clause-forest
order-revoked-requires-clause-forest c = back_forest _ c.args.gener c.args.clock c.requires.ordered

pub order-granted-requires-clause-forest : goal.order-granted-requires-clause-forest
order-granted-requires-clause-forest c =
    let back = ordered_by _ _ c.args.clock c.args.gener 0 _ c.requires.ordered.owner c.order-revoked.ensures.same c.order-revoked.ensures.ordered in
    subst (λ k. IsForest (ctrls_with c.order-revoked.new.hub.view c.args.clock k)) (sym c.controller-ctrl.ensures.ctrl) (on_forest _ _ c.args.gener c.args.clock c.requires.some c.requires.last c.requires.clock c.requires.ordered back)

pub order-granted-requires-clause-few : goal.order-granted-requires-clause-few
order-granted-requires-clause-few c =
    let back = ordered_by _ _ c.args.clock c.args.gener 0 _ c.requires.ordered.owner c.order-revoked.ensures.same c.order-revoked.ensures.ordered in
    let count = back.count in
    let before = c.requires.ordered.few c.args.clock in
    let last = c.requires.last in
    omega (arith, count, before, last)

pub returns-clause-ordered : goal.returns-clause-ordered
returns-clause-ordered c =
    let back = ordered_by _ _ c.args.clock c.args.gener 0 _ c.requires.ordered.owner c.order-revoked.ensures.same c.order-revoked.ensures.ordered in
    let on = ordered_by _ _ c.args.clock c.args.gener (crew_ctrl c.args.gener c.args.clock) c.order-granted.result.number (back.owner ∙ c.requires.ordered.owner) c.order-granted.ensures.same (subst (λ k. EntryAdded c.order-revoked.new.hub.view c.args.clock (Order c.args.gener k) c.order-granted.result.number c.order-granted.new.hub.view) c.controller-ctrl.ensures.ctrl c.order-granted.ensures.ordered) in
    crew_ordered _ _ _ c.args.gener c.args.clock c.requires.some c.requires.last c.requires.clock c.requires.ordered back on
