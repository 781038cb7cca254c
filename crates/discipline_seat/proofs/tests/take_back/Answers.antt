use Rattle.std.proofs.Common.{arith}
use Rattle.discipline_seat.proofs.lemmas.HeldOrderLemmas.{next_forest, then_ordered}
use Rattle.discipline_seat.proofs.tests.take_back.Goals as goal

pub order-revoked-requires-clause-forest : goal.order-revoked-requires-clause-forest
order-revoked-requires-clause-forest c = next_forest _ 2 129 1 0 (omega arith) c.requires.ordered

pub order-revoked-requires-clause-follows : goal.order-revoked-requires-clause-follows
order-revoked-requires-clause-follows c = let g = c.requires.ordered.gener_is in (omega (arith, g), λ _. omega (arith, g))

pub order-revoked-requires-clause-few : goal.order-revoked-requires-clause-few
order-revoked-requires-clause-few c = let n = c.requires.ordered.few in omega (arith, n)

pub order-granted-requires-clause-forest : goal.order-granted-requires-clause-forest
order-granted-requires-clause-forest c = next_forest _ 3 0 2 1 (omega arith) (then_ordered _ _ 2 129 1 3 0 _ c.requires.ordered c.order-revoked.ensures.same c.order-revoked.ensures.ordered)

pub order-granted-requires-clause-follows : goal.order-granted-requires-clause-follows
order-granted-requires-clause-follows c =
    let is = then_ordered _ _ 2 129 1 3 0 _ c.requires.ordered c.order-revoked.ensures.same c.order-revoked.ensures.ordered in
    let g = is.gener_is in
    (omega (arith, g), λ busy. absurd (busy is.ctrl_is))

pub order-granted-requires-clause-few : goal.order-granted-requires-clause-few
order-granted-requires-clause-few c =
    let is = then_ordered _ _ 2 129 1 3 0 _ c.requires.ordered c.order-revoked.ensures.same c.order-revoked.ensures.ordered in
    let n = is.few in
    omega (arith, n)
