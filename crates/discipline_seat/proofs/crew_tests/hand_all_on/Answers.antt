use Rattle.std.proofs.Common.{◌≡◌, subst, arith}
use Rattle.discipline_seat.specs.CrewOrders.{IsCrewHub}
use Rattle.discipline_seat.proofs.lemmas.CrewLemmas.{crew_next}
use Rattle.discipline_seat.proofs.crew_tests.hand_all_on.Goals as goal

pub returns-clause-ordered : goal.returns-clause-ordered
returns-clause-ordered c =
    let at : c.loop-clock.clock ≡ 16 = omega (arith, c.loop-clock-test.false, c.loop-clock.auto) in
    crew_next c.loop-clock.hub.view c.args.gener (subst (λ k. IsCrewHub c.loop-clock.hub.view c.args.gener k) at c.loop-clock.invariant.ordered)
