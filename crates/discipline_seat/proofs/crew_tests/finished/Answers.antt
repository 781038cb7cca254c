use Rattle.std.proofs.Common.{◌≡◌, ◌+◌, [], ◌∷◌, ◌++◌, length, length-append, ap, ◌∙◌, arith}
use Rattle.discipline_seat.specs.CrewOrders.{IsMember}
use Rattle.discipline_seat.specs.declared.crew_tests.Member.{Member}
use Rattle.discipline_seat.specs.SeatValue.{IsSeatOf, PassesLeft}
use Rattle.discipline_seat.proofs.lemmas.CrewLemmas.{all_and_last, all_but_last}
use Rattle.discipline_seat.proofs.crew_tests.finished.Goals as goal

pub loop-member-smaller : goal.loop-member-smaller
loop-member-smaller c =
    let popped = c.in-Some.ensures.items in
    omega (arith, ap length popped, length-append c.pop.new.self.items (c.in-Some.member ∷ []))

pub loop-member-preserved : goal.loop-member-preserved
loop-member-preserved c =
    let i = c.loop-member.invariant in
    let m = c.in-Some.member in
    let popped = c.in-Some.ensures.items in
    let parts = all_but_last c.loop-member.members.items c.pop.new.self.items m (λ (x : Member). IsMember c.args.crew.seats x.held x.pass) i.members popped in
    let put = ap (λ (p : PassesLeft). p.passes) c.put.ensures in
    record {
      made = ap (λ (p : PassesLeft). p.made) c.put.ensures ∙ i.made;
      count = omega (arith, i.count, ap length put, ap length popped, length-append c.loop-member.passes.passes (m.pass ∷ []), length-append c.pop.new.self.items (m ∷ []));
      passes = all_and_last c.loop-member.passes.passes c.put.new.self.passes m.pass (IsSeatOf c.args.crew.seats) i.passes parts.1.table put;
      members = parts.0;
    }
