use Rattle.std.proofs.Common.{◌≡◌, ◌+◌, [], ◌∷◌, ◌++◌, length, length-append, ap, ◌∙◌, arith}
use Rattle.discipline_seat.specs.CrewOrders.{IsMember, IsReady}
use Rattle.discipline_seat.proofs.lemmas.CrewLemmas.{all_and_last, all_but_last}
use Rattle.discipline_seat.proofs.crew_tests.all_met.Goals as goal

pub met-requires-clause-member : goal.met-requires-clause-member
met-requires-clause-member c = (all_but_last c.loop-member.members.items c.pop.new.self.items c.in-Some.member (λ m. IsMember c.args.seats.now m.held m.pass) c.loop-member.invariant.members c.in-Some.ensures.items).1

pub loop-member-smaller : goal.loop-member-smaller
loop-member-smaller c =
    let popped = c.in-Some.ensures.items in
    omega (arith, ap length popped, length-append c.pop.new.self.items (c.in-Some.member ∷ []))

pub loop-member-preserved : goal.loop-member-preserved
loop-member-preserved c =
    let i = c.loop-member.invariant in
    let m = c.in-Some.member in
    let popped = c.in-Some.ensures.items in
    let parts = all_but_last c.loop-member.members.items c.pop.new.self.items m (λ x. IsMember c.args.seats.now x.held x.pass) i.members popped in
    let e = c.in_ok-met.ensures in
    let items = c.in_ok-push.ensures.items in
    record {
      hub = e.hub;
      passes = e.passes ∙ i.passes;
      ordered = e.ordered;
      count = omega (arith, i.count, ap length items, ap length popped, length-append c.loop-member.ready.items (c.in_ok-met.field-0 ∷ []), length-append c.pop.new.self.items (m ∷ []));
      ready = all_and_last c.loop-member.ready.items c.push.new.self.items c.in_ok-met.field-0 (λ x. IsReady c.args.seats.now c.args.gener x.held x.pass) i.ready e.ready items;
      same = all_and_last c.loop-member.ready.items c.push.new.self.items c.in_ok-met.field-0 (λ x. IsMember c.args.seats.now x.held x.pass) i.same e.ready.member items;
      members = parts.0;
    }
