use Rattle.std.proofs.Common.{◌≡◌, ◌+◌, List, [], ◌∷◌, ◌++◌, length, length-append, ap, ◌∙◌, arith}
use Rattle.discipline_seat.specs.CrewOrders.{IsMember}
use Rattle.discipline_seat.specs.declared.crew_tests.Member.{Member}
use Rattle.discipline_seat.proofs.lemmas.CrewLemmas.{all_and_last, crew_new, next_pass, none_left}
use Rattle.discipline_seat.proofs.crew_tests.crewed.Goals as goal

pub enlisted-requires-clause-pass : goal.enlisted-requires-clause-pass
enlisted-requires-clause-pass c =
    let i = c.loop-number.invariant in
    let next = next_pass c.in_ok-seats.seats.table.shared.table_id c.in_ok-seats.seats.openings.items i.whole c.loop-number.number c.loop-number.passes.passes c.in-Some.pass c.take.new.self.passes i.new (omega (arith, i.long, c.loop-number-test.true)) i.left c.in-Some.ensures.first in
    next.belongs

pub enlisted-requires-clause-owner : goal.enlisted-requires-clause-owner
enlisted-requires-clause-owner c =
    let i = c.loop-number.invariant in
    let next = next_pass c.in_ok-seats.seats.table.shared.table_id c.in_ok-seats.seats.openings.items i.whole c.loop-number.number c.loop-number.passes.passes c.in-Some.pass c.take.new.self.passes i.new (omega (arith, i.long, c.loop-number-test.true)) i.left c.in-Some.ensures.first in
    next.owner

pub loop-number-preserved : goal.loop-number-preserved
loop-number-preserved c =
    let i = c.loop-number.invariant in
    let next = next_pass c.in_ok-seats.seats.table.shared.table_id c.in_ok-seats.seats.openings.items i.whole c.loop-number.number c.loop-number.passes.passes c.in-Some.pass c.take.new.self.passes i.new (omega (arith, i.long, c.loop-number-test.true)) i.left c.in-Some.ensures.first in
    let items = c.in_ok-push.ensures.items in
    let long = length-append c.loop-number.members.items (c.in_ok-enlisted.field-0 ∷ []) in
    record {
      made = c.in-Some.ensures.made ∙ i.made;
      whole = i.whole;
      new = i.new;
      long = i.long;
      left = next.left;
      count = omega (arith, ap length items, long, i.count);
      members = all_and_last c.loop-number.members.items c.push.new.self.items c.in_ok-enlisted.field-0 (λ (m : Member). IsMember c.in_ok-seats.seats m.held m.pass) i.members c.in_ok-enlisted.ensures items;
    }

pub returns-clause-left : goal.returns-clause-left
returns-clause-left c =
    let i = c.loop-number.invariant in
    i.left ∙ none_left c.loop-number.number i.whole (omega (arith, i.long, c.loop-number-test.false))

pub returns-clause-ordered : goal.returns-clause-ordered
returns-clause-ordered c = crew_new 32 _ _ c.in_ok-seats.ensures.ordered
