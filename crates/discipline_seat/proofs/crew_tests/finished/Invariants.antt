use Rattle.std.proofs.Common.{◌≡◌, ◌+◌, length}
use Rattle.std.specs.Prelude.{All}
use Rattle.discipline_seat.specs.CrewOrders.{IsMember}
use Rattle.discipline_seat.specs.SeatValue.{IsSeatOf}
use Rattle.discipline_seat.proofs.crew_tests.finished.Given as goal

abbrev pub invariant-loop-member : goal.invariant-loop-member
invariant-loop-member l = record {
  made : l.passes.made ≡ 48;
  count : length l.passes.passes + length l.members.items ≡ 48;
  passes : All (IsSeatOf l.seats) l.passes.passes;
  members : All (λ m. IsMember l.seats m.held m.pass) l.members.items;
}

abbrev pub decreases-loop-member : goal.decreases-loop-member
decreases-loop-member l = length l.members.items
