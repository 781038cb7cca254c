use Rattle.std.proofs.Common.{◌≡◌, ◌+◌, length}
use Rattle.std.specs.Prelude.{All}
use Rattle.discipline_seat.specs.CrewOrders.{IsCrewHub, IsMember, IsReady}
use Rattle.discipline_seat.specs.SeatValue.{IsSeatOf}
use Rattle.discipline_seat.proofs.crew_tests.all_met.Given as goal

abbrev pub invariant-loop-member : goal.invariant-loop-member
invariant-loop-member l = record {
  hub : IsSeatOf l.seats l.hub;
  passes : l.hub.view.passes ≡ l.fn.hub.view.passes;
  ordered : IsCrewHub l.hub.view (l.gener + 1) 0;
  count : length l.ready.items + length l.members.items ≡ length l.fn.members.items;
  ready : All (λ m. IsReady l.seats l.gener m.held m.pass) l.ready.items;
  same : All (λ m. IsMember l.seats m.held m.pass) l.ready.items;
  members : All (λ m. IsMember l.seats m.held m.pass) l.members.items;
}

abbrev pub decreases-loop-member : goal.decreases-loop-member
decreases-loop-member l = length l.members.items
