use Rattle.std.proofs.Common.{◌≡◌, List, length, drop}
use Rattle.std.specs.Prelude.{All}
use Rattle.discipline_seat.specs.CrewOrders.{IsMember}
use Rattle.discipline_seat.specs.SeatCalls.{AreNewPasses}
use Rattle.discipline_seat.specs.SeatValue.{SeatValue}
use Rattle.discipline_seat.proofs.crew_tests.crewed.Given as goal

abbrev pub invariant-loop-number : goal.invariant-loop-number
invariant-loop-number l = record {
  made : l.passes.made ≡ 48;
  whole : List SeatValue;
  new : AreNewPasses l.seats.table.shared.table_id l.seats.openings.items 32 whole;
  long : length whole ≡ 48;
  left : l.passes.passes ≡ drop l.number whole;
  count : length l.members.items ≡ l.number;
  members : All (λ m. IsMember l.seats m.held m.pass) l.members.items;
}
