use Rattle.std.proofs.Common.{◌≡◌, ◌+◌, ◌*◌, ◌≤◌}
use Rattle.discipline_seat.specs.CrewOrders.{IsCrewHub}
use Rattle.discipline_seat.specs.SeatValue.{IsSeatOf}
use Rattle.discipline_seat.proofs.crew_tests.hand_all_on.Given as goal

abbrev pub invariant-loop-clock : goal.invariant-loop-clock
invariant-loop-clock l = record {
  hub : IsSeatOf l.seats l.hub;
  passes : l.hub.view.passes ≡ l.fn.hub.view.passes;
  spare : 32 ≤ l.hub.spare + 2 * l.clock;
  ordered : IsCrewHub l.hub.view l.gener l.clock;
}
