use Rattle.std.proofs.Common.{◌≡◌}
use Rattle.discipline_seat.specs.SeatValue.{IsSeatOf}
use Rattle.discipline_seat.proofs.crew_tests.look_often.Given as goal

abbrev pub invariant-loop-turn : goal.invariant-loop-turn
invariant-loop-turn l = IsSeatOf l.seats l.pass × (l.pass.view.owner ≡ l.fn.pass.view.owner)
