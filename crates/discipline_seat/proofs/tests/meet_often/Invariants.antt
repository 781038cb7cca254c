use Rattle.discipline_seat.specs.SeatValue.{IsSeatOf}
use Rattle.discipline_seat.proofs.tests.meet_often.Given as goal

abbrev pub invariant-loop-turn : goal.invariant-loop-turn
invariant-loop-turn l = IsSeatOf l.seats l.hub × IsSeatOf l.seats l.pass
