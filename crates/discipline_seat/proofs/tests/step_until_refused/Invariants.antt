use Rattle.std.proofs.Common.{◌≡◌, ◌+◌, ◌≤◌}
use Rattle.ptp_profile.specs.Roles.SeatLogs.{HasOrder}
use Rattle.discipline_seat.specs.declared.view.Owner.TheVariants.{Port}
use Rattle.discipline_seat.specs.Rule.SeatView.{seen_log}
use Rattle.discipline_seat.specs.SeatValue.{IsSeatOf}
use Rattle.discipline_seat.proofs.tests.step_until_refused.Given as goal

abbrev pub invariant-loop-turn : goal.invariant-loop-turn
invariant-loop-turn l =
    IsSeatOf l.seats l.pass × (l.pass.view.owner ≡ Port 1)
    × HasOrder (seen_log l.pass.view 0) 1 1 × (1000 ≤ l.turn + l.pass.spare)
