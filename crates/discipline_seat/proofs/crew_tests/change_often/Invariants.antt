use Rattle.std.proofs.Common.{◌≡◌, ◌+◌, ◌≤◌}
use Rattle.ptp_profile.specs.Roles.SeatLogs.{HasOrder}
use Rattle.discipline_seat.specs.Rule.SeatView.{seen_log}
use Rattle.discipline_seat.specs.SeatValue.{IsSeatOf}
use Rattle.discipline_seat.proofs.crew_tests.change_often.Given as goal

abbrev pub invariant-loop-turn : goal.invariant-loop-turn
invariant-loop-turn l =
    IsSeatOf l.seats l.pass × (l.pass.view.owner ≡ l.fn.pass.view.owner)
    × HasOrder (seen_log l.pass.view l.held.clock) l.held.gener l.held.ctrl
    × (1000 ≤ l.turn + l.pass.spare)
