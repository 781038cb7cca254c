use Rattle.std.proofs.Common.{◌≡◌, ◌≤◌, length, vec_len, vec_capacity}
use Rattle.discipline_seat.specs.SeatValue.{Belongs}
use Rattle.discipline_seat.specs.SeatCalls.{IsNewHub, AreNewPasses}
use Rattle.discipline_seat.proofs.table.Seats.new.Given as goal

abbrev pub invariant-loop-made : goal.invariant-loop-made
invariant-loop-made l =
    Belongs l.seats.table.shared.table_id l.seats.openings.items l.hub
    × (length l.passes.items ≡ l.made)
    × IsNewHub l.ports l.hub.view (length l.passes.items)
    × AreNewPasses l.seats.table.shared.table_id l.seats.openings.items l.ports l.passes.items
    × (l.count ≤ vec_capacity l.passes)
    × (vec_len l.passes ≡ l.made)
