use Rattle.std.proofs.Common.{◌≡◌, ◌++◌, ℕ, List, length}
use Rattle.ptp_profile.specs.Roles.SeatLogs.{log_at}
use Rattle.discipline_seat.specs.SeatEntries.{placed}
use Rattle.discipline_seat.specs.SeatValue.{IsSeatOf, SeatValue}
use Rattle.discipline_seat.specs.WholeLogs.{AllTakenIn, made_of}
use Rattle.discipline_seat.proofs.table.Seats.gather_all.Given as goal

abbrev pub invariant-loop-pass : goal.invariant-loop-pass
invariant-loop-pass l = record {
  hub_table : IsSeatOf l.self l.hub;
  clocks : length l.lists.items ≡ length l.fn.lists.items;
  done : List SeatValue;
  all : l.fn.passes.items ≡ l.passes.items ++ done;
  taken : AllTakenIn l.fn.hub.view done l.hub.view;
  placed_so : (clock : ℕ) → log_at l.lists.items clock ≡ placed (made_of clock l.fn.hub.view done) (log_at l.fn.lists.items clock);
}

abbrev pub decreases-loop-pass : goal.decreases-loop-pass
decreases-loop-pass l = goal.left-loop-pass l
