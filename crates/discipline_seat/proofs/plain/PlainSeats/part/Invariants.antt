use Rattle.std.proofs.Common.{◌≡◌, ◌+◌, ◌≤◌, ◌++◌, length}
use Rattle.std.specs.Vec.Iter.{into_iter_items, into_iter_len}
use Rattle.ptp_base.specs.declared.limits.TheConstants.{CLOCKS_MAX}
use Rattle.discipline_seat.specs.SeatInvariants.{logs_of, openings_of}
use Rattle.ptp_profile.specs.Roles.SeatLogs.{logs_from}
use Rattle.discipline_seat.proofs.plain.PlainSeats.part.Given as goal

abbrev pub invariant-loop-seat : goal.invariant-loop-seat
invariant-loop-seat l = record {
  all : l.yielded ++ into_iter_items l.seat-iterator ≡ into_iter_items l.initial.seat-iterator;
  left : into_iter_len l.seat-iterator ≡ length (into_iter_items l.seat-iterator);
  logs : l.logs.items ≡ logs_from 0 (openings_of l.yielded) (logs_of l.yielded);
  clock : l.clock ≡ length l.yielded;
  places : length (into_iter_items l.seat-iterator) ≤ l.logs.spare;
  few : l.clock + length (into_iter_items l.seat-iterator) ≤ CLOCKS_MAX;
}
