use Rattle.std.proofs.Common.{◌≡◌, ◌+◌, ◌≤◌, ◌++◌, length, map, reverse}
use Rattle.std.specs.Vec.Iter.{into_iter_items, into_iter_len}
use Rattle.ptp_profile.specs.Roles.SeatLogs.{logs_from}
use Rattle.discipline_seat.proofs.close.logs_of.Given as goal

abbrev pub invariant-loop-entries : goal.invariant-loop-entries
invariant-loop-entries l = record {
  all : l.yielded ++ into_iter_items l.entries-iterator ≡ into_iter_items l.initial.entries-iterator;
  left : into_iter_len l.entries-iterator ≡ length (into_iter_items l.entries-iterator);
  logs : l.logs.items ≡ logs_from 0 l.openings (map reverse l.yielded);
  clock : l.clock ≡ length l.yielded;
  places : length (into_iter_items l.entries-iterator) ≤ l.logs.spare;
  few : l.clock + length (into_iter_items l.entries-iterator) ≡ length l.openings;
}
