use Rattle.std.proofs.Common.{◌≡◌, ℕ, length, take, reverse}
use Rattle.ptp_profile.specs.Roles.SeatLogs.{log_at}
use Rattle.discipline_seat.specs.SeatEntries.{entries_at, placed}
use Rattle.discipline_seat.proofs.entries.Entries.fill.Given as goal

abbrev pub invariant-loop-one : goal.invariant-loop-one
invariant-loop-one l = record {
  clocks : length l.logs.items ≡ length l.fn.logs.items;
  placed_so : (c : ℕ) → log_at l.logs.items c ≡ placed (entries_at c (reverse (take l.one-index l.self.items))) (log_at l.fn.logs.items c);
}
