use Rattle.std.proofs.Common.{◌≡◌, ◌<◌, ℕ, length}
use Rattle.ptp_profile.specs.Roles.SeatLogs.{log_at}
use Rattle.discipline_seat.specs.SeatEntries.{most_of}
use Rattle.discipline_seat.specs.WholeLogs.{made_of}
use Rattle.discipline_seat.proofs.close.blank_lists.Given as goal

abbrev pub invariant-loop-clock : goal.invariant-loop-clock
invariant-loop-clock l = record {
  clocks : length l.lists.items ≡ l.clock;
  sized : (c : ℕ) → c < l.clock → length (log_at l.lists.items c) ≡ most_of 0 (made_of c l.hub.view l.passes);
}
