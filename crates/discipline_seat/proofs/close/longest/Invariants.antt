use Rattle.std.proofs.Common.{◌≡◌, ◌≤◌, length, drop}
use Rattle.discipline_seat.specs.SeatEntries.{most_of}
use Rattle.discipline_seat.specs.WholeLogs.{made_of}
use Rattle.discipline_seat.proofs.close.longest.Given as goal

abbrev pub invariant-loop-left : goal.invariant-loop-left
invariant-loop-left l = record {
  within : l.left ≤ length l.passes;
  most : l.most ≡ most_of 0 (made_of l.clock l.hub.view (drop l.left l.passes));
}

abbrev pub decreases-loop-left : goal.decreases-loop-left
decreases-loop-left l = l.left
