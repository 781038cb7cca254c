use Rattle.std.proofs.Common.{◌≡◌, take, reverse}
use Rattle.discipline_seat.specs.SeatEntries.{entries_at, most_of}
use Rattle.discipline_seat.proofs.entries.Entries.longest.Given as goal

abbrev pub invariant-loop-one : goal.invariant-loop-one
invariant-loop-one l = l.most ≡ most_of l.fn.least (entries_at l.fn.clock (reverse (take l.one-index l.self.items)))
