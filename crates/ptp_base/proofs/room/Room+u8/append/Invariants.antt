use Rattle.std.proofs.Common.{◌≡◌, ◌+◌, ◌++◌, take}
use Rattle.ptp_base.proofs.room.Room+u8.append.Given as goal

abbrev pub invariant-loop-octet : goal.invariant-loop-octet
invariant-loop-octet l = record {
  items : l.self.items ≡ l.initial.self.items ++ take l.octet-index l.piece;
  spare : l.initial.self.spare ≡ l.self.spare + l.octet-index;
}
