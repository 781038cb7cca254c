use Rattle.std.proofs.Common.{◌≡◌, ◌+◌, ◌≤◌, take, length}
use Rattle.hub_core.proofs.effect_copies.copied.Given as goal

abbrev pub invariant-loop-item : goal.invariant-loop-item
invariant-loop-item o l = record {
  items : l.out.items ≡ take l.item-index l.from;
  room : length l.from ≤ l.out.spare + l.item-index;
}
