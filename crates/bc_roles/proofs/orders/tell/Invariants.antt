use Rattle.std.proofs.Common.{◌≡◌, ◌≤◌, ◌+◌, ◌++◌, drop, length}
use Rattle.bc_roles.proofs.orders.tell.Given as goal

abbrev pub invariant-told : goal.invariant-told
invariant-told l = record {
  room : length l.drafts ≤ l.told.spare + l.order-index;
  told : l.told.items ++ drop l.order-index l.drafts ≡ l.fn.out.items ++ l.drafts;
}
