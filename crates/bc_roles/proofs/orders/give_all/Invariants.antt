use Rattle.std.proofs.Common.{◌≡◌, ◌≤◌, ◌+◌, drop, fold, length}
use Rattle.bc_roles.specs.OrderRules.{with_given, AreAllowed}
use Rattle.bc_roles.specs.RolesInvariant.{SeatsAgree}
use Rattle.bc_roles.specs.Stamps.{with_stamps}
use Rattle.bc_roles.proofs.orders.give_all.Given as goal

abbrev pub invariant-given : goal.invariant-given
invariant-given l = record {
  agree : SeatsAgree l.stamps.items l.seats;
  allowed : AreAllowed l.stamps.items (drop l.order-index l.drafts);
  spare : length l.drafts ≤ l.seats.spare + l.order-index;
  stamps : with_stamps l.stamps.items (drop l.order-index l.drafts) ≡ with_stamps l.fn.stamps.items l.drafts;
  seats : fold with_given l.seats (drop l.order-index l.drafts) ≡ fold with_given l.fn.seats l.drafts;
}
