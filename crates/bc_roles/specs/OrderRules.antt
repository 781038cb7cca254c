-- The orders that clocks take.
use Rattle.std.specs.Prelude.{◌≡◌, ◌<◌, ◌≤◌, List, [], ◌∷◌, length}
use Rattle.ptp_base.specs.declared.limits.TheConstants.{ENTRIES_MAX}
use Rattle.ptp_profile.specs.declared.roles.RoleOrder.{RoleOrder}
use Rattle.ptp_profile.specs.declared.roles.Stamp.{Stamp}
use Rattle.ptp_profile.specs.Roles.Forest.{IsForest, ctrls_by}
use Rattle.ptp_profile.specs.Roles.SeatLogs.{order_entry, IsController, MayFollow}
use Rattle.discipline_seat.specs.SeatsView.{Seats, with_entry}
use Rattle.bc_roles.specs.Stamps.{ctrls_in, stamp_at, with_stamp}

-- an order that may be given where the clocks have these stamps: one to nobody is of a newer
-- generation than the clock's stamp
pub record IsAllowed (stamps : List Stamp) (order : RoleOrder) : Type 0 where
  pub there : order.clock < length stamps
  pub ctrl : IsController (length stamps) order.ctrl
  pub first : 1 ≤ order.gener
  pub gener : order.gener ≤ ENTRIES_MAX
  pub follows : MayFollow (stamp_at stamps order.clock) order.gener
  pub free : order.ctrl ≡ 0 → (stamp_at stamps order.clock).gener < order.gener
  pub forest : IsForest (ctrls_by (ctrls_in stamps) order)

-- orders that may be given one after another
abbrev pub AreAllowed : List Stamp → List RoleOrder → Type 0
AreAllowed stamps [] = Unit {0}
AreAllowed stamps (order ∷ orders) =
    IsAllowed stamps order × AreAllowed (with_stamp stamps order) orders

-- an order enters the log of its clock, in a place that was reserved
abbrev pub with_given : Seats → RoleOrder → Seats
with_given seats order = with_entry seats order.clock (order_entry order)
