-- What always holds of the roles that are kept.
use Rattle.std.specs.Prelude.{◌≡◌, ◌-◌, ◌*◌, ◌≤◌, List, length, map, Option, All}
use Rattle.ptp_base.specs.declared.limits.TheConstants.{CLOCKS_MAX}
use Rattle.ptp_profile.specs.declared.roles.Edge.{Edge}
use Rattle.ptp_profile.specs.declared.roles.RoleOrder.{RoleOrder}
use Rattle.ptp_profile.specs.declared.roles.Stamp.{Stamp}
use Rattle.ptp_profile.specs.declared.seats.LogEntry.{LogEntry}
use Rattle.ptp_profile.specs.Roles.Edges.{ctrls_of}
use Rattle.ptp_profile.specs.Roles.Forest.{IsForest}
use Rattle.ptp_profile.specs.Roles.SeatLogs.{order_count, stamp_after}
use Rattle.discipline_seat.specs.SeatsView.{Seats}
use Rattle.bc_roles.specs.RolesView.{RolesView}
use Rattle.bc_roles.specs.Stamps.{ctrls_in}

-- a log with at most two orders for each generation up to its stamp's: one that leaves the clock to
-- nobody, and then one that gives it to somebody
pub record HasFewOrders (log : List LogEntry) : Type 0 where
  pub most : order_count log ≤ 2 * (stamp_after log).gener
  pub free : (stamp_after log).ctrl ≡ 0 → order_count log ≤ 2 * (stamp_after log).gener - 1

-- what ties the seats to the stamps: each log's stamp in force is its clock's, and each has few
-- orders
pub record SeatsAgree (stamps : List Stamp) (seats : Seats) : Type 0 where
  pub stamps_are : stamps ≡ map stamp_after seats.logs
  pub orders : All HasFewOrders seats.logs

-- what is kept, with the places for the next edges and for the orders of a generation: the stamps'
-- controllers are those of the edges, which are a forest; no stamp is newer than the generation
pub record IsRoles (v : RolesView) (next : List (Option Edge)) (drafts : List RoleOrder) : Type 0 where
  pub few : length v.stamps ≤ CLOCKS_MAX
  pub edges : length v.generation.edges ≡ length v.stamps
  pub places : length next ≡ length v.stamps
  pub pairs : length drafts ≡ 2 * length v.stamps
  pub ctrls : ctrls_in v.stamps ≡ ctrls_of v.generation.edges
  pub forest : IsForest (ctrls_of v.generation.edges)
  pub within : All (λ stamp. stamp.gener ≤ v.generation.gener) v.stamps
  pub agree : SeatsAgree v.stamps v.seats
