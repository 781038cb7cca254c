-- What is kept of the roles, and the history's roles that it stands for.
use Rattle.std.specs.Prelude.{◌≡◌, ℕ, List, length, replicate}
use Rattle.model_clock.specs.declared.state.ClockState.{ClockState}
use Rattle.ptp_profile.specs.declared.roles.Notice.{Notice}
use Rattle.ptp_profile.specs.declared.roles.RoleOrder.{RoleOrder}
use Rattle.ptp_profile.specs.declared.roles.Stamp.{Stamp}
use Rattle.ptp_profile.specs.Roles.SeatLogs.{AreLawful}
use Rattle.ptp_profile.specs.Roles.Edges.{edge_at, lead_by, no_stamp}
use Rattle.role_gen.specs.Generation.{Generation, no_generation}
use Rattle.discipline_seat.specs.SeatsView.{Seats, seats_at_opening}
use Rattle.bc_history.specs.Phases.State.{Core, Roles}
use Rattle.bc_history.specs.Phases.RolePhase.{after_roles, orders_now}
use Rattle.bc_roles.specs.Stamps.{stamp_at, stamps_of}

-- the edges with their generation, the stamp of each clock's last order, and the seats
pub record RolesView : Type 0 where
  pub generation : Generation
  pub stamps : List Stamp
  pub seats : Seats

-- the view of roles by its parts
abbrev pub roles_view : Generation → List Stamp → Seats → RolesView
roles_view generation stamps seats =
    record { generation = generation; stamps = stamps; seats = seats }

-- what the follower of a clock is told of the present generation, with the number of the port in
-- SLAVE
abbrev pub notice_at : RolesView → ℕ → ℕ → Notice
notice_at v clock slave = record {
  gener = v.generation.gener;
  slave = slave;
  lead = lead_by (stamp_at v.stamps clock).gener (edge_at v.generation.edges clock);
}

-- nothing drives a clock, and nothing was ordered or changed
abbrev pub no_roles : ℕ → List ClockState → RolesView
no_roles rows clocks =
    roles_view (no_generation (length clocks)) (replicate (length clocks) no_stamp)
    (seats_at_opening rows clocks)

-- what is kept stands for the history's roles: generation, edges, the stamp of each clock's last
-- order, and the orders of the logs
pub record RolesRepresent (v : RolesView) (r : Roles) : Type 0 where
  pub gener : v.generation.gener ≡ r.gener
  pub edges : v.generation.edges ≡ r.edges
  pub stamps : v.stamps ≡ stamps_of (length r.edges) r.orders
  pub lawful : AreLawful r.orders v.seats.logs

-- the roles went on by the ports' states and the parent, with these orders
pub record AdvanceYields (c : Core) (r : Roles) (new : RolesView) (orders : List RoleOrder) : Type 0 where
  pub roles : RolesRepresent new (after_roles c r)
  pub orders_are : orders ≡ orders_now c r

-- what never changes
pub record IsSameTable (old new : RolesView) : Type 0 where
  pub rows : new.seats.rows ≡ old.seats.rows
  pub openings : new.seats.openings ≡ old.seats.openings
  pub clocks : length new.stamps ≡ length old.stamps
  pub logs : length new.seats.logs ≡ length old.seats.logs
