-- The third phase of an entry: what drives each clock, and the orders of a generation that begins
-- (project).
use Rattle.std.specs.Prelude.{ℕ, ◌+◌, Bool, not, if◌then◌else◌, List, [], ◌++◌, length, map, reverse, Option}
use Rattle.ptp_base.specs.declared.port_state.PortState.{PortState}
use Rattle.ptp_profile.specs.declared.roles.Edge.{Edge}
use Rattle.ptp_profile.specs.declared.roles.RoleOrder.{RoleOrder}
use Rattle.ptp_profile.specs.Roles.Edges.{edges_of, are_same_edges, orders_of}
use Rattle.bc_history.specs.Phases.State.{Core, Roles}
use Rattle.bc_history.specs.Phases.HubPort.{HubPort}

-- the states of the ports
abbrev pub states_of : List HubPort → List PortState
states_of ports = map (λ (h : HubPort). h.port.state) ports

-- the hardware clocks of the ports
abbrev pub clocks_of : List HubPort → List ℕ
clocks_of ports = map (λ (h : HubPort). h.port.conf.clock) ports

-- the edges that the ports' states and the parent give
abbrev pub edges_now : Core → Roles → List (Option Edge)
edges_now c r = edges_of (length r.edges) c.master.parent (states_of c.ports) (clocks_of c.ports)

-- a generation begins where the edges differ, the parent included
abbrev pub begins_generation : Core → Roles → Bool
begins_generation c r = not (are_same_edges r.edges (edges_now c r))

-- the orders of the generation that begins, none where none begins
abbrev pub orders_now : Core → Roles → List RoleOrder
orders_now c r =
    if begins_generation c r then orders_of (r.gener + 1) r.edges (edges_now c r) else []

-- the roles after the entry
unfoldable pub after_roles : Core → Roles → Roles
after_roles c r =
    if begins_generation c r then
    record {
      gener = r.gener + 1;
      edges = edges_now c r;
      orders = reverse (orders_now c r) ++ r.orders;
    }
    else
    r
