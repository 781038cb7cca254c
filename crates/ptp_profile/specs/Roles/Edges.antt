-- What drives each clock, and the orders that say so (project)
use Rattle.std.specs.Prelude.{ℕ, ◌+◌, ◌≤◌, Bool, true, false, ◌==◌, ◌&&◌, if◌then◌else◌, List, [], ◌∷◌, ◌++◌, map, Option, Some, None, option_map, unwrap_or, find, count_by, slice_index_or}
use Rattle.std.specs.List.{zip, position_from, range_with_len}
use Rattle.ptp_base.specs.declared.identity.PortId.{PortId}
use Rattle.ptp_base.specs.declared.port_state.PortState.{PortState}
use Rattle.ptp_profile.specs.declared.roles.Edge.{Edge}
use Rattle.ptp_profile.specs.declared.roles.Edge.TheVariants.{Port, Follow}
use Rattle.ptp_profile.specs.declared.roles.Lead.{Lead}
use Rattle.ptp_profile.specs.declared.roles.Notice.{Notice}
use Rattle.ptp_profile.specs.declared.roles.RoleOrder.{RoleOrder}
use Rattle.ptp_profile.specs.declared.roles.Stamp.{Stamp}
use Rattle.ptp_profile.specs.Best.PortIdentity.{is_same_port}
use Rattle.ptp_profile.specs.Port.PortStates.{is_following, is_slave}

-- at most one port follows a master
abbrev pub AtMostOneFollows : List PortState → Type 0
AtMostOneFollows states = count_by is_following states ≤ 1

-- the number, from 1, of the port in SLAVE, or 0
abbrev pub slave_port : List PortState → ℕ
slave_port states = unwrap_or (position_from is_slave 1 states) 0

-- the number, from 1, of the port that follows on the clock, where `port_clocks` says the clock of
-- each port
abbrev pub port_on : ℕ → List PortState → List ℕ → Option ℕ
port_on clock states port_clocks =
    position_from (λ (p : PortState × ℕ). is_following p.0 && (p.1 == clock)) 1
    (zip states port_clocks)

-- the clock of the port in SLAVE
abbrev pub slave_clock : List PortState → List ℕ → Option ℕ
slave_clock states port_clocks =
    option_map (λ (p : PortState × ℕ). p.1)
    (find (λ (p : PortState × ℕ). is_slave p.0) (zip states port_clocks))

-- what drives a clock: its port that follows, else the clock of the port in SLAVE, else nothing
abbrev pub edge_by : PortId → Option ℕ → Option ℕ → Option Edge
edge_by parent (Some port) source = Some (Port port parent)
edge_by parent None (Some source) = Some (Follow source)
edge_by parent None None = None

-- what drives each of so many clocks
abbrev pub edges_of : ℕ → PortId → List PortState → List ℕ → List (Option Edge)
edges_of clocks parent states port_clocks =
    map (λ clock. edge_by parent (port_on clock states port_clocks) (slave_clock states port_clocks)) (range_with_len 0 clocks)

-- what drives a clock
abbrev pub edge_at : List (Option Edge) → ℕ → Option Edge
edge_at edges clock = slice_index_or edges clock None

-- the same edge, its parent included
abbrev pub is_same_edge : Option Edge → Option Edge → Bool
is_same_edge None None = true
is_same_edge None (Some b) = false
is_same_edge (Some a) None = false
is_same_edge (Some (Port p parent)) (Some (Port q other)) = (p == q) && is_same_port parent other
is_same_edge (Some (Port p parent)) (Some (Follow d)) = false
is_same_edge (Some (Follow c)) (Some (Port q other)) = false
is_same_edge (Some (Follow c)) (Some (Follow d)) = c == d

-- each clock has the same edge in both
abbrev pub are_same_edges : List (Option Edge) → List (Option Edge) → Bool
are_same_edges [] [] = true
are_same_edges [] (new ∷ news) = false
are_same_edges (old ∷ olds) [] = false
are_same_edges (old ∷ olds) (new ∷ news) = is_same_edge old new && are_same_edges olds news

-- the controller that an edge names: its port, or 128 more than the clock that is copied
abbrev pub ctrl_of : Edge → ℕ
ctrl_of (Port port parent) = port
ctrl_of (Follow source) = 128 + source

-- the controller fits into an octet: the port, or the clock that is copied, is at most 127
abbrev pub HasCtrl : Edge → Type 0
HasCtrl (Port port parent) = port ≤ 127
HasCtrl (Follow source) = source ≤ 127

-- the controller of a clock with such an edge, 0 for none
abbrev pub ctrl_by : Option Edge → ℕ
ctrl_by None = 0
ctrl_by (Some edge) = ctrl_of edge

-- the controllers of the clocks
abbrev pub ctrls_of : List (Option Edge) → List ℕ
ctrls_of edges = map ctrl_by edges

-- the order that takes a clock from whom its edge names, if it had one
abbrev pub revoke : ℕ → ℕ → Option Edge → List RoleOrder
revoke gener clock None = []
revoke gener clock (Some edge) = record { clock = clock; gener = gener; ctrl = 0 } ∷ []

-- the order that gives a clock to whom its edge names, if it has one
abbrev pub grant : ℕ → ℕ → Option Edge → List RoleOrder
grant gener clock None = []
grant gener clock (Some edge) = record { clock = clock; gener = gener; ctrl = ctrl_of edge } ∷ []

-- the revokes of the clocks from `clock` on
abbrev pub revokes_from : ℕ → ℕ → List (Option Edge) → List (Option Edge) → List RoleOrder
revokes_from gener clock [] news = []
revokes_from gener clock (old ∷ olds) [] = []
revokes_from gener clock (old ∷ olds) (new ∷ news) =
    (if is_same_edge old new then [] else revoke gener clock old)
    ++ revokes_from gener (clock + 1) olds news

-- the grants of the clocks from `clock` on
abbrev pub grants_from : ℕ → ℕ → List (Option Edge) → List (Option Edge) → List RoleOrder
grants_from gener clock [] news = []
grants_from gener clock (old ∷ olds) [] = []
grants_from gener clock (old ∷ olds) (new ∷ news) =
    (if is_same_edge old new then [] else grant gener clock new)
    ++ grants_from gener (clock + 1) olds news

-- a revoke of each clock that had an edge and whose edge changed, in rising clocks
abbrev pub revokes : ℕ → List (Option Edge) → List (Option Edge) → List RoleOrder
revokes gener olds news = revokes_from gener 0 olds news

-- a grant of each clock whose edge changed to a new one, in rising clocks
abbrev pub grants : ℕ → List (Option Edge) → List (Option Edge) → List RoleOrder
grants gener olds news = grants_from gener 0 olds news

-- the orders of a generation: all revokes, then all grants
abbrev pub orders_of : ℕ → List (Option Edge) → List (Option Edge) → List RoleOrder
orders_of gener olds news = revokes gener olds news ++ grants gener olds news

-- the stamp of a clock before its first order
abbrev pub no_stamp : Stamp
no_stamp = record { gener = 0; ctrl = 0 }

-- the stamp that the last order of a clock gave it, where the newest order comes first
abbrev pub stamp_of : ℕ → List RoleOrder → Stamp
stamp_of clock [] = no_stamp
stamp_of clock (order ∷ orders) =
    if order.clock == clock then
    record { gener = order.gener; ctrl = order.ctrl }
    else
    stamp_of clock orders

-- what a follower copies by the edge of its clock, whose last order is of the generation
abbrev pub lead_by : ℕ → Option Edge → Option Lead
lead_by gener None = None
lead_by gener (Some (Port port parent)) = None
lead_by gener (Some (Follow source)) = Some (record { gener = gener; source = source })

-- what the follower of a clock is told: the present generation, the port in SLAVE, and what it
-- copies by its clock's edge
abbrev pub notice_of : ℕ → ℕ → List PortState → List (Option Edge) → List RoleOrder → Notice
notice_of gener clock states edges orders =
    record {
      gener = gener;
      slave = slave_port states;
      lead = lead_by (stamp_of clock orders).gener (edge_at edges clock);
    }
