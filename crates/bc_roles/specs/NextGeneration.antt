-- The next generation: its edges and its orders.
use Rattle.std.specs.Prelude.{◌≡◌, ◌≢◌, ℕ, ◌+◌, if◌then◌else◌, List, [], fold, length, Option, Some, None, All}
use Rattle.ptp_profile.specs.declared.roles.Edge.{Edge}
use Rattle.ptp_profile.specs.declared.roles.RoleOrder.{RoleOrder}
use Rattle.ptp_profile.specs.Roles.Edges.{are_same_edges, ctrl_of, ctrls_of, orders_of}
use Rattle.ptp_profile.specs.Roles.Forest.{IsForest}
use Rattle.ptp_profile.specs.Roles.SeatLogs.{IsController}
use Rattle.bc_roles.specs.OrderRules.{with_given}
use Rattle.bc_roles.specs.RolesView.{roles_view, RolesView}
use Rattle.bc_roles.specs.Stamps.{with_stamps}

-- the edge, if there is one, names somebody who may hold one of so many clocks
abbrev pub HasHolder : ℕ → Option Edge → Type 0
HasHolder clocks None = Unit {0}
HasHolder clocks (Some edge) = (ctrl_of edge ≢ 0) × IsController clocks (ctrl_of edge)

-- edges, one for each clock, that make a forest of controllers who may hold a clock
pub record AreEdges (clocks : ℕ) (news : List (Option Edge)) : Type 0 where
  pub long : length news ≡ clocks
  pub forest : IsForest (ctrls_of news)
  pub holders : All (HasHolder clocks) news

-- the orders of the generation in which the edges become these
abbrev pub orders_to : RolesView → List (Option Edge) → List RoleOrder
orders_to v news = orders_of (v.generation.gener + 1) v.generation.edges news

-- that generation has begun, and its orders are given
abbrev pub after_generation : RolesView → List (Option Edge) → RolesView
after_generation v news =
    roles_view (record { gener = v.generation.gener + 1; edges = news })
    (with_stamps v.stamps (orders_to v news))
    (fold with_given v.seats (orders_to v news))

-- it begins where an edge differs, and then its orders are given and told
pub record GenerationYields (v : RolesView) (news : List (Option Edge)) (new : RolesView) (told : List RoleOrder) : Type 0 where
  pub new_is : new ≡ (if are_same_edges v.generation.edges news then v else after_generation v news)
  pub told_is : told ≡ (if are_same_edges v.generation.edges news then [] else orders_to v news)
