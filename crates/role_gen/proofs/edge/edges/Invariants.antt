use Rattle.std.proofs.Common.{◌≡◌, ◌-◌, ◌++◌, map, length, take}
use Rattle.std.specs.List.{range_with_len}
use Rattle.ptp_profile.specs.Roles.Edges.{edge_by, edges_of, port_on}
use Rattle.role_gen.proofs.edge.edges.Given as goal

abbrev pub invariant-loop-clock : goal.invariant-loop-clock
invariant-loop-clock l = take l.clock l.out ++ map (λ clock. edge_by l.parent (port_on clock l.states l.map) l.source) (range_with_len l.clock (length l.fn.out - l.clock)) ≡ edges_of (length l.fn.out) l.parent l.states l.map
