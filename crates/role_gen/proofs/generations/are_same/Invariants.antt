use Rattle.std.proofs.Common.{◌≡◌, drop}
use Rattle.ptp_profile.specs.Roles.Edges.{are_same_edges}
use Rattle.role_gen.proofs.generations.are_same.Given as goal

abbrev pub invariant-loop-clock : goal.invariant-loop-clock
invariant-loop-clock l = are_same_edges (drop l.clock l.old) (drop l.clock l.new) ≡ are_same_edges l.old l.new
