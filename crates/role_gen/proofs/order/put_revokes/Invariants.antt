use Rattle.std.proofs.Common.{◌≡◌, ◌≤◌, ◌++◌, drop, length, take}
use Rattle.ptp_profile.specs.Roles.Edges.{revokes, revokes_from}
use Rattle.role_gen.proofs.order.put_revokes.Given as goal

abbrev pub invariant-loop-clock : goal.invariant-loop-clock
invariant-loop-clock l = record {
  count : l.count ≤ l.clock;
  front : take l.count l.out ++ revokes_from l.gener l.clock (drop l.clock l.old) (drop l.clock l.new) ≡ revokes l.gener l.old l.new;
  rest : drop l.count l.out ≡ drop l.count l.fn.out;
  same : length l.out ≡ length l.fn.out;
}
