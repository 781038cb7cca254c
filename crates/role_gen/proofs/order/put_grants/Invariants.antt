use Rattle.std.proofs.Common.{◌≡◌, ◌≤◌, ◌+◌, ◌++◌, drop, length, take}
use Rattle.ptp_profile.specs.Roles.Edges.{grants, grants_from}
use Rattle.role_gen.proofs.order.put_grants.Given as goal

abbrev pub invariant-loop-clock : goal.invariant-loop-clock
invariant-loop-clock l = record {
  from : l.revokes ≤ l.count;
  count : l.count ≤ l.revokes + l.clock;
  front : take l.count l.out ++ grants_from l.gener l.clock (drop l.clock l.old) (drop l.clock l.new) ≡ take l.revokes l.fn.out ++ grants l.gener l.old l.new;
  rest : drop l.count l.out ≡ drop l.count l.fn.out;
  same : length l.out ≡ length l.fn.out;
}
