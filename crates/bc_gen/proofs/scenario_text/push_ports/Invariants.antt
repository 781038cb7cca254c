use Rattle.std.proofs.Common.{◌≡◌, ◌++◌}
use Rattle.std.specs.List.{flat_map, range_with_len}
use Rattle.bc_gen.specs.MadeText.{port_header}
use Rattle.bc_gen.proofs.scenario_text.push_ports.Given as goal

-- so many ports are added
abbrev pub invariant-loop-i : goal.invariant-loop-i
invariant-loop-i l = l.out ≡ l.initial.out ++ flat_map port_header (range_with_len 1 l.i)
