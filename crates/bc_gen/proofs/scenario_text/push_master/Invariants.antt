use Rattle.std.proofs.Common.{◌≡◌, ◌++◌}
use Rattle.std.specs.List.{flat_map, range_with_len}
use Rattle.bc_gen.specs.MadeRecords.{records_in}
use Rattle.bc_gen.specs.MadeText.{record_lines}
use Rattle.bc_gen.proofs.scenario_text.push_master.Given as goal

-- the records of the seconds before the index are added
abbrev pub invariant-loop-s : goal.invariant-loop-s
invariant-loop-s l =
    l.out
    ≡ l.initial.out
    ++ record_lines (flat_map (records_in l.e l.delay) (range_with_len 0 l.s))
