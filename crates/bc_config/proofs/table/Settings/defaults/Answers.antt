use Rattle.std.specs.Int.{w128}
use Rattle.std.proofs.Common.{◌≡◌, ◌∙◌, ap, sym, arith, rules, to_z, of_z}
use Rattle.std.proofs.lemmas.Int.{to_z-of_z}
use Rattle.bc_history.specs.Scenario.OptionTable.{Row}
use Rattle.bc_config.specs.OptionRanges.{IsInRange}
use Rattle.bc_config.proofs.lemmas.OptionTableLemmas.{next_set, all_set, default_fits, within_table}
use Rattle.bc_config.proofs.table.Settings.defaults.Goals as goal

pub loop-row-smaller : goal.loop-row-smaller
loop-row-smaller c = omega (arith, within_table c.loop-row.number c.in-Some.row (sym c.in-Some.ensures))

pub loop-row-preserved : goal.loop-row-preserved
loop-row-preserved c =
    let whole = to_z-of_z w128 c.row-in-Some.inside.default (search rules) in
    let same : to_z w128 (of_z w128 c.row-in-Some.inside.default) ≡ c.in-Some.row.default = whole ∙ ap (λ (r : Row). r.default) c.row-in-Some.view_is in
    let fits : IsInRange c.loop-row.number (to_z w128 (of_z w128 c.row-in-Some.inside.default)) = rw same (default_fits c.loop-row.number c.in-Some.row (sym c.in-Some.ensures)) in
    next_set c.loop-row.number c.in-Some.row c.loop-row.settings c.set.new.self (sym c.in-Some.ensures) c.loop-row.invariant
    (rw same at (c.set.ensures.options fits)) (rw same at (c.set.ensures.port fits)) (rw same at (c.set.ensures.clock fits))

pub returns-clause-options : goal.returns-clause-options
returns-clause-options c = (all_set c.loop-row.number c.loop-row.settings (sym c.in_default.ensures) c.loop-row.invariant).0

pub returns-clause-port : goal.returns-clause-port
returns-clause-port c = (all_set c.loop-row.number c.loop-row.settings (sym c.in_default.ensures) c.loop-row.invariant).1

pub returns-clause-clock : goal.returns-clause-clock
returns-clause-clock c = (all_set c.loop-row.number c.loop-row.settings (sym c.in_default.ensures) c.loop-row.invariant).2
