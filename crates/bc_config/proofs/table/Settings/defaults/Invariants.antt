use Rattle.bc_config.proofs.lemmas.OptionTableLemmas.{AreAtDefaults}
use Rattle.std.proofs.Common.{◌-◌, length}
use Rattle.bc_history.specs.Scenario.OptionTable.{option_table}
use Rattle.bc_config.proofs.table.Settings.defaults.Given as goal

abbrev pub invariant-loop-row : goal.invariant-loop-row
invariant-loop-row l = AreAtDefaults l.settings l.number

abbrev pub decreases-loop-row : goal.decreases-loop-row
decreases-loop-row l = length option_table - l.number
