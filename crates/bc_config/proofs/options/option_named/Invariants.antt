use Rattle.bc_config.proofs.lemmas.OptionTableLemmas.{NoneNamed}
use Rattle.std.proofs.Common.{◌-◌, length}
use Rattle.bc_history.specs.Scenario.OptionTable.{option_table}
use Rattle.bc_config.proofs.options.option_named.Given as goal

abbrev pub invariant-loop-row : goal.invariant-loop-row
invariant-loop-row l = NoneNamed l.section l.word l.number

abbrev pub decreases-loop-row : goal.decreases-loop-row
decreases-loop-row l = length option_table - l.number
