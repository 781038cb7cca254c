use Rattle.std.proofs.Common.{sym, arith}
use Rattle.bc_config.proofs.lemmas.OptionTableLemmas.{no_row, none_in_range}
use Rattle.bc_config.proofs.table.table.Goals as goal

pub returns-in_default-clause-row : goal.returns-in_default-clause-row
returns-in_default-clause-row c = sym (no_row c.args.number (omega arith))

pub returns-in_default-clause-options : goal.returns-in_default-clause-options
returns-in_default-clause-options c = λ within. absurd (none_in_range c.args.number c.args.value (no_row c.args.number (omega arith)) within)

pub returns-in_default-clause-port : goal.returns-in_default-clause-port
returns-in_default-clause-port c = λ within. absurd (none_in_range c.args.number c.args.value (no_row c.args.number (omega arith)) within)

pub returns-in_default-clause-clock : goal.returns-in_default-clause-clock
returns-in_default-clause-clock c = λ within. absurd (none_in_range c.args.number c.args.value (no_row c.args.number (omega arith)) within)
