use Rattle.bc_history.proofs.lemmas.OptionTableLemmas.{options_default, ports_default, clocks_default}
use Rattle.bc_history.proofs.option_laws.defaults_are_of_the_table.Goals as goal

pub returns : goal.returns
returns c = record { options = options_default; ports = ports_default; clocks = clocks_default }
