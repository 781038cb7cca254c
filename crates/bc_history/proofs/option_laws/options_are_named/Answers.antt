use Rattle.bc_history.proofs.lemmas.OptionTableLemmas.{named}
use Rattle.bc_history.proofs.option_laws.options_are_named.Goals as goal

pub returns : goal.returns
returns c = named
