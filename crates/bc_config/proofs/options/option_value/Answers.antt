use Rattle.std.proofs.Common.{subst, sym}
use Rattle.bc_history.specs.Scenario.OptionTable.{Row}
use Rattle.bc_config.specs.OptionRanges.{HasRoom}
use Rattle.bc_config.proofs.lemmas.OptionTableLemmas.{form_fits}
use Rattle.bc_config.proofs.options.option_value.Goals as goal

pub read_as-requires : goal.read_as-requires
read_as-requires c = subst (λ (r : Row). HasRoom r.form) (sym c.row-2.view_is) (form_fits c.args.number c.in_ok-row.row (sym c.in_ok-row.ensures))
