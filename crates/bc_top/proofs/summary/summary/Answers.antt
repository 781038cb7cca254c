use Rattle.bc_top.proofs.lemmas.ChangeCountLemmas.{few_changes}
use Rattle.bc_top.proofs.summary.summary.Goals as goal

pub change_count-changes-requires : goal.change_count-changes-requires
change_count-changes-requires c = record { few = few_changes c.args.s.now c.args.run.now c.rules.ensures c.requires.legal }
