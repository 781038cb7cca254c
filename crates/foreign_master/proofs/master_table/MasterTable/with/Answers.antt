use Rattle.foreign_master.proofs.lemmas.HearingLemmas.{no_table}
use Rattle.foreign_master.proofs.master_table.MasterTable.with.Goals as goal

pub invariant_of-result : goal.invariant_of-result
invariant_of-result c = no_table _ _ c.in_ok-with_capacity.ensures.items c.in_ok-with_capacity.ensures.capacity
