use Rattle.std.proofs.Common.{◌≤◌, sym, subst}
use Rattle.ptp_base.specs.declared.limits.TheConstants.{SENDERS_MAX}
use Rattle.foreign_master.proofs.lemmas.HearingLemmas.{no_table}
use Rattle.foreign_master.proofs.master_table.MasterTable.clear.Goals as goal

pub invariant_of-self : goal.invariant_of-self
invariant_of-self c = no_table _ _ c.clear.ensures.items (subst (λ n. SENDERS_MAX ≤ n) (sym c.clear.ensures.capacity) c.self.invariant.reserved)
