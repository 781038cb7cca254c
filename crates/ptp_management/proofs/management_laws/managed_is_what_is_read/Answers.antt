use Rattle.ptp_management.proofs.lemmas.ManagementMessageLemmas.{managed_from, managed_to}
use Rattle.ptp_management.proofs.management_laws.managed_is_what_is_read.Goals as goal

pub returns : goal.returns
returns c = λ domain b m. (managed_from domain b m, managed_to domain b m)
