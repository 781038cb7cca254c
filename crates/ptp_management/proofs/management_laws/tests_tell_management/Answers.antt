use Rattle.ptp_management.proofs.lemmas.ManagementMessageLemmas.{is_managed-from, is_managed-to}
use Rattle.ptp_management.proofs.management_laws.tests_tell_management.Goals as goal

pub returns : goal.returns
returns c = λ domain b. (is_managed-from domain b, is_managed-to domain b)
