use Rattle.ptp_management.proofs.lemmas.ManagementMessageLemmas.{managed_again, one_spelling}
use Rattle.ptp_management.proofs.management_laws.one_management_spelling.Goals as goal

pub returns-clause-again : goal.returns-clause-again
returns-clause-again c = managed_again

pub returns-clause-apart : goal.returns-clause-apart
returns-clause-apart c = one_spelling
