use Rattle.ptp_profile.proofs.lemmas.MessageRoundTripLemmas.{reads_again, one_spelling}
use Rattle.ptp_profile.proofs.wire_laws.one_spelling.Goals as goal

pub returns-clause-again : goal.returns-clause-again
returns-clause-again c = λ m rest fits. reads_again m rest fits

pub returns-clause-apart : goal.returns-clause-apart
returns-clause-apart c = one_spelling
