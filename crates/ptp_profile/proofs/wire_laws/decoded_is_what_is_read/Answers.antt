use Rattle.ptp_profile.proofs.lemmas.MessageReadingLemmas.{reads_from, decoded_from}
use Rattle.ptp_profile.proofs.wire_laws.decoded_is_what_is_read.Goals as goal

pub returns : goal.returns
returns c = λ domain b m. (reads_from domain b m, decoded_from domain b m)
