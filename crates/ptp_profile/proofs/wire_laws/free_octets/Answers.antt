use Rattle.ptp_profile.proofs.lemmas.FreeOctetLemmas.{decoded_same}
use Rattle.ptp_profile.proofs.wire_laws.free_octets.Goals as goal

pub returns : goal.returns
returns c = λ domain b b2 s. decoded_same domain b b2 s
