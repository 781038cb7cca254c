use Rattle.std.proofs.Common.{arith}
use Rattle.std.proofs.lemmas.Int.{to_z-of_z}
use Rattle.sync_match.proofs.lemmas.PairingViewLemmas.{sync_paired}
use Rattle.sync_match.proofs.pairing.Pairing.sync.Goals as goal

pub returns-in-Some-FollowUp-clause-answer : goal.returns-in-Some-FollowUp-clause-answer
returns-in-Some-FollowUp-clause-answer c = λ before remembers.
    grind (arith, to_z-of_z, sync_paired c.args.self.now c.args.seq c.in-Some-FollowUp.follow_up_seq c.in-Some-FollowUp.precise c.args.arrived c.args.correction c.in-Some-FollowUp.added before remembers)
