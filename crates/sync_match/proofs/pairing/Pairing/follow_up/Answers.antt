use Rattle.std.proofs.Common.{arith}
use Rattle.std.proofs.lemmas.Int.{to_z-of_z}
use Rattle.sync_match.proofs.lemmas.PairingViewLemmas.{follow_up_paired}
use Rattle.sync_match.proofs.pairing.Pairing.follow_up.Goals as goal

pub returns-in-Some-Sync-clause-answer : goal.returns-in-Some-Sync-clause-answer
returns-in-Some-Sync-clause-answer c = λ before remembers.
    grind (arith, to_z-of_z, follow_up_paired c.args.self.now c.args.seq c.in-Some-Sync.sync_seq c.args.precise c.in-Some-Sync.arrived c.in-Some-Sync.added c.args.correction before remembers)
