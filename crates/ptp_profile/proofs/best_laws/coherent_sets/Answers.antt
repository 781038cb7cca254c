use Rattle.ptp_profile.proofs.lemmas.CoherenceLemmas.{qualified_are_coherent, bests_are_coherent}
use Rattle.ptp_profile.proofs.best_laws.coherent_sets.Goals as goal

pub returns-clause-port : goal.returns-clause-port
returns-clause-port c = qualified_are_coherent

pub returns-clause-ports : goal.returns-clause-ports
returns-clause-ports c = bests_are_coherent
