use Rattle.ptp_profile.proofs.lemmas.EdgeLemmas.{are_same_edges-iff}
use Rattle.ptp_profile.proofs.role_laws.the_same_edges_are_equal.Goals as goal

pub returns : goal.returns
returns c = are_same_edges-iff
