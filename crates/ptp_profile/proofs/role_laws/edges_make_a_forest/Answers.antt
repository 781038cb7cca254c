use Rattle.ptp_profile.proofs.lemmas.ForestLemmas.{IsForest-edges}
use Rattle.ptp_profile.proofs.role_laws.edges_make_a_forest.Goals as goal

pub returns : goal.returns
returns c = IsForest-edges
