use Rattle.ptp_profile.proofs.lemmas.ForestLemmas.{IsForest-from_part}
use Rattle.ptp_profile.proofs.role_laws.a_part_of_a_forest_is_one.Goals as goal

pub returns : goal.returns
returns c = IsForest-from_part
