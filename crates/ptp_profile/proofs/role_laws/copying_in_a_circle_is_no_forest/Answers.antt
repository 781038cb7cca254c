use Rattle.ptp_profile.proofs.lemmas.ForestLemmas.{copies_itself, copy_each_other}
use Rattle.ptp_profile.proofs.role_laws.copying_in_a_circle_is_no_forest.Goals as goal

pub returns-clause-itself : goal.returns-clause-itself
returns-clause-itself c = copies_itself

pub returns-clause-each_other : goal.returns-clause-each_other
returns-clause-each_other c = copy_each_other
