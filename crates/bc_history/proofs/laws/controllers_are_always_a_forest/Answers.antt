use Rattle.bc_history.proofs.lemmas.RolePhaseLemmas.{controllers-forest}
use Rattle.bc_history.proofs.laws.controllers_are_always_a_forest.Goals as goal

pub returns : goal.returns
returns c = controllers-forest
