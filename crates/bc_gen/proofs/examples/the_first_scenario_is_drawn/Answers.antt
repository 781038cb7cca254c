use Rattle.std.proofs.Common.{refl}
use Rattle.bc_gen.specs.MadeNumbers.{number}
use Rattle.bc_gen.proofs.examples.the_first_scenario_is_drawn.Goals as goal

pub returns-clause-first : goal.returns-clause-first
unfolding number
returns-clause-first c = refl

pub returns-clause-later : goal.returns-clause-later
unfolding number
returns-clause-later c = refl

pub returns-clause-upper : goal.returns-clause-upper
unfolding number
returns-clause-upper c = refl

pub returns-clause-drifts : goal.returns-clause-drifts
unfolding number
returns-clause-drifts c = refl

pub returns-clause-delays : goal.returns-clause-delays
unfolding number
returns-clause-delays c = refl
