use Rattle.std.proofs.Common.{refl}
use Rattle.bc_gen.specs.MadeNumbers.{number}
use Rattle.bc_gen.specs.MadeScenario.{made_scenario}
use Rattle.bc_gen.proofs.examples.the_first_scenario_is_told.Goals as goal

pub returns-clause-counts : goal.returns-clause-counts
unfolding made_scenario number
returns-clause-counts c = refl

pub returns-clause-drifts : goal.returns-clause-drifts
unfolding made_scenario number
returns-clause-drifts c = refl

pub returns-clause-ports : goal.returns-clause-ports
unfolding made_scenario number
returns-clause-ports c = refl

pub returns-clause-ticks : goal.returns-clause-ticks
unfolding made_scenario number
returns-clause-ticks c = refl

pub returns-clause-duration : goal.returns-clause-duration
unfolding made_scenario number
returns-clause-duration c = refl
