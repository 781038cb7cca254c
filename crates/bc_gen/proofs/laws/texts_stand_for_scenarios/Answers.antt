use Rattle.bc_gen.proofs.lemmas.MadeLengthLemmas.{made_short}
use Rattle.bc_gen.proofs.lemmas.MadeTakenLemmas.{made_stands}
use Rattle.bc_gen.proofs.laws.texts_stand_for_scenarios.Goals as goal

pub returns-clause-stands : goal.returns-clause-stands
returns-clause-stands c = λ n small. made_stands n

pub returns-clause-short : goal.returns-clause-short
returns-clause-short c = λ n small. made_short n
