use Rattle.std.proofs.Common.{refl}
use Rattle.bc_gen.specs.MadeRecords.{beginning, records_of, ticks}
use Rattle.bc_gen.proofs.lemmas.MadeTickLemmas.{increasing, within}
use Rattle.bc_gen.proofs.laws.records_rise.Goals as goal

pub returns-clause-rising : goal.returns-clause-rising
returns-clause-rising c = λ e delay. increasing (beginning e) (ticks (records_of 0 0)) refl

pub returns-clause-within : goal.returns-clause-within
returns-clause-within c = λ e delay. within e (ticks (records_of 0 0)) refl
