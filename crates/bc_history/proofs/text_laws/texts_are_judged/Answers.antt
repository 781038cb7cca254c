use Rattle.std.proofs.Common.{refl}
use Rattle.bstr.proofs.Computing.{computing}
use Rattle.hex.specs.Hex.{decode_pairs}
use Rattle.bc_history.proofs.text_laws.texts_are_judged.Goals as goal

pub returns-clause-empty : goal.returns-clause-empty
unfolding computing decode_pairs
returns-clause-empty c = refl

pub returns-clause-one_port : goal.returns-clause-one_port
unfolding computing decode_pairs
returns-clause-one_port c = refl

pub returns-clause-two_clocks : goal.returns-clause-two_clocks
unfolding computing decode_pairs
returns-clause-two_clocks c = refl

pub returns-clause-headers : goal.returns-clause-headers
unfolding computing decode_pairs
returns-clause-headers c = refl

pub returns-clause-order : goal.returns-clause-order
unfolding computing decode_pairs
returns-clause-order c = refl

pub returns-clause-options : goal.returns-clause-options
unfolding computing decode_pairs
returns-clause-options c = refl

pub returns-clause-records : goal.returns-clause-records
unfolding computing decode_pairs
returns-clause-records c = refl
