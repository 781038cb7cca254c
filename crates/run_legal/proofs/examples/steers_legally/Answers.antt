use Rattle.run_legal.proofs.lemmas.SteeredRunLemmas.{steered_is_legal, steered_is_windowed, steers_to_it}
use Rattle.run_legal.proofs.examples.steers_legally.Goals as goal

pub returns : goal.returns
returns c = record { ends = steers_to_it; legal = steered_is_legal; windowed = steered_is_windowed }
