use Rattle.bc_windows.proofs.lemmas.WindowLemmas.{beyond-finished, finished-beyond}
use Rattle.bc_windows.proofs.laws.finished_is_beyond_the_end.Goals as goal

pub returns : goal.returns
returns c = record { beyond = finished-beyond; finished = beyond-finished }
