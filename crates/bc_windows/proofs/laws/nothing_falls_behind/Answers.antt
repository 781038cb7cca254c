use Rattle.bc_windows.proofs.lemmas.WindowLemmas.{entries-beyond, inputs-beyond}
use Rattle.bc_windows.proofs.laws.nothing_falls_behind.Goals as goal

pub returns : goal.returns
returns c = record { entries = entries-beyond; inputs = inputs-beyond }
