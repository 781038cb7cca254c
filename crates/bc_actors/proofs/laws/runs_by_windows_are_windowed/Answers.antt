use Rattle.bc_actors.proofs.lemmas.WindowNumberLemmas.{empty-windowed, run-windowed}
use Rattle.bc_actors.proofs.laws.runs_by_windows_are_windowed.Goals as goal

pub returns : goal.returns
returns c = record { windowed = run-windowed; empty = empty-windowed }
