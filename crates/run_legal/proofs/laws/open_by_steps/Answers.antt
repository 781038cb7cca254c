use Rattle.run_legal.proofs.lemmas.WorldLemmas.{IsRight-open, open-throughout}
use Rattle.run_legal.proofs.laws.open_by_steps.Goals as goal

pub returns : goal.returns
returns c = record { now = IsRight-open; throughout = open-throughout }
