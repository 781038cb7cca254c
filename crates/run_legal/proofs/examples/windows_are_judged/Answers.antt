use Rattle.run_legal.proofs.lemmas.RefusedRunLemmas.{backwards_is_refused}
use Rattle.run_legal.proofs.examples.windows_are_judged.Goals as goal

pub returns : goal.returns
returns c = backwards_is_refused
