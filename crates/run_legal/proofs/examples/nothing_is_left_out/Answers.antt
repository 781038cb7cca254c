use Rattle.run_legal.proofs.lemmas.RefusedRunLemmas.{unnamed_is_refused, unfinished_is_refused}
use Rattle.run_legal.proofs.examples.nothing_is_left_out.Goals as goal

pub returns : goal.returns
returns c = record { named = unnamed_is_refused; finished = unfinished_is_refused }
