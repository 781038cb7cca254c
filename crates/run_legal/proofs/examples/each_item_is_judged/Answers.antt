use Rattle.run_legal.proofs.lemmas.RefusedRunLemmas.{unread_is_refused, out_of_turn_is_refused, unordered_is_refused, misread_is_refused, oversteered_is_refused, misreported_is_refused, changed_before_is_refused, untold_is_refused, forgotten_is_refused, foreseen_is_refused}
use Rattle.run_legal.proofs.examples.each_item_is_judged.Goals as goal

pub returns : goal.returns
returns c = record {
  formed = unread_is_refused;
  history = out_of_turn_is_refused;
  lawful = unordered_is_refused;
  readings = misread_is_refused;
  actions = oversteered_is_refused;
  outcomes = misreported_is_refused;
  rising = changed_before_is_refused;
  told = untold_is_refused;
  read = forgotten_is_refused;
  ordered = foreseen_is_refused;
}
