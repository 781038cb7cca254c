use Rattle.run_legal.proofs.lemmas.NewerOrderLemmas.{numbers_stay}
use Rattle.run_legal.proofs.laws.newer_orders_keep_numbers.Goals as goal

pub returns : goal.returns
returns c = numbers_stay
