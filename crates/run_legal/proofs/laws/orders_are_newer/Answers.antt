use Rattle.run_legal.proofs.lemmas.NewerOrderLemmas.{orders_are_newer, entries_are_bounded, orders_are_bounded}
use Rattle.run_legal.proofs.laws.orders_are_newer.Goals as goal

pub returns : goal.returns
returns c = record { made = orders_are_newer; entries = entries_are_bounded; orders = λ s entries. (orders_are_bounded s entries).bounded }
