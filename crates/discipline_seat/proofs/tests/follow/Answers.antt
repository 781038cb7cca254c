use Rattle.discipline_seat.proofs.lemmas.HeldOrderLemmas.{still_has, adjusted_extends}
use Rattle.discipline_seat.proofs.tests.follow.Goals as goal

pub returns-clause-order : goal.returns-clause-order
returns-clause-order c = still_has _ _ _ _ (adjusted_extends _ _ _ _ _ _ _ _ _ _ c.adjust.ensures.answer) c.requires.order
