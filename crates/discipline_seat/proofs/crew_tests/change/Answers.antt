use Rattle.discipline_seat.proofs.lemmas.HeldOrderLemmas.{still_has, adjusted_extends}
use Rattle.discipline_seat.proofs.crew_tests.change.Goals as goal

pub returns-clause-given : goal.returns-clause-given
returns-clause-given c = still_has _ _ _ _ (adjusted_extends _ _ _ _ _ _ _ _ _ _ c.adjust.ensures.answer) c.requires.given
