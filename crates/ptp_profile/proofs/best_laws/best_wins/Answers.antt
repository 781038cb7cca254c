use Rattle.ptp_profile.proofs.lemmas.BestLemmas.{best_wins, best_is_member, no_best_of_none}
use Rattle.ptp_profile.proofs.best_laws.best_wins.Goals as goal

pub returns-clause-coherent : goal.returns-clause-coherent
returns-clause-coherent c = best_wins

pub returns-clause-member : goal.returns-clause-member
returns-clause-member c = best_is_member

pub returns-clause-none : goal.returns-clause-none
returns-clause-none c = no_best_of_none
