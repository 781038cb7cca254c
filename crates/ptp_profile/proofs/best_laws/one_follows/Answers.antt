use Rattle.ptp_profile.proofs.lemmas.StateDecisionLemmas.{one_follows, follower_is_named, follower_hears_best}
use Rattle.ptp_profile.proofs.best_laws.one_follows.Goals as goal

pub returns-clause-one : goal.returns-clause-one
returns-clause-one c = one_follows

pub returns-clause-named : goal.returns-clause-named
returns-clause-named c = follower_is_named

pub returns-clause-hears : goal.returns-clause-hears
returns-clause-hears c = follower_hears_best
