use Rattle.ptp_profile.proofs.lemmas.SenderLemmas.{senders_rise, senders_are_those, qualified_rise, qualified_are_records}
use Rattle.ptp_profile.proofs.best_laws.qualified_set.Goals as goal

pub returns-clause-rise : goal.returns-clause-rise
returns-clause-rise c = senders_rise

pub returns-clause-those : goal.returns-clause-those
returns-clause-those c = senders_are_those

pub returns-clause-order : goal.returns-clause-order
returns-clause-order c = qualified_rise

pub returns-clause-records : goal.returns-clause-records
returns-clause-records c = qualified_are_records
