use Rattle.ptp_profile.proofs.lemmas.SeatLogLemmas.{entry_at-zero, entry_at-place, entry_at-next, entry_at-kept, log_after-kept}
use Rattle.ptp_profile.proofs.role_laws.entries_are_numbered_from_one.Goals as goal

pub returns-clause-none : goal.returns-clause-none
returns-clause-none c = entry_at-zero

pub returns-clause-place : goal.returns-clause-place
returns-clause-place c = entry_at-place

pub returns-clause-next : goal.returns-clause-next
returns-clause-next c = entry_at-next

pub returns-clause-kept : goal.returns-clause-kept
returns-clause-kept c = entry_at-kept

pub returns-clause-before : goal.returns-clause-before
returns-clause-before c = log_after-kept
