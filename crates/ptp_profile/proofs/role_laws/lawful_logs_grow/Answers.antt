use Rattle.ptp_profile.proofs.lemmas.SeatLogLemmas.{IsLawful-opened, IsLawful-ordered, IsLawful-elsewhere, IsLawful-changed}
use Rattle.ptp_profile.proofs.role_laws.lawful_logs_grow.Goals as goal

pub returns-clause-opened : goal.returns-clause-opened
returns-clause-opened c = IsLawful-opened

pub returns-clause-ordered : goal.returns-clause-ordered
returns-clause-ordered c = IsLawful-ordered

pub returns-clause-elsewhere : goal.returns-clause-elsewhere
returns-clause-elsewhere c = IsLawful-elsewhere

pub returns-clause-changed : goal.returns-clause-changed
returns-clause-changed c = IsLawful-changed
