use Rattle.bc_history.proofs.lemmas.FormedEntryLemmas.{formed_openings}
use Rattle.bc_history.proofs.formed_laws.openings_are_formed.Goals as goal

pub returns : goal.returns
returns c = formed_openings
