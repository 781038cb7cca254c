use Rattle.bc_history.proofs.lemmas.FormedEntryLemmas.{formed_entry}
use Rattle.bc_history.proofs.formed_laws.entries_are_formed.Goals as goal

pub returns : goal.returns
returns c = formed_entry
