use Rattle.bc_history.proofs.lemmas.MeasureLemmas.{measured-state_of}
use Rattle.bc_history.proofs.lemmas.PortEntriesLemmas.{taken-state_of}
use Rattle.bc_history.proofs.port_laws.ports_keep_their_entries.Goals as goal

pub returns : goal.returns
returns c = record { measured = λ s entries p h continues. measured-state_of s entries continues p h; taken = taken-state_of }
