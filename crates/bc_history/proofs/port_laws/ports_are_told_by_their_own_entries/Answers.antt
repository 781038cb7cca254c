use Rattle.bc_history.proofs.lemmas.PortEntriesLemmas.{measured_by-own, place_by_entries-own, port_samples-own, taken_by-own}
use Rattle.bc_history.proofs.port_laws.ports_are_told_by_their_own_entries.Goals as goal

pub returns : goal.returns
returns c = record {
  samples = port_samples-own;
  place = place_by_entries-own;
  measured = measured_by-own;
  taken = taken_by-own;
}
