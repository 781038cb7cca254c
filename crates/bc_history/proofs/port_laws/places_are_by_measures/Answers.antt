use Rattle.bc_history.proofs.lemmas.MeasureLemmas.{measured_by-due, place-by_measure, place-unmeasured}
use Rattle.bc_history.proofs.port_laws.places_are_by_measures.Goals as goal

pub returns : goal.returns
returns c = record { none = place-unmeasured; some = place-by_measure; due = measured_by-due }
