use Rattle.bc_history.proofs.lemmas.ArrivalLemmas.{measures-read}
use Rattle.bc_history.proofs.port_laws.measures_bear_readings.Goals as goal

pub returns : goal.returns
returns c = measures-read
