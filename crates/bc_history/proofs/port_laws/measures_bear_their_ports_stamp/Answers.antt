use Rattle.bc_history.proofs.lemmas.StampLemmas.{kept-stamp, made-stamp}
use Rattle.bc_history.proofs.port_laws.measures_bear_their_ports_stamp.Goals as goal

pub returns : goal.returns
returns c = record { made = made-stamp; kept = kept-stamp }
