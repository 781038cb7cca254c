use Rattle.bc_history.proofs.lemmas.RolePhaseLemmas.{edges-state_of}
use Rattle.bc_history.proofs.laws.edges_are_those_of_the_ports.Goals as goal

pub returns : goal.returns
returns c = edges-state_of
