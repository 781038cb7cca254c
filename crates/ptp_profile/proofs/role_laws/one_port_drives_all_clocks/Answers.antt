use Rattle.ptp_profile.proofs.lemmas.PortLemmas.{edge_at-port, edge_at-others, edge_at-waiting, edge_at-nobody}
use Rattle.ptp_profile.proofs.role_laws.one_port_drives_all_clocks.Goals as goal

pub returns-clause-port : goal.returns-clause-port
returns-clause-port c = edge_at-port

pub returns-clause-others : goal.returns-clause-others
returns-clause-others c = edge_at-others

pub returns-clause-waiting : goal.returns-clause-waiting
returns-clause-waiting c = edge_at-waiting

pub returns-clause-nobody : goal.returns-clause-nobody
returns-clause-nobody c = edge_at-nobody
