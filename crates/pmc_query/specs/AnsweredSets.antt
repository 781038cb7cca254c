-- The data sets of a clock, as those that answers are made from.
use Rattle.std.specs.Prelude.{ℕ, List, map, filter, ◌==◌, ◌||◌}
use Rattle.data_sets.specs.declared.data_sets.DataSets.{DataSets}
use Rattle.data_sets.specs.declared.port_set.PortSet.{PortSet}
use Rattle.data_sets.specs.DataSetsView.{master_in}
use Rattle.ptp_management.specs.ManagementQueries.{AnsweringPort, AnsweringSets, all_ports, port_values, response_to}
use Rattle.ptp_management.specs.ManagementMessages.{managed_octets}
use Rattle.ptp_management.specs.declared.managed.Managed.{Managed}
use Rattle.ptp_management.specs.declared.table.ManagementId.TheVariants.{PortDataSet}

-- portDS, as answers are made from it
abbrev pub answering_port : PortSet → AnsweringPort
answering_port p =
    record {
      id = p.id;
      state = p.state;
      log_announce = p.log_announce;
      log_sync = p.log_sync;
      log_delay = p.log_delay;
      receipt = p.receipt;
    }

-- the data sets, as answers are made from them
abbrev pub answering : DataSets → AnsweringSets
answering d =
    record {
      own = d.own;
      domain = d.domain;
      master = master_in d;
      offset = d.offset;
      delay = d.delay;
      ports = map answering_port d.ports;
    }

-- the answers of those of some ports that a request asks
abbrev pub ports_answers : AnsweringSets → Managed → List PortSet → List (List ℕ)
ports_answers d r ports =
    map (managed_octets d.domain)
    (map (λ p. response_to d r p.id.port PortDataSet (port_values p))
    (filter (λ p. (r.target.port == all_ports) || (r.target.port == p.id.port))
    (map answering_port ports)))
