-- What a run begins with.
use Rattle.std.specs.Prelude.{◌≡◌, ℕ, ◌+◌, List, [], ◌∷◌}
use Rattle.ptp_base.specs.declared.port_conf.PortConf.{PortConf}
use Rattle.ptp_base.specs.declared.port_state.PortState.TheVariants.{Listening}
use Rattle.data_sets.specs.declared.port_set.PortSet.{PortSet}
use Rattle.bc_history.specs.declared.scenario.Options.{Options}
use Rattle.bc_history.specs.Phases.OpeningState.{open_hub_port, local_port}
use Rattle.bc_ports.specs.Representation.{PortRepresents}
use Rattle.bc_ports.specs.declared.hub_port.HubPort.{HubPort as KeptPort}

-- the port of a number with a configuration
pub record IsOpenPort (o : Options) (port : ℕ) (conf : PortConf) (q : KeptPort) : Type 0 where
  pub represents : PortRepresents o.delay_filter_length 0 q (open_hub_port o port conf)
  pub receiver : q.records.receiver ≡ local_port o port

-- the ports from a number on
abbrev pub ArePortsFrom : Options → ℕ → List KeptPort → List PortConf → Type 0
ArePortsFrom o port [] [] = Unit {0}
ArePortsFrom o port (q ∷ qs) (conf ∷ confs) =
    IsOpenPort o port conf q × ArePortsFrom o (port + 1) qs confs
ArePortsFrom o port [] (conf ∷ confs) = ⊥
ArePortsFrom o port (q ∷ qs) [] = ⊥

-- portDS of a port in LISTENING
abbrev pub port_set_from : Options → ℕ → PortConf → PortSet
port_set_from o port conf = record {
  id = local_port o port;
  state = Listening;
  log_announce = conf.log_announce;
  log_sync = conf.log_sync;
  log_delay = conf.log_delay;
  receipt = conf.receipt;
}

-- of the ports from a number on
abbrev pub port_sets_from : Options → ℕ → List PortConf → List PortSet
port_sets_from o port [] = []
port_sets_from o port (conf ∷ confs) = port_set_from o port conf ∷ port_sets_from o (port + 1) confs
