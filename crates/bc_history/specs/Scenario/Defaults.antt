-- What a scenario is where its text says nothing of it, and scenarios whose ports hear nothing.
use Rattle.std.specs.Prelude.{ℕ, pos, ◌*◌, [], ◌∷◌, replicate}
use Rattle.ptp_base.specs.declared.port_conf.PortConf.{PortConf}
use Rattle.model_clock.specs.Clock.{plain_clock}
use Rattle.bc_history.specs.declared.scenario.Options.{Options}
use Rattle.bc_history.specs.declared.scenario.Scenario.{Scenario}
use Rattle.bc_history.specs.declared.scenario.TheConstants.{NO_OPTIONS}
use Rattle.bc_history.specs.Scenario.OptionTable.{with_defaults, with_port_defaults}

-- a scenario's options where its text names none
abbrev pub default_options : Options
default_options = with_defaults NO_OPTIONS

-- a port that its text says nothing of
abbrev pub plain_port : PortConf
plain_port =
    with_port_defaults
    (record {
      clock = 0;
      log_announce = pos 0;
      log_sync = pos 0;
      log_delay = pos 0;
      receipt = 0;
    })

-- so many ports that hear nothing, on one clock, for so many seconds
abbrev pub silent : ℕ → ℕ → Scenario
silent seconds count = record {
  options = record default_options { duration = seconds * 1000000000 };
  clocks = plain_clock ∷ [];
  ports = replicate count plain_port;
  records = [];
  queries = [];
  turns = [];
}
