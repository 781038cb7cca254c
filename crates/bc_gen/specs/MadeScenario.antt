-- The scenario that a made text stands for (project).
use Rattle.std.specs.Prelude.{ℕ, pos, true, ◌-◌, ◌*◌, ◌*ℤ◌, ◌%◌, List, [], map}
use Rattle.std.specs.List.{flat_map, range_with_len}
use Rattle.ptp_base.specs.declared.port_conf.PortConf.{PortConf}
use Rattle.model_clock.specs.declared.state.ClockState.{ClockState}
use Rattle.model_clock.specs.Clock.{plain_clock}
use Rattle.ptp_profile.specs.Wire.MessageFormat.{message_octets}
use Rattle.bc_history.specs.declared.scenario.Options.{Options}
use Rattle.bc_history.specs.declared.scenario.Record.{Record}
use Rattle.bc_history.specs.declared.scenario.Happening.TheVariants.{Frame}
use Rattle.bc_history.specs.declared.scenario.Scenario.{Scenario}
use Rattle.bc_history.specs.Scenario.Defaults.{default_options, plain_port}
use Rattle.bc_gen.specs.declared.records.MadeRecord.{MadeRecord}
use Rattle.bc_gen.specs.declared.records.TheConstants.{SECOND}
use Rattle.bc_gen.specs.MadeNumbers.{made_drift}
use Rattle.bc_gen.specs.MadeRecords.{made_records}

-- the defaults, but ports may be on different clocks, and the run lasts 640 seconds: 20 a master
abbrev pub made_options : Options
made_options = record default_options { boundary_clock_jbod = true; duration = 640 * SECOND }

-- clock c of scenario n at time 0, its drift in ppb times 65,536
abbrev pub made_clock : ℕ → ℕ → ClockState
made_clock n c = record plain_clock { drift = made_drift n c *ℤ pos 65536 }

-- port p, from 1 on, at the defaults: the ports are dealt to the 16 clocks in turn
abbrev pub made_port : ℕ → PortConf
made_port p = record plain_port { clock = (p - 1) % 16 }

-- a message that a port hears, as the frame of its octets
abbrev pub heard_record : MadeRecord → Record
heard_record r = record { port = r.port; tick = r.tick; what = Frame (message_octets r.message) }

-- what the port of master e of scenario n hears
abbrev pub heard_records : ℕ → ℕ → List Record
heard_records n e = map heard_record (made_records n e)

-- scenario n: 16 clocks, 32 ports, and the records of the 32 masters, one master behind another
unfoldable pub made_scenario : ℕ → Scenario
made_scenario n = record {
  options = made_options;
  clocks = map (made_clock n) (range_with_len 0 16);
  ports = map made_port (range_with_len 1 32);
  records = flat_map (heard_records n) (range_with_len 0 32);
  queries = [];
  turns = [];
}
