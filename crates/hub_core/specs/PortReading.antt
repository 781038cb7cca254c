-- What a port's clock reads at an input.
use Rattle.std.specs.Prelude.{List, if◌then◌else◌, Option, None, option_map, option_and_then}
use Rattle.ptp_base.specs.declared.port_conf.PortConf.{PortConf}
use Rattle.model_clock.specs.Clock.{clock_at}
use Rattle.ptp_profile.specs.declared.seats.LogEntry.{LogEntry}
use Rattle.ptp_profile.specs.Roles.SeatLogs.{log_at, whole_reading}
use Rattle.bc_history.specs.declared.entry.Input.{Input}
use Rattle.bc_history.specs.declared.entry.Seen.{Seen}
use Rattle.bc_history.specs.declared.scenario.Scenario.{Scenario}
use Rattle.bc_history.specs.Phases.Inputs.{tick_of, port_of, port_at, is_read}
use Rattle.bc_history.specs.Run.World.{seen_at}

-- the reading that comes with an input, where it comes with one: that of its port's clock at its
-- tick, after all entries of the clock's log
abbrev pub input_seen : Scenario → List (List LogEntry) → Input → Option Seen
input_seen s logs input = if is_read input then option_map read (option_and_then (port_at s.ports) (port_of input)) else None
  where
    read : PortConf → Seen
    read conf = seen_at (tick_of input)
        (whole_reading (clock_at s.clocks conf.clock) (log_at logs conf.clock))
