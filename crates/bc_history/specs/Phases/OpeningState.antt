-- What stands before the first entry.
use Rattle.std.specs.Prelude.{ℕ, ◌+◌, List, [], ◌∷◌, length, replicate, nat_le, if◌then◌else◌, None, false}
use Rattle.ptp_base.specs.declared.identity.PortId.{PortId}
use Rattle.ptp_base.specs.declared.announcement.Announcement.{Announcement}
use Rattle.ptp_base.specs.declared.announcement.Quality.{Quality}
use Rattle.ptp_base.specs.declared.port_conf.PortConf.{PortConf}
use Rattle.ptp_profile.specs.Best.MasterData.{local_master}
use Rattle.ptp_profile.specs.Port.Port.{open_port}
use Rattle.ptp_profile.specs.declared.timing.ServoConf.{ServoConf}
use Rattle.bc_history.specs.declared.scenario.Scenario.{Scenario}
use Rattle.bc_history.specs.declared.scenario.Options.{Options}
use Rattle.bc_history.specs.Phases.State.{Follower, State}
use Rattle.bc_history.specs.Phases.HubPort.{HubPort}

-- the identity of a port of the own clock
abbrev pub local_port : Options → ℕ → PortId
local_port o p = record { clock = o.clock_identity; port = p }

-- the quality of this clock: defaultDS.clockQuality with the priorities (8.2.1)
abbrev pub local_quality : Options → Quality
local_quality o =
    record {
      priority1 = o.priority1;
      class = o.clock_class;
      accuracy = o.clock_accuracy;
      variance = o.offset_scaled_log_variance;
      priority2 = o.priority2;
    }

-- what the own clock would announce (D0 of IEEE 1588-2019, 9.3.4)
abbrev pub local_announcement : Options → Announcement
local_announcement o = record {
  grandmaster = o.clock_identity;
  quality = local_quality o;
  steps = 0;
  sender = local_port o 0;
  receiver = local_port o 0;
  time = record { utc_offset = o.utc_offset; flags = o.time_flags; source = o.time_source };
  alternate = false;
}

-- the servo's options
abbrev pub servo_of : Options → ServoConf
servo_of o =
    record {
      kp = o.servo_kp;
      ki = o.servo_ki;
      max = o.max_frequency;
      step = o.step_threshold;
      first_step = o.first_step_threshold;
    }

-- port p before the first entry
abbrev pub open_hub_port : Options → ℕ → PortConf → HubPort
open_hub_port o p conf =
    record { port = open_port (local_port o p) conf; kept = []; taken = 0; measured = None }

-- the ports from p on
abbrev pub open_ports : Options → ℕ → List PortConf → List HubPort
open_ports o p [] = []
open_ports o p (conf ∷ confs) = open_hub_port o p conf ∷ open_ports o (p + 1) confs

-- a follower before the first entry
abbrev pub open_follower : Follower
open_follower = record { turns = 0; subscribed = None; last = None; put = 0; leading = None }

-- a follower exists for each clock exactly where there are two clocks or more (project)
abbrev pub follower_count : Scenario → ℕ
follower_count s = if nat_le 2 (length s.clocks) then length s.clocks else 0

-- every port in LISTENING, the own clock as master, no edges and no orders
abbrev pub opening : Scenario → State
opening s = record {
  core =
      record
      { moment = 0; ports = open_ports s.options 1 s.ports; master = local_master (local_announcement s.options) };
  roles = record { edges = replicate (length s.clocks) None; gener = 0; orders = [] };
  measured = None;
  followers = replicate (follower_count s) open_follower;
  queries = 0;
  requests = 0;
}
