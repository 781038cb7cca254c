-- The intervals of a port.
use Rattle.std.specs.Prelude.{ℤ, pos, negsuc, ◌≤ℤ◌}
use Rattle.ptp_base.specs.declared.port_conf.PortConf.{PortConf}

-- the logarithm to base 2 of an interval in seconds, as the profile has it: from -7 to 10 (7.7.2)
pub record IsInterval (log : ℤ) : Type 0 where
  pub low : negsuc 6 ≤ℤ log
  pub high : log ≤ℤ pos 10

-- the intervals of a port are those of the profile
pub record HasIntervals (conf : PortConf) : Type 0 where
  pub announce : IsInterval conf.log_announce
  pub sync : IsInterval conf.log_sync
  pub delay : IsInterval conf.log_delay
