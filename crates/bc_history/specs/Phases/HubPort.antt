-- A port of the hub: what a history gives of one port.
use Rattle.std.specs.Prelude.{ℕ, List, Option}
use Rattle.ptp_profile.specs.declared.timing.Measure.{Measure}
use Rattle.ptp_profile.specs.declared.seats.Held.{Held}
use Rattle.ptp_profile.specs.declared.foreign_master.KeptAnnounce.{KeptAnnounce}
use Rattle.ptp_profile.specs.Port.Port.{Port}

-- a measure of an entry of a tick, and the stamp under which it was made
pub record TickMeasure : Type 0 where
  pub tick : ℕ
  pub measure : Measure
  pub held : Held

-- one port, with what the hub keeps beside its machine
pub record HubPort : Type 0 where
  pub port : Port
  -- the Announces with the fate kept since the last reset, the newest first
  pub kept : List KeptAnnounce
  -- how many records of the scenario came
  pub taken : ℕ
  -- what the port's last entry measured, where it did
  pub measured : Option TickMeasure
