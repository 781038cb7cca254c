-- The data sets that a decision changes (IEEE 1588-2019, 9.3.5, tables 30 to 33).
use Rattle.std.specs.Prelude.{ℕ, ◌+◌, Option, Some, None, List, fold}
use Rattle.ptp_base.specs.declared.identity.ClockId.{ClockId}
use Rattle.ptp_base.specs.declared.identity.PortId.{PortId}
use Rattle.ptp_base.specs.declared.announcement.Quality.{Quality}
use Rattle.ptp_base.specs.declared.announcement.Announcement.{Announcement}
use Rattle.ptp_base.specs.declared.announcement.TimeProps.{TimeProps}
use Rattle.ptp_base.specs.declared.code.Code.{Code}
use Rattle.ptp_base.specs.declared.code.Code.TheVariants.{Stay, M1, M2, M3, P1, P2, S1}

-- whom the clock takes its time from: the parts of currentDS, parentDS and timePropertiesDS that a
-- decision sets (8.2.2 to 8.2.4)
pub record Master : Type 0 where
  pub parent : PortId
  pub grandmaster : ClockId
  pub quality : Quality
  pub steps : ℕ
  pub time : TimeProps

-- after M1 or M2: the own clock (table 30)
abbrev pub local_master : Announcement → Master
local_master own =
    record {
      parent = own.sender;
      grandmaster = own.grandmaster;
      quality = own.quality;
      steps = 0;
      time = own.time;
    }

-- after S1: what the best announcement says, one step further (table 33)
abbrev pub master_of : Announcement → Master
master_of a =
    record {
      parent = a.sender;
      grandmaster = a.grandmaster;
      quality = a.quality;
      steps = a.steps + 1;
      time = a.time;
    }

-- whom the clock takes its time from, where it follows the best announcement
abbrev pub best_master : Master → Option Announcement → Master
best_master former None = former
best_master former (Some a) = master_of a

-- the data sets after a port's code, with the own announcement and the best of all ports
abbrev pub after_code : Announcement → Option Announcement → Master → Code → Master
after_code own ebest former M1 = local_master own
after_code own ebest former M2 = local_master own
after_code own ebest former S1 = best_master former ebest
after_code own ebest former Stay = former
after_code own ebest former M3 = former
after_code own ebest former P1 = former
after_code own ebest former P2 = former

-- the data sets after the codes of all ports, in rising port number
abbrev pub master_after : Announcement → Option Announcement → Master → List Code → Master
master_after own ebest former codes = fold (after_code own ebest) former codes
