-- Whom a clock takes its time from, in its data sets (IEEE 1588-2019, 8.2.2 to 8.2.4).
use Rattle.ptp_base.specs.declared.identity.PortId.{PortId}
use Rattle.ptp_base.specs.declared.announcement.Announcement.{Announcement}
use Rattle.ptp_profile.specs.Best.MasterData.{Master}
use Rattle.data_sets.specs.declared.data_sets.DataSets.{DataSets}

-- port 0 of the clock that sent the announcement
abbrev pub port_zero : Announcement → PortId
port_zero own = record { clock = own.sender.clock; port = 0 }

-- what the clock announces where it follows nobody: by its port 0, with its own time properties
abbrev pub announced_by : DataSets → Announcement
announced_by d = record d.own { sender = port_zero d.own; time = d.local_time }

-- the five fields that a decision sets
abbrev pub master_in : DataSets → Master
master_in d =
    record {
      parent = d.parent;
      grandmaster = d.grandmaster;
      quality = d.gm_quality;
      steps = d.steps;
      time = d.time;
    }

-- the data sets with these five fields; the others stay
abbrev pub with_master : DataSets → Master → DataSets
with_master d m =
    record d {
      parent = m.parent;
      grandmaster = m.grandmaster;
      gm_quality = m.quality;
      steps = m.steps;
      time = m.time;
    }
