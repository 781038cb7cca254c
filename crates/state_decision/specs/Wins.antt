-- What comparisons say of one port.
use Rattle.std.specs.Prelude.{Option}
use Rattle.ptp_base.specs.declared.announcement.Announcement.{Announcement}
use Rattle.state_decision.specs.declared.code.Wins.{Wins}
use Rattle.ptp_profile.specs.Best.StateDecision.{wins_against, wins_by_topology}

-- what figure 33 asks of the comparisons for a port with this Erbest (9.3.3)
abbrev pub wins_of : Announcement → Option Announcement → Option Announcement → Wins
wins_of own ebest erbest = record {
  own_over_erbest = wins_against own erbest;
  own_over_ebest = wins_against own ebest;
  ebest_by_topology = wins_by_topology ebest erbest;
}
