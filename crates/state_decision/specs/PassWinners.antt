-- The winners of the pass over the ports' best up to each port (IEEE 1588-2019, 9.3.2; the order of
-- the pass is the project's).
use Rattle.std.specs.Prelude.{◌≡◌, ℕ, ◌≤◌, List, take, slice_get, Option, Some, None}
use Rattle.ptp_base.specs.declared.announcement.Announcement.{Announcement}
use Rattle.ptp_profile.specs.declared.port_best.PortBest.{PortBest}
use Rattle.ptp_profile.specs.Best.StateDecision.{bests_of}
use Rattle.ptp_profile.specs.Best.ForeignMasters.{better, ebest}

-- the winner of the pass up to port p: Ebest of the first p ports (project)
abbrev pub winner_up_to : ℕ → List PortBest → Option Announcement
winner_up_to p ports = ebest (bests_of (take p ports))

-- the winner after one port more, which has this best or none (project)
abbrev pub winner_after : Option Announcement → Option Announcement → Option Announcement
winner_after former None = former
winner_after former (Some a) = better former a

-- entry p is the winner of the pass up to port p, for each p up to this one (project)
abbrev pub AreWinnersUpTo : ℕ → List PortBest → List (Option Announcement) → Type 0
AreWinnersUpTo last ports winners =
    (p : ℕ) → p ≤ last → slice_get winners p ≡ Some (winner_up_to p ports)
