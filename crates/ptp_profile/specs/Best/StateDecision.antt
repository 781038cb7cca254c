-- What a decision says of each port (IEEE 1588-2019, 9.3.3, figure 33).
use Rattle.std.specs.Prelude.{ℕ, Bool, true, false, ◌==◌, ◌&&◌, nat_le, if◌then◌else◌, List, map, Option, Some, None}
use Rattle.std.specs.List.{enumerate_from}
use Rattle.ptp_base.specs.declared.announcement.Announcement.{Announcement}
use Rattle.ptp_base.specs.declared.code.Code.{Code}
use Rattle.ptp_base.specs.declared.code.Code.TheVariants.{Stay, M1, M2, M3, P1, P2, S1}
use Rattle.ptp_base.specs.declared.port_state.PortState.{PortState}
use Rattle.ptp_base.specs.declared.port_state.PortState.TheVariants.{Initializing, Faulty, Disabled, Listening, PreMaster, Master, Passive, Uncalibrated, Slave}
use Rattle.ptp_profile.specs.declared.port_best.PortBest.{PortBest}
use Rattle.ptp_profile.specs.Best.Comparison.{wins, order_of, is_a_topo}
use Rattle.ptp_profile.specs.Best.ForeignMasters.{ebest}

-- an empty one loses to every other (9.3.3)
abbrev pub wins_against : Announcement → Option Announcement → Bool
wins_against a None = true
wins_against a (Some b) = wins a b

-- the first is better by topology; an empty one never wins and never loses by topology (9.3.3)
abbrev pub wins_by_topology : Option Announcement → Option Announcement → Bool
wins_by_topology None b = false
wins_by_topology (Some a) None = false
wins_by_topology (Some a) (Some b) = is_a_topo (order_of a b)

-- it was received on this port (9.3.3)
abbrev pub is_received_on : ℕ → Option Announcement → Bool
is_received_on p None = false
is_received_on p (Some a) = a.receiver.port == p

-- the own clock is of class 1 to 127, and so none of its ports becomes a slave (9.3.3)
abbrev pub never_follows : Announcement → Bool
never_follows own = nat_le 1 own.quality.class && nat_le own.quality.class 127

-- the code of port p where it decides: the first that holds of M1, P1, M2, S1, P2 and M3 (9.3.3,
-- figure 33)
abbrev pub decided_code : Announcement → Option Announcement → ℕ → Option Announcement → Code
decided_code own ebest p erbest =
    if never_follows own && wins_against own erbest then M1
    else if never_follows own then P1
    else if wins_against own ebest then M2
    else if is_received_on p ebest then S1
    else if wins_by_topology ebest erbest then P2
    else M3

-- a port that is faulty, disabled or initializing decides nothing, nor does one that listens and
-- has no Erbest (9.3.3; the code for it is the project's)
abbrev pub decides_nothing : PortState → Option Announcement → Bool
decides_nothing Faulty erbest = true
decides_nothing Disabled erbest = true
decides_nothing Initializing erbest = true
decides_nothing Listening None = true
decides_nothing Listening (Some a) = false
decides_nothing PreMaster erbest = false
decides_nothing Master erbest = false
decides_nothing Passive erbest = false
decides_nothing Uncalibrated erbest = false
decides_nothing Slave erbest = false

-- the code of port p, by the own announcement, Ebest, the port's state and its Erbest (9.3.3,
-- figure 33)
abbrev pub code_of : Announcement → Option Announcement → ℕ → PortState → Option Announcement → Code
code_of own ebest p state erbest =
    if decides_nothing state erbest then Stay else decided_code own ebest p erbest

-- the best of each port, in rising port number
abbrev pub bests_of : List PortBest → List (Option Announcement)
bests_of ports = map (λ (port : PortBest). port.best) ports

-- the codes of all ports, of which the first is port 1 (9.3.3, figure 33)
abbrev pub codes_of : Announcement → List PortBest → List Code
codes_of own ports =
    map
    (λ (port : ℕ × PortBest).
    code_of own (ebest (bests_of ports)) port.0 port.1.state port.1.best)
    (enumerate_from 1 ports)
