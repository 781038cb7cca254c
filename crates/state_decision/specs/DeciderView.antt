-- What contracts see of a Decider.
use Rattle.std.specs.Prelude.{◌≡◌, ℕ, ◌+◌, ◌-◌, ◌≤◌, Bool, List, length, map, slice_get, Option, option_map, Some, None}
use Rattle.ptp_base.specs.declared.limits.TheConstants.{PORTS_MAX}
use Rattle.ptp_base.specs.declared.announcement.Announcement.{Announcement}
use Rattle.ptp_base.specs.declared.port_state.PortState.TheVariants.{Listening}
use Rattle.ptp_profile.specs.declared.port_best.PortBest.{PortBest}
use Rattle.ptp_profile.specs.Best.StateDecision.{bests_of, wins_against, wins_by_topology}
use Rattle.ptp_profile.specs.Best.ForeignMasters.{ebest}
use Rattle.state_decision.specs.PassWinners.{AreWinnersUpTo}

-- the own announcement, and the state and best that each port was last set to, the first of port 1
pub record DeciderView : Type 0 where
  pub own : Announcement
  pub bests : List PortBest

-- a port that was not set: it listens, and has no best (project)
abbrev pub unset : PortBest
unset = record { state = Listening; best = None }

-- port p is there and has this best
abbrev pub HasBest : ℕ → List PortBest → Option Announcement → Type 0
HasBest p ports best =
    option_map (λ (port : PortBest). port.best) (slice_get ports (p - 1)) ≡ Some best

-- what a Decider keeps of comparisons is what they say of its own announcement and of its ports: the
-- winner of the pass up to each port, whether the own announcement wins against each port's best and
-- against Ebest, and whether Ebest wins by topology against each port's best
pub record IsDecider (own : Announcement) (ports : List PortBest)
    (pass : List (Option Announcement)) (over_erbest : List Bool) (over_ebest : Bool)
    (topology : List Bool) : Type 0 where
  pub few : length ports ≤ PORTS_MAX
  pub entries : length pass ≡ length ports + 1
  pub winners : AreWinnersUpTo (length ports) ports pass
  pub own_over_erbest : over_erbest ≡ map (λ (port : PortBest). wins_against own port.best) ports
  pub own_over_ebest : over_ebest ≡ wins_against own (ebest (bests_of ports))
  pub by_topology : topology
      ≡ map (λ (port : PortBest). wins_by_topology (ebest (bests_of ports)) port.best) ports
