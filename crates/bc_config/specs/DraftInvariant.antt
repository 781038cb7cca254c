-- What the code keeps of the lines so far beside what they say.
use Rattle.std.specs.Prelude.{◌≡◌, ℕ, ◌+◌, ◌<◌, ◌≤◌, List, length, slice_index}
use Rattle.ptp_base.specs.declared.limits.TheConstants.{CLOCKS_MAX, PORTS_MAX}
use Rattle.ptp_base.specs.declared.port_conf.PortConf.{PortConf}
use Rattle.model_clock.specs.declared.state.ClockState.{ClockState}
use Rattle.bc_history.specs.declared.scenario.Record.{Record}
use Rattle.bc_history.specs.declared.section.Header.{Header}
use Rattle.bc_history.specs.declared.section.Header.TheVariants.{Global, Clock, Port, Records, Queries, Schedule}
use Rattle.bc_history.specs.Scenario.SectionLines.{former_tick}
use Rattle.bc_history.specs.Scenario.Draft.{Draft}

-- the places of former hold the tick of each port's former record
abbrev pub HoldsFormer : List ℕ → List Record → Type 0
HoldsFormer former records =
    (k : ℕ) → k < PORTS_MAX → slice_index former k ≡ former_tick records (k + 1)

-- few clocks and ports, and the former ticks
pub record IsKept
    (former : List ℕ) (records : List Record) (clocks : List ClockState) (ports : List PortConf)
    : Type 0 where
  pub former_ticks : HoldsFormer former records
  pub few_clocks : length clocks ≤ CLOCKS_MAX
  pub few_ports : length ports ≤ PORTS_MAX

-- one more clock or port is still among those that a scenario may have
abbrev pub HasPlace : Draft → Header → Type 0
HasPlace d Global = Unit {0}
HasPlace d (Clock n) = length d.clocks < CLOCKS_MAX
HasPlace d (Port n clock) = (length d.ports < PORTS_MAX) × (clock < CLOCKS_MAX)
HasPlace d Records = Unit {0}
HasPlace d Queries = Unit {0}
HasPlace d Schedule = Unit {0}
