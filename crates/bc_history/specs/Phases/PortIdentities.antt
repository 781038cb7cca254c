-- Which ports a scenario has.
use Rattle.std.specs.Prelude.{ℕ, ◌+◌, ◌≡◌, List, length, slice_get, Some}
use Rattle.bc_history.specs.declared.scenario.Scenario.{Scenario}
use Rattle.bc_history.specs.Phases.HubPort.{HubPort}
use Rattle.bc_history.specs.Phases.OpeningState.{local_port}

-- the port of index i: its identity, its number, and its configuration
pub record IsPortOf (s : Scenario) (i : ℕ) (h : HubPort) : Type 0 where
  pub id : h.port.id ≡ local_port s.options (i + 1)
  pub number : h.port.id.port ≡ i + 1
  pub conf : slice_get s.ports i ≡ Some h.port.conf

-- as many ports as the scenario has, each with its number and configuration
pub record ArePortsOf (s : Scenario) (ports : List HubPort) : Type 0 where
  pub number : length ports ≡ length s.ports
  pub each : (i : ℕ) (h : HubPort) → slice_get ports i ≡ Some h → IsPortOf s i h
