-- What a scenario says: the value of the type `Scenario`, whose values keep the rules of
-- `ScenarioRules.IsScenario`.
use Rattle.std.specs.Prelude.{List}
use Rattle.ptp_base.specs.declared.port_conf.PortConf.{PortConf}
use Rattle.model_clock.specs.declared.state.ClockState.{ClockState}
use Rattle.bc_history.specs.declared.scenario.Options.{Options}
use Rattle.bc_history.specs.declared.scenario.Record.{Record}
use Rattle.bc_history.specs.declared.scenario.Asked.{Asked}
use Rattle.bc_history.specs.declared.scenario.Turns.{Turns}

-- what a run is made from; the ports are numbered from 1, the clocks from 0
pub record Scenario : Type 0 where
  pub options : Options
  pub clocks : List ClockState
  pub ports : List PortConf
  -- what happens to the ports, and the management queries
  pub records : List Record
  pub queries : List Asked
  -- the schedule; behind it the default rule says whose turn it is
  pub turns : List Turns
