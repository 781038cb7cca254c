-- What the lines of a scenario text say so far (project).
use Rattle.std.specs.Prelude.{ℕ, ◌-◌, List, [], ◌∷◌, length, slice_get, slice_set, Option, Some, None}
use Rattle.ptp_base.specs.declared.port_conf.PortConf.{PortConf}
use Rattle.model_clock.specs.declared.state.ClockState.{ClockState}
use Rattle.bc_history.specs.declared.scenario.Options.{Options}
use Rattle.bc_history.specs.declared.scenario.Record.{Record}
use Rattle.bc_history.specs.declared.scenario.Asked.{Asked}
use Rattle.bc_history.specs.declared.scenario.Turns.{Turns}
use Rattle.bc_history.specs.declared.scenario.Scenario.{Scenario}
use Rattle.bc_history.specs.declared.section.Section.{Section}
use Rattle.bc_history.specs.Scenario.Defaults.{default_options, plain_port}
use Rattle.model_clock.specs.Clock.{plain_clock}

-- what the lines so far say
pub record Draft : Type 0 where
  -- the section in force
  pub section : Option Section
  -- the options that stand in it, by their numbers
  pub named : List ℕ
  -- the options of the whole
  pub options : Options
  -- what a port begins with
  pub defaults : PortConf
  pub clocks : List ClockState
  pub ports : List PortConf
  pub records : List Record
  pub queries : List Asked
  pub turns : List Turns

-- what no line says
abbrev pub empty_draft : Draft
empty_draft = record {
  section = None;
  named = [];
  options = default_options;
  defaults = plain_port;
  clocks = [];
  ports = [];
  records = [];
  queries = [];
  turns = [];
}

-- a list with its last element changed
abbrev pub with_last : {T : Type 0} → (T → T) → List T → List T
with_last {T} f xs = by (slice_get xs (length xs - 1))
  where
    by : Option T → List T
    by None = xs
    by (Some x) = slice_set xs (length xs - 1) (f x)

-- one plain clock where no clock section stands
abbrev pub clocks_of : List ClockState → List ClockState
clocks_of [] = plain_clock ∷ []
clocks_of (clock ∷ clocks) = clock ∷ clocks

-- the scenario that the lines describe
abbrev pub scenario_of : Draft → Scenario
scenario_of d = record {
  options = d.options;
  clocks = clocks_of d.clocks;
  ports = d.ports;
  records = d.records;
  queries = d.queries;
  turns = d.turns;
}
