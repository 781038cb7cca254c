-- What every scenario keeps: ranges, orders and limits. They are the invariant of the type
-- `Scenario`, so who has a scenario needs no test of them (project).
use Rattle.std.specs.Prelude.{◌≡◌, ℕ, pos, ◌<◌, ◌≤◌, false, List, length}
use Rattle.std.specs.List.{All, AllPairs}
use Rattle.ptp_base.specs.declared.limits.TheConstants.{CLOCKS_MAX, FRAME_MAX, PORTS_MAX, QUERY_MAX}
use Rattle.ptp_base.specs.declared.time.TheConstants.{TICK_MAX}
use Rattle.ptp_base.specs.declared.port_conf.PortConf.{PortConf}
use Rattle.model_clock.specs.declared.state.ClockState.{ClockState}
use Rattle.bc_history.specs.declared.scenario.Options.{Options}
use Rattle.bc_history.specs.declared.scenario.Record.{Record}
use Rattle.bc_history.specs.declared.scenario.Happening.{Happening}
use Rattle.bc_history.specs.declared.scenario.Happening.TheVariants.{Frame, Down, Up}
use Rattle.bc_history.specs.declared.scenario.Asked.{Asked}
use Rattle.bc_history.specs.declared.scenario.Turns.{Turns}
use Rattle.bc_history.specs.declared.scenario.Turner.{Turner}
use Rattle.bc_history.specs.declared.scenario.Turner.TheVariants.{Default, Port, Clock, Queries}
use Rattle.bc_history.specs.declared.scenario.Scenario.TheInside.{Inside}
use Rattle.bc_history.specs.Scenario.Scenario.{Scenario}
use Rattle.bc_history.specs.Scenario.QueryTexts.{IsQueryText}
use Rattle.bc_history.specs.Scenario.OptionTable.{IsFrom, EachRow, OptionIsFrom, PortOptionIsFrom, ClockOptionIsFrom, option_table}

-- the options are in the ranges of the table
abbrev pub AreOptions : Options → Type 0
AreOptions o = EachRow (OptionIsFrom o) option_table

-- a port's options are in the ranges of the table
abbrev pub IsPortConf : PortConf → Type 0
IsPortConf p = EachRow (PortOptionIsFrom p) option_table

-- a clock begins at tick 0 and at its own pace, its options in the ranges of the table
pub record IsOpeningClock (c : ClockState) : Type 0 where
  pub tick : c.tick ≡ 0
  pub freq : c.freq ≡ pos 0
  pub options : EachRow (ClockOptionIsFrom c) option_table

-- a frame has 1 to FRAME_MAX octets
abbrev pub IsHappening : Happening → Type 0
IsHappening (Frame octets) = IsFrom 1 FRAME_MAX (length octets)
IsHappening Down = Unit {0}
IsHappening Up = Unit {0}

-- a record is of one of so many ports
pub record IsRecordOf (ports : ℕ) (r : Record) : Type 0 where
  pub port : IsFrom 1 ports r.port
  pub tick : r.tick ≤ TICK_MAX
  pub what : IsHappening r.what

-- of two records of one port the later one isn't earlier in time
abbrev pub IsRecordBefore : Record → Record → Type 0
IsRecordBefore former later = former.port ≡ later.port → former.tick ≤ later.tick

-- a query's text is words, with 1 to QUERY_MAX octets in all
pub record IsQuery (q : Asked) : Type 0 where
  pub tick : q.tick ≤ TICK_MAX
  pub text : IsFrom 1 QUERY_MAX (length q.text)
  pub words : IsQueryText q.text

-- ticks of queries don't fall
abbrev pub IsQueryBefore : Asked → Asked → Type 0
IsQueryBefore former later = former.tick ≤ later.tick

-- whose turn it is, is one of so many clocks or ports; clocks have turns where there are two or
-- more
abbrev pub IsTurnerOf : (clocks ports : ℕ) → Turner → Type 0
IsTurnerOf clocks ports Default = Unit {0}
IsTurnerOf clocks ports (Port n) = IsFrom 1 ports n
IsTurnerOf clocks ports (Clock n) = (2 ≤ clocks) × (n < clocks)
IsTurnerOf clocks ports Queries = Unit {0}

-- turns of an actor who is there
pub record AreTurnsOf (clocks ports : ℕ) (t : Turns) : Type 0 where
  pub who : IsTurnerOf clocks ports t.who
  pub count : IsFrom 1 1000000 t.count

-- all ports are on one clock, that of port 1
abbrev pub AreTogether : List PortConf → Type 0
AreTogether ports = AllPairs (λ (p q : PortConf). p.clock ≡ q.clock) ports

-- what every scenario keeps
pub record IsScenario (s : Scenario) : Type 0 where
  pub options : AreOptions s.options
  pub clock_count : IsFrom 1 CLOCKS_MAX (length s.clocks)
  pub clocks : All IsOpeningClock s.clocks
  pub port_count : IsFrom 1 PORTS_MAX (length s.ports)
  pub ports : All IsPortConf s.ports
  -- each port is on a clock that is there, and where boundary_clock_jbod is 0 all are on one
  pub placed : All (λ p. p.clock < length s.clocks) s.ports
  pub together : s.options.boundary_clock_jbod ≡ false → AreTogether s.ports
  -- the ticks of one port don't fall
  pub records : All (IsRecordOf (length s.ports)) s.records
  pub record_order : AllPairs IsRecordBefore s.records
  -- the ticks of queries don't fall
  pub queries : All IsQuery s.queries
  pub query_order : AllPairs IsQueryBefore s.queries
  pub turns : All (AreTurnsOf (length s.clocks) (length s.ports)) s.turns

-- what the fields of the type `Scenario` say
abbrev pub said : Inside → Scenario
said s =
    record {
      options = s.options;
      clocks = s.clocks;
      ports = s.ports;
      records = s.records;
      queries = s.queries;
      turns = s.turns;
    }
