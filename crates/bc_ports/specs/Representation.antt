-- What is kept of ports and data sets, beside what a history gives.
use Rattle.std.specs.Prelude.{◌≡◌, ℕ, ◌+◌, ◌≤◌, List, [], ◌∷◌, map, length, Option}
use Rattle.ptp_base.specs.declared.limits.TheConstants.{PORTS_MAX}
use Rattle.ptp_base.specs.declared.time.TheConstants.{TICK_MAX}
use Rattle.ptp_profile.specs.declared.foreign_master.KeptAnnounce.{KeptAnnounce}
use Rattle.ptp_profile.specs.declared.timing.Measure.{Measure}
use Rattle.ptp_profile.specs.Port.Port.{Port}
use Rattle.ptp_profile.specs.Port.PortTimers.{window_of}
use Rattle.foreign_master.specs.RecordsView.{RecordsRepresent}
use Rattle.foreign_master.specs.ForeignMasterTable.{IsReached}
use Rattle.data_sets.specs.declared.data_sets.DataSets.{DataSets}
use Rattle.data_sets.specs.declared.port_set.PortSet.{PortSet}
use Rattle.data_sets.specs.DataSetsView.{master_in}
use Rattle.bc_history.specs.declared.scenario.Options.{Options}
use Rattle.bc_history.specs.Phases.State.{Core}
use Rattle.bc_history.specs.Phases.HubPort.{HubPort}
use Rattle.bc_history.specs.Phases.OpeningState.{local_announcement, local_port}
use Rattle.bc_history.specs.Phases.QueryAnswers.{offset_within, delay_within}
use Rattle.port_engine.specs.EngineView.{EngineRepresents}
use Rattle.bc_ports.specs.declared.hub_port.HubPort.{HubPort as KeptPort}
use Rattle.bc_ports.specs.declared.boundary_clock.BoundaryClock.{BoundaryClock}

-- ---- a port

-- an engine, with a mean over so many delays, and the Announces that were kept, none of them later
-- than m
pub record Represents (length m : ℕ) (q : KeptPort) (port : Port) (kept : List KeptAnnounce) : Type 0 where
  pub engine : EngineRepresents length q.engine port
  pub records : RecordsRepresent q.records kept
  pub reached : IsReached m kept
  pub window : q.records.window ≡ window_of port.conf
  pub receiver : q.records.receiver ≡ port.id

-- the code's port stands for the history's
abbrev pub PortRepresents : ℕ → ℕ → KeptPort → HubPort → Type 0
PortRepresents length m q h = Represents length m q h.port h.kept

-- so is each port, in rising number
abbrev pub PortsRepresent : ℕ → ℕ → List KeptPort → List HubPort → Type 0
PortsRepresent length m [] [] = Unit {0}
PortsRepresent length m (q ∷ qs) (h ∷ hs) =
    PortRepresents length m q h × PortsRepresent length m qs hs
PortsRepresent length m [] (h ∷ hs) = ⊥
PortsRepresent length m (q ∷ qs) [] = ⊥

-- what never changes in a port
pub record IsSamePort (old new : KeptPort) : Type 0 where
  pub window : new.records.window ≡ old.records.window
  pub receiver : new.records.receiver ≡ old.records.receiver

-- the port of a number, of a clock with these options
abbrev pub IsNumbered : Options → ℕ → KeptPort → Type 0
IsNumbered o n q = q.records.receiver ≡ local_port o n

-- the ports of the clock, from number n on
abbrev pub ArePortsOf : Options → ℕ → List KeptPort → Type 0
ArePortsOf o n [] = Unit {0}
ArePortsOf o n (q ∷ qs) = IsNumbered o n q × ArePortsOf o (n + 1) qs

-- ---- the clock

-- the data sets are those of a clock with these options (8.2.1)
pub record IsClockOf (o : Options) (d : DataSets) : Type 0 where
  pub own : d.own ≡ local_announcement o
  pub domain : d.domain ≡ o.domain_number
  pub local_time : d.local_time ≡ (local_announcement o).time

-- moment, master and ports
pub record CoreRepresents (o : Options) (n : BoundaryClock) (c : Core) : Type 0 where
  pub moment : n.moment ≡ c.moment
  pub clock : IsClockOf o n.sets
  pub master : master_in n.sets ≡ c.master
  pub own : n.decider.own ≡ local_announcement o
  pub numbers : ArePortsOf o 1 n.ports.items
  pub ports : PortsRepresent o.delay_filter_length n.moment n.ports.items c.ports

-- portDS of a port (8.2.15)
abbrev pub port_set : HubPort → PortSet
port_set h = record {
  id = h.port.id;
  state = h.port.state;
  log_announce = h.port.conf.log_announce;
  log_sync = h.port.conf.log_sync;
  log_delay = h.port.conf.log_delay;
  receipt = h.port.conf.receipt;
}

-- offsetFromMaster and meanDelay are those of the last measure (8.2.2)
pub record MeasureRepresents (d : DataSets) (measured : Option Measure) : Type 0 where
  pub offset : d.offset ≡ offset_within measured
  pub delay : d.delay ≡ delay_within measured

-- the whole of a clock: core, portDS of each port, and the last measure
pub record ClockRepresents (o : Options) (n : BoundaryClock) (c : Core) (measured : Option Measure) : Type 0 where
  pub core : CoreRepresents o n c
  pub port_sets : n.sets.ports ≡ map port_set c.ports
  pub measure : MeasureRepresents n.sets measured

-- what always holds of a clock: at most PORTS_MAX ports, each with its portDS, its part of the
-- decision and a place for its state, and a moment of a scenario
pub record IsSound (n : BoundaryClock) : Type 0 where
  pub few : n.ports.len ≤ PORTS_MAX
  pub early : n.moment ≤ TICK_MAX
  pub sets : length n.sets.ports ≡ n.ports.len
  pub bests : n.ports.len ≤ length n.scratch.bests.items + n.scratch.bests.spare
  pub codes : n.scratch.codes.len ≡ n.ports.len
  pub states : n.ports.len ≤ length n.scratch.states.items + n.scratch.states.spare
  pub decided : length n.decider.bests ≡ n.ports.len
