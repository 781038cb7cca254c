-- What a port's own entries say of it. The newest entry is first.
use Rattle.std.specs.Prelude.{◌≡◌, ℕ, Bool, false, ◌==◌, if◌then◌else◌, List, [], ◌∷◌, filter, length, Option, Some, None, option_map, Contains}
use Rattle.ptp_base.specs.declared.port_conf.PortConf.{PortConf}
use Rattle.ptp_profile.specs.declared.roles.RoleOrder.{RoleOrder}
use Rattle.ptp_profile.specs.declared.timing.Measure.{Measure}
use Rattle.ptp_profile.specs.declared.seats.Held.{Held}
use Rattle.bc_history.specs.declared.entry.Entry.{Entry}
use Rattle.bc_history.specs.declared.entry.Input.{Input}
use Rattle.bc_history.specs.declared.entry.Input.TheVariants.{Frame, Timed, Down, Up, Report, Turn, Sampled, Query}
use Rattle.bc_history.specs.declared.entry.Who.TheVariants.{Port}
use Rattle.bc_history.specs.Phases.HubPort.{TickMeasure}
use Rattle.bc_history.specs.declared.scenario.Scenario.{Scenario}
use Rattle.bc_history.specs.Phases.Inputs.{port_at, tick_of}
use Rattle.bc_history.specs.Run.Actors.{is_by}

-- the input is that of a record of port p: a frame, or a link that goes down or comes up
abbrev pub is_record_of : ℕ → Input → Bool
is_record_of p (Frame port tick octets) = port == p
is_record_of p (Timed port tick timer) = false
is_record_of p (Down port tick) = port == p
is_record_of p (Up port tick) = port == p
is_record_of p (Report port tick gener action outcome) = false
is_record_of p (Turn clock tick) = false
is_record_of p (Sampled clock tick lead theirs own action outcome) = false
is_record_of p (Query tick text) = false

-- how many records of port p came
abbrev pub taken_by : ℕ → List Entry → ℕ
taken_by p entries = length (filter (λ (e : Entry). is_record_of p e.input) entries)

-- what an entry measured, at the tick of its input
abbrev pub measured_with : Entry → Option TickMeasure
measured_with e = option_map made e.effects.measure
  where
    made : Measure × Held → TickMeasure
    made m = record { tick = tick_of e.input; measure = m.0; held = m.1 }

-- what the last entry of port p measured, where it did
abbrev pub measured_by : ℕ → List Entry → Option TickMeasure
measured_by p [] = None
measured_by p (e ∷ before) = if is_by (Port p) e then measured_with e else measured_by p before

-- the stamp of the clock of port p, with the port as its controller, as an order gave it
pub record IsHeldByPort (s : Scenario) (orders : List RoleOrder) (p : ℕ) (held : Held) : Type 0 where
  -- the port's configuration; the port is one of the scenario's
  pub conf : PortConf
  pub there : port_at s.ports p ≡ Some conf
  pub clock : held.clock ≡ conf.clock
  pub ctrl : held.ctrl ≡ p
  pub ordered : Contains orders
      (record { clock = held.clock; gener = held.gener; ctrl = held.ctrl })
