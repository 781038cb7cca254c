-- What an entry of a port does to a boundary clock, and what it tells.
use Rattle.std.specs.Prelude.{◌≡◌, ℕ, ◌≤◌, Bool, List, ◌++◌, map, option_map, option_and_then, Option, Some, None, true, false, IsSomeAnd}
use Rattle.ptp_base.specs.declared.identity.PortId.{PortId}
use Rattle.ptp_base.specs.declared.time.TheConstants.{TICK_MAX}
use Rattle.ptp_profile.specs.declared.port_event.Fate.{Fate}
use Rattle.ptp_profile.specs.declared.timing.Measure.{Measure}
use Rattle.ptp_profile.specs.declared.seats.Held.{Held}
use Rattle.bc_history.specs.declared.entry.Sent.{Sent}
use Rattle.bc_history.specs.declared.port_input.PortEntry.{PortEntry}
use Rattle.bc_history.specs.declared.scenario.Options.{Options}
use Rattle.bc_history.specs.Phases.Inputs.{port_at}
use Rattle.bc_history.specs.Phases.PortPhase.{after_port, fate_at}
use Rattle.bc_history.specs.Phases.DecisionPhase.{after_decision, is_kept, newest_sender, raises_decision}
use Rattle.bc_history.specs.Phases.RolePhase.{states_of}
use Rattle.bc_history.specs.Phases.Step.{at_moment, last_measure}
use Rattle.bc_history.specs.Phases.EntryEffects.{moves_from, changed_parent, frames_at}
use Rattle.bc_history.specs.Phases.State.{Core}
use Rattle.bc_history.specs.Phases.HubPort.{HubPort, TickMeasure}
use Rattle.bc_history.specs.Phases.Inputs.{IsTime}
use Rattle.bc_ports.specs.Representation.{CoreRepresents, ClockRepresents}
use Rattle.bc_ports.specs.declared.boundary_clock.BoundaryClock.{BoundaryClock}
use Rattle.bc_ports.specs.declared.hub_port.input.PortOutcome.{PortOutcome}
use Rattle.bc_ports.specs.declared.event.EventOutcome.{EventOutcome}

-- the entry is of one of n ports, its tick is one of a scenario, and its reading is one of a clock
pub record IsAmong (n : ℕ) (e : PortEntry) : Type 0 where
  pub some : 1 ≤ e.input.number
  pub there : e.input.number ≤ n
  pub tick : e.input.tick ≤ TICK_MAX
  pub reading : IsTime e.reading

-- the newest kept Announce of the port is of the sender
abbrev pub IsHeard : ℕ → List HubPort → PortId → Type 0
IsHeard number hs sender = IsSomeAnd (port_at hs number) (λ h. newest_sender h.kept ≡ Some sender)

-- there is a sender exactly where an Announce was kept, and it is that of the port's newest one
abbrev pub IsKeptAt : ℕ → Option Fate → Option PortId → List HubPort → Type 0
IsKeptAt number fate None hs = is_kept fate ≡ false
IsKeptAt number fate (Some sender) hs = (is_kept fate ≡ true) × IsHeard number hs sender

-- the measure that the port's last entry gave, with its stamp
abbrev pub measure_of : ℕ → List HubPort → Option (Measure × Held)
measure_of number hs =
    option_map (λ (m : TickMeasure). (m.measure, m.held))
    (option_and_then (λ (h : HubPort). h.measured) (port_at hs number))

-- the entry's port took its input: core, at the moment of the entry, is what was before it
pub record CoreYields (o : Options) (e : PortEntry) (core : Core) (new : BoundaryClock) (before after : List (List ℕ)) (t : PortOutcome) : Type 0 where
  pub clock : CoreRepresents o new (after_port o e core)
  pub fate : t.fate ≡ fate_at o e core
  pub measure : option_map (λ (m : Measure). (m, e.held)) t.measure ≡ measure_of e.input.number (after_port o e core).ports
  pub frames : after ≡ before ++ map (λ (sent : Sent). sent.octets) (frames_at o e core)
  pub raises_is : t.raises ≡ raises_decision t.fate (port_at core.ports e.input.number) e.input.tick e.input.what
  pub sender : IsKeptAt e.input.number t.fate t.sender (after_port o e core).ports

-- core before an entry, after its own port, and after the decision
abbrev pub core_at : PortEntry → Core → Core
core_at e c = at_moment e.input.tick c

-- ports and data sets once the entry's port took its input
abbrev pub core_ported : Options → PortEntry → Core → Core
core_ported o e c = after_port o e (core_at e c)

-- the entry raises a decision
abbrev pub raises_at : Options → PortEntry → Core → Bool
raises_at o e c =
    raises_decision (fate_at o e (core_at e c)) (port_at (core_at e c).ports e.input.number)
    e.input.tick e.input.what

-- ports and data sets once the decision followed
abbrev pub core_decided : Options → PortEntry → Core → Core
core_decided o e c = after_decision o e (core_at e c) (core_ported o e c)

-- an entry of a port: what stands then, and what it tells; c and measured are what stood before it
pub record EventYields (o : Options) (e : PortEntry) (c : Core) (measured : Option Measure) (new : BoundaryClock) (before after : List (List ℕ)) (made : EventOutcome) : Type 0 where
  pub clock : ClockRepresents o new (core_decided o e c) (last_measure made.measure measured)
  pub fate : made.fate ≡ fate_at o e (core_at e c)
  pub states : made.states ≡ moves_from 1 (states_of c.ports) (states_of (core_ported o e c).ports) (states_of (core_decided o e c).ports)
  pub parent : made.parent ≡ changed_parent c.master.parent (core_decided o e c).master.parent
  pub frames : after ≡ before ++ map (λ (sent : Sent). sent.octets) (frames_at o e (core_at e c))
  pub measure : made.measure ≡ measure_of e.input.number (core_decided o e c).ports
