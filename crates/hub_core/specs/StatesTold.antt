-- What an event tells of the ports' states and of the parent.
use Rattle.std.specs.Prelude.{◌≡◌, List, length}
use Rattle.ptp_base.specs.declared.port_state.PortState.{PortState}
use Rattle.bc_history.specs.Phases.EntryEffects.{changed_parent, moves_from}
use Rattle.bc_history.specs.Phases.RolePhase.{clocks_of, states_of}
use Rattle.bc_history.specs.Phases.State.{Core}
use Rattle.bc_ports.specs.declared.event.EventOutcome.{EventOutcome}

-- it tells how the ports moved from old to new, by way of the states in between, and the parent where
-- that changed; the ports keep their clocks
pub record IsTold (old new : Core) (told : EventOutcome) : Type 0 where
  pub between : List PortState
  pub long : length between ≡ length old.ports
  pub clocks : clocks_of new.ports ≡ clocks_of old.ports
  pub states : told.states ≡ moves_from 1 (states_of old.ports) between (states_of new.ports)
  pub parent : told.parent ≡ changed_parent old.master.parent new.master.parent
