use Rattle.std.proofs.Common.{◌≡◌, ℕ, ◌+◌, List, drop}
use Rattle.std.specs.List.{position_from}
use Rattle.ptp_profile.specs.Port.PortStates.{is_slave}
use Rattle.bc_history.specs.Phases.RolePhase.{states_of}
use Rattle.bc_history.specs.Phases.HubPort.{HubPort}
use Rattle.bc_ports.specs.Representation.{PortsRepresent}
use Rattle.bc_ports.proofs.moment.slave_port.Given as goal

abbrev pub invariant-loop-place : goal.invariant-loop-place
invariant-loop-place l = record {
  searched : (n m : ℕ) (hs : List HubPort) → PortsRepresent n m l.ports hs
      → position_from is_slave 1 (states_of hs) ≡ position_from is_slave (l.place + 1) (states_of (drop l.place hs));
}
