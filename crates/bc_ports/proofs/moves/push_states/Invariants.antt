use Rattle.std.proofs.Common.{◌≡◌, ℕ, ◌+◌, ◌≤◌, List, ◌++◌, drop, length}
use Rattle.bc_history.specs.Phases.RolePhase.{states_of}
use Rattle.bc_history.specs.Phases.HubPort.{HubPort}
use Rattle.bc_ports.specs.Representation.{PortsRepresent}
use Rattle.bc_ports.proofs.moves.push_states.Given as goal

abbrev pub invariant-loop-port : goal.invariant-loop-port
invariant-loop-port l = record {
  room : length l.ports ≤ l.out.spare + l.port-index;
  count : length l.out.items ≡ l.port-index;
  states : (n m : ℕ) (hs : List HubPort) → PortsRepresent n m l.ports hs → l.out.items ++ states_of (drop l.port-index hs) ≡ states_of hs;
}
