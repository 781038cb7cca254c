use Rattle.std.proofs.Common.{◌≡◌, ℕ, ◌+◌, ◌*◌, ◌≤◌, List, ◌++◌, drop, length}
use Rattle.std.specs.Prelude.{All}
use Rattle.ptp_profile.specs.declared.port_best.PortBest.{PortBest}
use Rattle.bc_history.specs.Phases.HubPort.{HubPort}
use Rattle.bc_ports.specs.Representation.{PortsRepresent}
use Rattle.bc_ports.specs.DecisionCost.{passing}
use Rattle.bc_ports.specs.DecisionScratch.{IsNear, port_bests}
use Rattle.bc_ports.proofs.decision.push_bests.Given as goal

abbrev pub invariant-loop-port : goal.invariant-loop-port
invariant-loop-port g l = record {
  room : length l.ports ≤ l.out.spare + l.port-index;
  spare : length l.initial.out.items + l.initial.out.spare ≤ length l.out.items + l.out.spare;
  count : length l.out.items ≡ l.port-index;
  bests : (n : ℕ) (hs : List HubPort) → PortsRepresent n l.moment l.ports hs → l.out.items ++ port_bests l.moment (drop l.port-index hs) ≡ port_bests l.moment hs;
  near : All (λ (b : PortBest). IsNear b.best) l.out.items;
  counted : (n : ℕ) (hs : List HubPort) → PortsRepresent n l.moment l.ports hs → l.steps + 15 * passing l.moment (drop l.port-index hs) ≤ l.initial.steps + 15 * passing l.moment hs;
}
