use Rattle.std.proofs.Common.{◌≡◌, ℕ, List, map, length, Option}
use Rattle.ptp_base.specs.declared.announcement.Announcement.{Announcement}
use Rattle.ptp_base.specs.declared.identity.PortId.{PortId}
use Rattle.bc_history.specs.declared.scenario.Options.{Options}
use Rattle.bc_history.specs.Phases.DecisionPhase.{is_new_parent, with_code, code_with}
use Rattle.bc_history.specs.Phases.HubPort.{HubPort}
use Rattle.bc_ports.specs.Representation.{PortsRepresent, ArePortsOf}
use Rattle.bc_ports.proofs.lemmas.RepresentationLemmas.{mapped}
use Rattle.bc_ports.proofs.decision.decide_ports.Given as goal

abbrev pub invariant-loop-i : goal.invariant-loop-i
invariant-loop-i l = record {
  ports : (n : ℕ) (own : Announcement) (best : Option Announcement) (parent : PortId) (hs : List HubPort)
      → l.is_new ≡ is_new_parent best parent → l.codes ≡ map (code_with own l.moment best) hs → PortsRepresent n l.moment l.initial.ports hs
      → PortsRepresent n l.moment l.ports (mapped l.i (with_code own l.moment best parent l.steps) hs);
  of : (o : Options) → ArePortsOf o 1 l.initial.ports → ArePortsOf o 1 l.ports;
  length : length l.ports ≡ length l.initial.ports;
}
