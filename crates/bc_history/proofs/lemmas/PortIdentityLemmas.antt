-- After every history the ports are those of the scenario: as many, and each with its identity and its configuration.
use Rattle.std.proofs.Common.{◌≡◌, ℕ, suc, ◌+◌, refl, sym, ap, ◌∙◌, arith, List, [], ◌∷◌, length, Some}
use Rattle.std.specs.Prelude.{slice_get}
use Rattle.std.proofs.lemmas.List.{length-map}
use Rattle.ptp_base.specs.declared.identity.PortId.{PortId}
use Rattle.ptp_base.specs.declared.port_conf.PortConf.{PortConf}
use Rattle.bc_history.specs.declared.entry.Entry.{Entry}
use Rattle.bc_history.specs.declared.port_input.PortEntry.{PortEntry}
use Rattle.bc_history.specs.declared.scenario.Options.{Options}
use Rattle.bc_history.specs.declared.scenario.Scenario.{Scenario}
use Rattle.bc_history.specs.Phases.State.{Core}
use Rattle.bc_history.specs.Phases.HubPort.{HubPort}
use Rattle.bc_history.specs.Phases.Inputs.{port_at}
use Rattle.bc_history.specs.Phases.OpeningState.{open_ports, local_announcement, local_port}
use Rattle.bc_history.specs.Phases.PortPhase.{after_port, after_input, context_of}
use Rattle.bc_history.specs.Phases.DecisionPhase.{with_codes, after_hearing, with_renewal}
use Rattle.bc_history.specs.Phases.PortIdentities.{IsPortOf, ArePortsOf}
use Rattle.bc_history.specs.Phases.Step.{state_of}
use Rattle.bc_history.proofs.lemmas.CoreInvariantLemmas.{IsPortInvariant, core_invariant, length-at_port, port_invariant}
use Rattle.bc_history.proofs.lemmas.PortPhaseLemmas.{face, face-after_input, face-with_code, face-with_renewal}

-- ---- as many ports

-- the input of a port leaves as many
after_port-length : (o : Options) (e : PortEntry) (c : Core) → length (after_port o e c).ports ≡ length c.ports
unfolding after_port
after_port-length o e c = length-at_port (after_input o (context_of e c) e.input) e.input.number c.ports

-- so does the hearing of a kept Announce
after_hearing-length : (number : ℕ) (c : Core) → length (after_hearing number c).ports ≡ length c.ports
unfolding after_hearing
after_hearing-length number c = length-at_port (with_renewal c.moment) number c.ports

-- a port for each configuration
open_ports-length : (o : Options) (p : ℕ) (confs : List PortConf) → length (open_ports o p confs) ≡ length confs
open_ports-length o p [] = refl
open_ports-length o p (conf ∷ confs) = ap suc (open_ports-length o (p + 1) confs)

-- there are as many ports as the scenario has
pub ports-length : (s : Scenario) (entries : List Entry) → length (state_of s entries).core.ports ≡ length s.ports
unfolding with_codes
ports-length s entries =
    core_invariant s (λ (c : Core). length c.ports ≡ length s.ports) (open_ports-length s.options 1 s.ports) (λ tick c same. same)
    (record {
      port = λ e c same. after_port-length s.options e c ∙ same;
      decisions = record {
        codes = λ c same. length-map c.ports _ ∙ same;
        hearing = λ number c same. after_hearing-length number c ∙ same;
      };
    }) entries

-- ---- each with its identity and its configuration

-- the port of a number is the scenario's
record IsNumbered (s : Scenario) (p : ℕ) (h : HubPort) : Type 0 where
  id : h.port.id ≡ local_port s.options p
  conf : port_at s.ports p ≡ Some h.port.conf

-- it depends on what no entry changes
IsNumbered-same : (s : Scenario) (p : ℕ) (g h : HubPort) → face g.port ≡ face h.port → IsNumbered s p h → IsNumbered s p g
IsNumbered-same s p g h same n = record {
  id = ap (λ (f : PortId × PortConf). f.0) same ∙ n.id;
  conf = n.conf ∙ ap (λ (f : PortId × PortConf). Some f.1) (sym same);
}

-- so no entry breaks it
numbered : (s : Scenario) → IsPortInvariant s (IsNumbered s)
numbered s = record {
  opened = λ i conf is. record { id = refl; conf = is };
  input = λ k input p h n. IsNumbered-same s p _ h (face-after_input s.options k input h) n;
  decisions = record {
    code = λ m best parent steps p h n. IsNumbered-same s p _ h (face-with_code (local_announcement s.options) m best parent steps h) n;
    renewal = λ m p h n. IsNumbered-same s p _ h (face-with_renewal m h) n;
  };
}

-- the port at an index has that index' number, and the scenario's configuration
pub port-state_of : (s : Scenario) (entries : List Entry) (i : ℕ) (h : HubPort)
    → slice_get (state_of s entries).core.ports i ≡ Some h → IsPortOf s i h
port-state_of s entries i h there =
    let n = port_invariant s (IsNumbered s) (numbered s) entries i h there in
    let one : suc i ≡ i + 1 = omega arith in
    let id = n.id ∙ ap (local_port s.options) one in
    record { id = id; number = ap (λ (p : PortId). p.port) id; conf = n.conf }

-- after every history the ports are those of the scenario
pub ports_stay : (s : Scenario) (entries : List Entry) → ArePortsOf s (state_of s entries).core.ports
ports_stay s entries = record { number = ports-length s entries; each = port-state_of s entries }
