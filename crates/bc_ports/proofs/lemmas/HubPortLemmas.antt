-- What keeps a port the one that the records are of.
use Rattle.std.proofs.Common.{◌≡◌, ℕ, Bool, true, List, refl, sym, ap, ◌∙◌}
use Rattle.ptp_base.specs.declared.identity.PortId.{PortId}
use Rattle.ptp_base.specs.declared.port_conf.PortConf.{PortConf}
use Rattle.ptp_profile.specs.declared.foreign_master.KeptAnnounce.{KeptAnnounce}
use Rattle.ptp_profile.specs.declared.port_event.PortEvent.{PortEvent}
use Rattle.ptp_profile.specs.Port.PortTimers.{window_of}
use Rattle.ptp_profile.specs.Port.Port.{Port, after_event, with_receipt_renewed}
use Rattle.port_engine.specs.EngineView.{EngineRepresents}
use Rattle.foreign_master.specs.RecordsView.{RecordsView}
use Rattle.bc_history.proofs.lemmas.PortPhaseLemmas.{face-after_event}
use Rattle.ptp_profile.specs.Port.PortStates.{is_dependent}
use Rattle.bc_history.specs.Phases.DecisionPhase.{best_of, newest_sender, is_sent_by, with_renewal}
use Rattle.bc_history.specs.Phases.HubPort.{HubPort}
use Rattle.bc_ports.specs.Representation.{Represents, PortRepresents}
use Rattle.bc_ports.specs.declared.hub_port.HubPort.{HubPort as KeptPort}

-- another engine of the same records, for a port of the same identity and configuration
pub keeps-engine : (length m : ℕ) (q q' : KeptPort) (p p' : Port) (kept : List KeptAnnounce) → q'.records ≡ q.records → p'.id ≡ p.id → p'.conf ≡ p.conf
    → Represents length m q p kept → EngineRepresents length q'.engine p' → Represents length m q' p' kept
keeps-engine length m q q' p p' kept records id conf s engine = record {
  engine = engine;
  records = rw records s.records;
  reached = s.reached;
  window = ap (λ (r : RecordsView). r.window) records ∙ (s.window ∙ ap (λ (c : PortConf). window_of c) (sym conf));
  receiver = ap (λ (r : RecordsView). r.receiver) records ∙ (s.receiver ∙ sym id);
}

pub keeps-event : (length m steps : ℕ) (cause : PortEvent) (is_new : Bool) (q q' : KeptPort) (p : Port) (kept : List KeptAnnounce) → q'.records ≡ q.records → Represents length m q p kept
    → EngineRepresents length q'.engine (after_event m steps cause is_new p) → Represents length m q' (after_event m steps cause is_new p) kept
keeps-event length m steps cause is_new q q' p kept records s engine =
    let same = face-after_event m steps cause is_new p in
    keeps-engine length m q q' p (after_event m steps cause is_new p) kept records (ap (λ (f : PortId × PortConf). f.0) same) (ap (λ (f : PortId × PortConf). f.1) same) s engine

-- announce receipt is set anew for the best sender of a port that counts on another clock
pub keeps-renewed : (length m : ℕ) (q q' : KeptPort) (h : HubPort) → q'.records ≡ q.records → PortRepresents length m q h → EngineRepresents length q'.engine (with_receipt_renewed m h.port)
    → is_dependent h.port.state ≡ true → is_sent_by (best_of m h) (newest_sender h.kept) ≡ true → PortRepresents length m q' (with_renewal m h)
keeps-renewed length m q q' h records s engine dependent sent = rw (dependent, sent) (keeps-engine length m q q' h.port (with_receipt_renewed m h.port) h.kept records refl refl s engine)
