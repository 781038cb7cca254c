use Rattle.std.proofs.Common.{refl}
use Rattle.ptp_profile.specs.Port.Port.{after_clock_step}
use Rattle.bc_ports.proofs.lemmas.HubPortLemmas.{keeps-engine}
use Rattle.bc_ports.proofs.hub_port.HubPort.note_report.Goals as goal

pub returns-in-Jump-Changed-clause-port : goal.returns-in-Jump-Changed-clause-port
returns-in-Jump-Changed-clause-port c = λ length m h s.
    rw (c.in-Jump-Changed.is-0, c.in-Jump-Changed.is-1) (keeps-engine length m c.args.self.now _ h.port (after_clock_step h.port) h.kept refl refl refl s (c.jumped.ensures length h.port s.engine))
