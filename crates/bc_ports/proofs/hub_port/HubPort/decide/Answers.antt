use Rattle.std.proofs.Common.{refl}
use Rattle.ptp_profile.specs.declared.port_event.PortEvent.TheVariants.{Decided}
use Rattle.bc_ports.proofs.lemmas.HubPortLemmas.{keeps-event}
use Rattle.bc_ports.proofs.hub_port.HubPort.decide.Goals as goal

pub returns-clause-port : goal.returns-clause-port
returns-clause-port c = λ length h s. keeps-event length c.args.moment c.args.steps (Decided c.args.code) c.args.is_new _ _ h.port h.kept refl s (c.enter.ensures length h.port s.engine)
