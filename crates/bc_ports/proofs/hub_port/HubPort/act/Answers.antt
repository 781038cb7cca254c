use Rattle.std.proofs.Common.{refl, false}
use Rattle.bc_history.specs.Phases.PortPhase.{kept_after}
use Rattle.bc_ports.proofs.lemmas.HubPortLemmas.{keeps-event}
use Rattle.bc_ports.proofs.hub_port.HubPort.act.Goals as goal

pub returns-clause-port : goal.returns-clause-port
returns-clause-port c = λ length h s.
    let k = c.args.context.now in
    let forgotten = c.forget.ensures.port length k.moment h s in
    keeps-event length k.moment k.steps c.args.cause false _ _ h.port (kept_after c.args.cause h.port.state h.kept) refl forgotten (c.enter.ensures length h.port forgotten.engine)
