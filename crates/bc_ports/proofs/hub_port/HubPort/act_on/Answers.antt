use Rattle.std.proofs.Common.{Option, subst, sym}
use Rattle.ptp_profile.specs.declared.port_event.PortEvent.{PortEvent}
use Rattle.bc_history.specs.Phases.PortPhase.{after_cause}
use Rattle.bc_ports.specs.Representation.{PortRepresents}
use Rattle.bc_ports.proofs.hub_port.HubPort.act_on.Goals as goal

pub returns-in-Some-clause-port : goal.returns-in-Some-clause-port
returns-in-Some-clause-port c = λ length h s.
    let P : Option PortEvent → Type 0 = λ cause. PortRepresents length c.args.context.now.moment c.act.new.self (after_cause c.args.context.now cause h) in
    subst P (sym c.in-Some.is) (c.act.ensures.port length h s)
