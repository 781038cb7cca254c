use Rattle.bc_ports.proofs.hub_port.HubPort.take_message.Goals as goal

pub returns-in-Announce-clause-yields : goal.returns-in-Announce-clause-yields
returns-in-Announce-clause-yields g c = λ length h s. c.hear.ensures.yields length c.args.frames.now.items h s
