use Rattle.bc_ports.proofs.lemmas.YieldLemmas.{yields-down, yields-up}
use Rattle.bc_ports.proofs.hub_port.HubPort.take.Goals as goal

pub returns-in-Frame-clause-yields : goal.returns-in-Frame-clause-yields
returns-in-Frame-clause-yields g c = λ o h clock s. rw c.in-Frame.is (c.take_octets.ensures.yields o c.args.input.now.tick h clock s)

pub returns-in-Timed-clause-yields : goal.returns-in-Timed-clause-yields
returns-in-Timed-clause-yields g c = λ o h clock s. rw c.in-Timed.is (c.take_timer.ensures.yields o h clock s)

pub returns-in-Down-clause-yields : goal.returns-in-Down-clause-yields
returns-in-Down-clause-yields g c = λ o h clock s.
    rw (c.in-Down.is, c.outcome_without_frame.ensures) (yields-down o c.args.context.now c.args.sets.now c.args.input.now.tick h c.act.new.self c.args.frames.now.items (c.act.ensures.port o.delay_filter_length h s))

pub returns-in-Up-clause-yields : goal.returns-in-Up-clause-yields
returns-in-Up-clause-yields g c = λ o h clock s.
    rw (c.in-Up.is, c.outcome_without_frame-in-Up.ensures) (yields-up o c.args.context.now c.args.sets.now c.args.input.now.tick h c.act-in-Up.new.self c.args.frames.now.items (c.act-in-Up.ensures.port o.delay_filter_length h s))

pub returns-in-Report-clause-yields : goal.returns-in-Report-clause-yields
returns-in-Report-clause-yields g c = λ o h clock s. rw c.in-Report.is (c.take_report.ensures.yields o c.args.sets.now c.args.input.now.tick c.args.frames.now.items h s)
