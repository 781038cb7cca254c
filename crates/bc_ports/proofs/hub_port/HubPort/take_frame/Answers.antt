use Rattle.std.proofs.Common.{rules, ◌≡◌, ◌≢◌, ◌∙◌, ℕ}
use Rattle.ptp_base.specs.declared.port_state.PortState.TheVariants.{Faulty}
use Rattle.bc_history.specs.Phases.PortPhase.{frame_fate}
use Rattle.bc_history.specs.Phases.HubPort.{HubPort}
use Rattle.bc_ports.specs.Representation.{PortRepresents}
use Rattle.bc_ports.proofs.lemmas.FrameLemmas.{frame_fate-read, frame_measure-read, with_frame-read, answered-read}
use Rattle.bc_ports.proofs.hub_port.HubPort.take_frame.Given.{Over}
use Rattle.bc_ports.proofs.hub_port.HubPort.take_frame.Goals as goal

awake : (g : Over) (c : goal.After-take_message g) → c.args.self.now.engine.state ≢ Faulty
awake g c = search rules

fate : (g : Over) (c : goal.After-take_message g) (length : ℕ) (h : HubPort) → PortRepresents length c.args.context.now.moment c.args.self.now h → c.take_message.result.fate ≡ frame_fate c.args.context.now c.args.read.now h
fate g c length h s =
    frame_fate-read c.args.context.now c.args.read.now c.in-Ok.message h c.take_message.result.fate c.in-Ok.is (λ e. awake g c (s.engine.state ∙ e)) (c.take_message.ensures.yields length h s).fate

pub returns-in-Ok-clause-fate : goal.returns-in-Ok-clause-fate
returns-in-Ok-clause-fate g c = λ length h s. fate g c length h s

pub returns-in-Ok-clause-measure : goal.returns-in-Ok-clause-measure
returns-in-Ok-clause-measure g c = λ length h s.
    frame_measure-read c.args.context.now length c.args.read.now c.in-Ok.message h c.take_message.result.fate _ c.in-Ok.is (fate g c length h s) (c.take_message.ensures.yields length h s).measure

pub returns-in-Ok-clause-port : goal.returns-in-Ok-clause-port
returns-in-Ok-clause-port g c = λ length h s.
    with_frame-read c.args.context.now length c.args.read.now c.in-Ok.message h c.take_message.result.fate c.take_message.new.self c.in-Ok.is (fate g c length h s) (c.take_message.ensures.yields length h s).port

pub returns-in-Ok-clause-frames : goal.returns-in-Ok-clause-frames
returns-in-Ok-clause-frames g c = λ length domain h is s.
    answered-read domain c.args.read.now c.in-Ok.message c.args.context.now.reading h.port c.take_message.result.fate c.args.frames.now.items c.take_message.new.frames.items c.in-Ok.is is (c.take_message.ensures.yields length h s).frames
