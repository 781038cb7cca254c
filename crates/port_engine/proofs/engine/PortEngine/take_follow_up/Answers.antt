use Rattle.std.proofs.Common.{◌∙◌, ap, sym}
use Rattle.ptp_profile.specs.Port.Port.{paired_fate}
use Rattle.port_engine.proofs.lemmas.TimingMessageLemmas.{judged_measure, judged_port, follow_up_fate}
use Rattle.port_engine.proofs.engine.PortEngine.take_follow_up.Goals as goal

pub returns-clause-measure : goal.returns-clause-measure
returns-clause-measure c = λ length p is.
    judged_measure length c.args.m.now c.args.seen p _ _ _ c.judge.ensures.fate (c.keep_follow_up-found.ensures.found length p c.args.seen is)
    (c.judge.ensures.measure length _ (c.keep_follow_up-found.ensures.port length p c.args.seen is))

pub returns-clause-port : goal.returns-clause-port
returns-clause-port c = λ length p is.
    judged_port length _ c.args.m.now c.args.seen p _ _ c.judge.ensures.fate (c.keep_follow_up-found.ensures.found length p c.args.seen is)
    (c.judge.ensures.port length _ (c.keep_follow_up-found.ensures.port length p c.args.seen is))

pub returns-clause-told : goal.returns-clause-told
returns-clause-told c = λ length p parent is takes.
    c.judge.ensures.fate ∙ ap paired_fate (c.keep_follow_up-found.ensures.found length p c.args.seen is) ∙ sym (follow_up_fate parent c.args.m.now c.args.seen p _ _ c.requires takes)
