use Rattle.ptp_base.specs.declared.port_state.PortState.TheVariants.{Initializing}
use Rattle.transcript.proofs.lemmas.MoveLemmas.{may_follow-low, may_follow-high}
use Rattle.transcript.proofs.effect_lines.may_follow.Goals as goal

pub returns-then-last-moved : goal.returns-then-last-moved
returns-then-last-moved c =
    may_follow-low c.args.moves.now c.args.moved.now (record { port = 0; old = Initializing; new = Initializing }) c.in-len2-up.len_at_least c.if-last-moved.true

pub returns-else-last-moved : goal.returns-else-last-moved
returns-else-last-moved c =
    may_follow-high c.args.moves.now c.args.moved.now (record { port = 0; old = Initializing; new = Initializing }) c.in-len2-up.len_at_least c.if-last-moved.false
