use Rattle.bc_history.specs.Phases.NoticePhase.{after_subscription}
use Rattle.bc_notices.proofs.follower.Follower.turn.Goals as goal

pub returns-clause-represents : goal.returns-clause-represents
returns-clause-represents c = λ o f terms is.
    c.take.ensures.represents o (after_subscription o c.args.moment c.args.tick c.args.notice f) c.args.tick (c.subscribe.ensures.represents o f terms is)
