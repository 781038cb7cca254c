use Rattle.std.proofs.Common.{◌≡◌, ◌+◌, true, rules}
use Rattle.notify.specs.RingView.{RingView, is_subscribed, with_notice}
use Rattle.notify.proofs.lemmas.RingLemmas.{post-represents}
use Rattle.notify.proofs.ring.Ring.post.Goals as goal

pub returns-clause-represents : goal.returns-clause-represents
returns-clause-represents c = λ state is.
    let new : RingView = record { until = c.self.inside.until; notices = c.push_front.new.self.items; put = c.self.inside.put + 1 } in
    let answer : true ≡ is_subscribed c.args.self.now.until c.args.at = search rules in
    let exact : new ≡ with_notice c.args.notice c.args.self.now = search rules in
    post-represents c.args.at c.args.notice c.args.self.now new true state is answer exact
