use Rattle.std.proofs.Common.{◌≢◌, ◌∙◌, ℕ, List, ap, sym, subst}
use Rattle.bc_history.specs.Phases.State.{Follower}
use Rattle.bc_notices.specs.NoticesView.{NoticesRepresent, notices_for}
use Rattle.bc_notices.proofs.lemmas.FollowersLemmas.{FollowersRepresent-length}
use Rattle.hub_core.proofs.lemmas.NoticeLemmas.{notices-put}
use Rattle.hub_core.proofs.hub_parts.HubParts.post.Goals as goal

pub returns-then-generation-before-clause-posted : goal.returns-then-generation-before-clause-posted
returns-then-generation-before-clause-posted c = λ o core r former fs at roles before is.
    let t = c.if-generation-before.true in
    let slave = c.slave.ensures o core at in
    let long = c.count-count.ensures ∙ FollowersRepresent-length o c.args.self.now.notices.followers fs is.followers in
    let drafts = c.items.ensures ∙ c.push_notices.ensures.notices core r roles slave ∙ ap (λ (n : ℕ). notices_for core r n) long in
    let put = c.post.ensures.represents o core r fs is at.moment drafts in
    let other : former.gener ≢ r.gener = λ same. t (c.generation.ensures ∙ roles.gener ∙ sym same ∙ sym before) in
    subst (λ (gs : List Follower). NoticesRepresent o c.post.new.self gs) (notices-put o core former r fs other) put
