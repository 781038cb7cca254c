use Rattle.std.proofs.Common.{◌≡◌, ◌∙◌, ℕ, suc, ◌+◌, ◌<◌, ◌≤◌, List, length, take, ap, sym, subst, arith, add-one, None}
use Rattle.std.proofs.lemmas.List.{length-set, take_all}
use Rattle.ptp_profile.specs.declared.roles.Notice.{Notice}
use Rattle.bc_history.specs.Phases.State.{Follower as HistoryFollower}
use Rattle.bc_notices.specs.declared.follower.Follower.{Follower}
use Rattle.bc_notices.specs.NoticesView.{FollowersRepresent, most_put, notices_for}
use Rattle.bc_notices.proofs.lemmas.FollowersLemmas.{FollowersRepresent-posted, drop-next, drop-set, most-set, posted, posted-from, still-waiting}
use Rattle.bc_notices.proofs.notices.post_each.Goals as goal

pub post-requires : goal.post-requires
post-requires c =
    let at = c.loop-i in
    let lt : at.i < length at.followers.items = omega (arith, c.loop-i-test.true, c.len-i-end.ensures, at.invariant.length) in
    let least = still-waiting at.followers.items c.args.followers.now.items at.i c.index_mut.result.now at.invariant.length at.invariant.rest lt c.index_mut.ensures.value in
    record { few = omega (arith, least, c.requires.few) }

pub loop-i-preserved : goal.loop-i-preserved
loop-i-preserved c =
    let at = c.loop-i in
    let i = at.i in
    let cs : List Follower = at.followers.items in
    let olds : List Follower = c.args.followers.now.items in
    let code : Follower = c.index_mut.result.now in
    let new : Follower = c.post.new.self in
    let none : Notice = record { gener = 0; slave = 0; lead = None } in
    let lt : i < length cs = omega (arith, c.loop-i-test.true, c.len-i-end.ensures, at.invariant.length) in
    let told : i < length c.args.notices.now = omega (arith, lt, at.invariant.length, c.requires.same) in
    let least = still-waiting cs olds i code at.invariant.length at.invariant.rest lt c.index_mut.ensures.value in
    record {
      length = length-set cs i new ∙ at.invariant.length;
      put = most-set cs i new (most_put olds + 1) at.invariant.put (omega (arith, least, c.post.ensures.put));
      rest = rw add-one (drop-set cs i new ∙ drop-next cs olds i at.invariant.length at.invariant.rest);
      posted = λ o fs all.
          rw add-one (FollowersRepresent-posted o c.args.moment cs fs c.args.notices.now i code new none (at.invariant.posted o fs all) lt told c.index_mut.ensures.value (λ f is. c.post.ensures.represents o f is));
    }

pub returns-clause-represents : goal.returns-clause-represents
returns-clause-represents c = λ o core r fs all moment notices.
    let cs : List Follower = c.loop-i.followers.items in
    let few : length c.args.notices.now ≤ c.loop-i.i = omega (arith, c.loop-i-test.false, c.len-i-end.ensures, c.requires.same) in
    let T : List Notice → Type 0 = λ ns. FollowersRepresent o cs (posted o c.args.moment ns fs) in
    let M : ℕ → Type 0 = λ m. FollowersRepresent o cs (posted o m (notices_for core r (length fs)) fs) in
    let F : List HistoryFollower → Type 0 = λ gs. FollowersRepresent o cs gs in
    subst F (posted-from o core r 0 fs) (subst M moment (subst T notices (subst T (take_all c.loop-i.i c.args.notices.now few) (c.loop-i.invariant.posted o fs all))))
