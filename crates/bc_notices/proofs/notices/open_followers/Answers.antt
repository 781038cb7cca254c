use Rattle.std.proofs.Common.{List, [], ◌∷◌, ◌++◌, ◌+◌, suc, ap, arith, length-append, sym, subst, add-one}
use Rattle.std.specs.Prelude.{replicate}
use Rattle.bc_history.specs.Phases.OpeningState.{open_follower}
use Rattle.bc_history.specs.Phases.State.{Follower as HistoryFollower}
use Rattle.bc_notices.specs.declared.follower.Follower.{Follower}
use Rattle.bc_notices.specs.NoticesView.{FollowersRepresent, most_put}
use Rattle.bc_notices.proofs.lemmas.FollowersLemmas.{FollowersRepresent-push, most-push, replicate-push}
use Rattle.bc_notices.proofs.notices.open_followers.Goals as goal

pub loop-preserved : goal.loop-preserved
loop-preserved c = record {
  opened = λ o.
      let k = c.loop.counter in
      let C : List Follower → Type 0 = λ cs. FollowersRepresent o cs (replicate (k + 1) open_follower) in
      let F : List HistoryFollower → Type 0 = λ fs. FollowersRepresent o (c.loop.followers.items ++ c.in_ok-new.field-0 ∷ []) fs in
      let more : F (replicate (k + 1) open_follower) =
      rw add-one (subst F (sym (replicate-push k open_follower)) (FollowersRepresent-push o c.loop.followers.items (replicate k open_follower) c.in_ok-new.field-0 open_follower (c.loop.invariant.opened o) (c.in_ok-new.ensures.opened o))) in
      subst C (sym c.in_ok-push.ensures.items) more;
  count = rw (c.in_ok-push.ensures.items) (simp length-append (omega (arith, c.loop.invariant.count)));
  put =
      let none = c.in_ok-new.ensures.put in
      let most = most-push c.loop.followers.items c.in_ok-new.field-0 0 (omega (arith, c.loop.invariant.put)) (omega (arith, none)) in
      let same = ap most_put c.in_ok-push.ensures.items in
      omega (arith, most, same);
}
