use Rattle.std.proofs.Common.{◌≡◌, ℕ, ◌+◌, ◌≤◌, List, length, drop, take}
use Rattle.bc_history.specs.declared.scenario.Options.{Options}
use Rattle.bc_history.specs.Phases.State.{Follower as HistoryFollower}
use Rattle.bc_notices.specs.NoticesView.{FollowersRepresent, most_put}
use Rattle.bc_notices.proofs.lemmas.FollowersLemmas.{posted}
use Rattle.bc_notices.proofs.notices.post_each.Given as goal

abbrev pub invariant-loop-i : goal.invariant-loop-i
invariant-loop-i l = record {
  length : length l.followers.items ≡ length l.initial.followers.items;
  put : most_put l.followers.items ≤ most_put l.initial.followers.items + 1;
  rest : drop l.i l.followers.items ≡ drop l.i l.initial.followers.items;
  posted : (o : Options) (fs : List HistoryFollower) → FollowersRepresent o l.initial.followers.items fs
      → FollowersRepresent o l.followers.items (posted o l.moment (take l.i l.notices) fs);
}
