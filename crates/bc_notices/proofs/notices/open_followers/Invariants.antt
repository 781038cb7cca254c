use Rattle.std.specs.Prelude.{◌≡◌, length, replicate}
use Rattle.bc_history.specs.declared.scenario.Options.{Options}
use Rattle.bc_history.specs.Phases.OpeningState.{open_follower}
use Rattle.bc_notices.specs.NoticesView.{FollowersRepresent, most_put}
use Rattle.bc_notices.proofs.notices.open_followers.Given as goal

abbrev pub invariant-loop : goal.invariant-loop
invariant-loop l = record {
  opened : (o : Options) → FollowersRepresent o l.followers.items (replicate l.counter open_follower);
  count : length l.followers.items ≡ l.counter;
  put : most_put l.followers.items ≡ 0;
}
