use Rattle.bc_history.proofs.lemmas.FollowerPhaseLemmas.{leading-state_of, turns-state_of}
use Rattle.bc_history.proofs.follower_laws.followers_keep_their_entries.Goals as goal

pub returns : goal.returns
returns c = record {
  turns = turns-state_of;
  leading = λ s entries c f continues there. leading-state_of s entries continues c f there;
}
