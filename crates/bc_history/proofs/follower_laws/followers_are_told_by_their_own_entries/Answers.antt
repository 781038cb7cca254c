use Rattle.bc_history.proofs.lemmas.FollowerEntriesLemmas.{follower_place-own, follower_samples-own, leading_by-own, place_by_entries-own, turns_by-own}
use Rattle.bc_history.proofs.follower_laws.followers_are_told_by_their_own_entries.Goals as goal

pub returns : goal.returns
returns c = record {
  samples = follower_samples-own;
  by_entries = place_by_entries-own;
  place = follower_place-own;
  turns = turns_by-own;
  leading = leading_by-own;
}
