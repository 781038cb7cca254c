use Rattle.run_legal.proofs.lemmas.FollowedRunLemmas.{followed_is_open, follows_to_the_end, followed_is_legal}
use Rattle.run_legal.proofs.examples.follows_legally.Goals as goal

pub returns : goal.returns
returns c = record { is_open = followed_is_open; ends = follows_to_the_end; legal = followed_is_legal }
