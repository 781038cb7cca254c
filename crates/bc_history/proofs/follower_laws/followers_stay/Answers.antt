use Rattle.bc_history.proofs.lemmas.FollowerPhaseLemmas.{followers-length}
use Rattle.bc_history.proofs.follower_laws.followers_stay.Goals as goal

pub returns : goal.returns
returns c = followers-length
