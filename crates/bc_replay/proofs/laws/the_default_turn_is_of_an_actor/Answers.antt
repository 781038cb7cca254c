use Rattle.bc_replay.proofs.lemmas.DefaultTurnLemmas.{turn-all}
use Rattle.bc_replay.proofs.laws.the_default_turn_is_of_an_actor.Goals as goal

pub returns : goal.returns
returns c = turn-all
