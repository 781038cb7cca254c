use denote.Param.Send.{sendable}
use Rattle.bc_actors.proofs.lemmas.CrossingLemmas.{acting-send}
use Rattle.bc_actors.proofs.rounds.round.Goals as goal

pub take_all_turns-requires-send-A : goal.take_all_turns-requires-send-A
take_all_turns-requires-send-A g c κs within = search (sendable, acting-send) depth 60 fits 20000
