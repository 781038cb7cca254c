use Rattle.bc_replay.proofs.lemmas.ActorLoopLemmas.{Loop-opening, Loop-step, Loop-done, Loop-stops, Loop-full}
use Rattle.bc_replay.proofs.laws.the_loop_is_the_world.Goals as goal

pub returns : goal.returns
returns c = record { begins = Loop-opening; goes_on = Loop-step; finishes = Loop-done; stops = Loop-stops; overflows = Loop-full }
