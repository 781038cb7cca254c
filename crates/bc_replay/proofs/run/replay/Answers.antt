use Rattle.bc_replay.proofs.lemmas.ActorLoopLemmas.{finished-legal, finished-run, loop-begins}
use Rattle.bc_replay.proofs.run.replay.Goals as goal

pub take_schedule-requires : goal.take_schedule-requires
take_schedule-requires c = record { going = loop-begins c.args.s.now c.in_ok-hub.hub c.in_ok-actors.actors.items c.in_ok-hub.ensures c.in_ok-actors.ensures }

pub returns-clause-run : goal.returns-clause-run
returns-clause-run c =
    finished-run c.args.s.now c.take_default_turns.new.hub c.take_default_turns.new.actors.items c.part-entries.result.0 c.part-entries.result.1 c.assemble.result
    c.in_ok-take_default_turns.ensures.going c.in_ok-take_default_turns.ensures.none c.part-entries.ensures.entries c.part-entries.ensures.logs c.assemble.ensures

pub returns-clause-legal : goal.returns-clause-legal
returns-clause-legal c =
    finished-legal c.args.s.now c.take_default_turns.new.hub c.take_default_turns.new.actors.items c.part-entries.result.0 c.part-entries.result.1 c.assemble.result c.rules.ensures
    c.in_ok-take_default_turns.ensures.going c.in_ok-take_default_turns.ensures.none c.part-entries.ensures.entries c.part-entries.ensures.logs c.assemble.ensures
