use Rattle.std.proofs.Common.{◌+◌, ap}
use Rattle.bc_replay.proofs.lemmas.NamedTurnLemmas.{follower-turn, follower-within, port-turn, port-within, queries-turn, queries-within, sum-is}
use Rattle.bc_replay.proofs.turn.turn_of.Goals as goal

pub due_at-requires-clause-there : goal.due_at-requires-clause-there
due_at-requires-clause-there c = port-within c.args.s.now c.args.actors.now c.in-Port.port c.args.who c.requires.acting c.in-Port.is c.requires.there

pub due_at-requires-in-Clock-clause-there : goal.due_at-requires-in-Clock-clause-there
due_at-requires-in-Clock-clause-there c = follower-within c.args.s.now c.args.actors.now c.in-Clock.clock _ c.args.who c.requires.acting c.in-Clock.is c.requires.there (ap (λ n. n + c.in-Clock.clock) c.port_count.ensures)

pub returns-in-Port : goal.returns-in-Port
returns-in-Port c =
    port-turn c.args.s.now c.args.hub.now c.args.actors.now c.in-Port.port c.args.who c.due_at.result c.requires.acting c.in-Port.is c.requires.there
    (record { idle = c.due_at.ensures.idle; due = c.due_at.ensures.due; at = c.due_at.ensures.at })

pub returns-in-Clock : goal.returns-in-Clock
returns-in-Clock c =
    follower-turn c.args.s.now c.args.hub.now c.args.actors.now c.in-Clock.clock _ c.args.who c.due_at-in-Clock.result c.requires.acting c.in-Clock.is c.requires.there (ap (λ n. n + c.in-Clock.clock) c.port_count.ensures)
    (record { idle = c.due_at-in-Clock.ensures.idle; due = c.due_at-in-Clock.ensures.due; at = c.due_at-in-Clock.ensures.at })

pub due_at-requires-in-Queries-clause-there : goal.due_at-requires-in-Queries-clause-there
due_at-requires-in-Queries-clause-there c = queries-within c.args.s.now c.args.actors.now _ c.requires.acting (sum-is _ _ _ _ c.port_count-in-Queries.ensures c.follower_count.ensures)

pub returns-in-Queries : goal.returns-in-Queries
returns-in-Queries c =
    queries-turn c.args.s.now c.args.hub.now c.args.actors.now _ c.args.who c.due_at-in-Queries.result c.requires.acting c.in-Queries.is (sum-is _ _ _ _ c.port_count-in-Queries.ensures c.follower_count.ensures)
    (record { idle = c.due_at-in-Queries.ensures.idle; due = c.due_at-in-Queries.ensures.due; at = c.due_at-in-Queries.ensures.at })
