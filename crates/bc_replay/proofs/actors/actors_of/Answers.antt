use Rattle.std.proofs.Common.{◌≡◌, ◌+◌, [], length, map, arith}
use Rattle.std.specs.List.{range_with_len}
use Rattle.bc_history.specs.declared.entry.Who.TheVariants.{Port, Follower}
use Rattle.bc_history.specs.Phases.OpeningState.{follower_count}
use Rattle.bc_replay.specs.ActorLoop.{actor_at_opening}
use Rattle.bc_replay.proofs.lemmas.ActorPlaceLemmas.{follower-acts, made-last, made-more, port-acts, queries-act}
use Rattle.bc_replay.proofs.actors.actors_of.Goals as goal

pub new-requires : goal.new-requires
new-requires c = record { there = port-acts c.args.s.now c.loop-i.i (omega arith) }

pub new-requires-in-loop-c : goal.new-requires-in-loop-c
new-requires-in-loop-c c = record { there = follower-acts c.args.s.now c.loop-c.c (omega arith) }

pub new-requires-2 : goal.new-requires-2
new-requires-2 c = record { there = queries-act c.args.s.now }

pub loop-i-preserved : goal.loop-i-preserved
loop-i-preserved c =
    let next : 1 + c.loop-i.i ≡ c.loop-i.i + 1 = omega arith in
    made-more c.args.s.now (λ p. Port p) 1 c.loop-i.i (c.loop-i.i + 1) [] c.loop-i.actors.items c.push.new.self.items _ c.loop-i.invariant c.in_ok-push.ensures.items c.in_ok-new.ensures next

pub loop-c-preserved : goal.loop-c-preserved
loop-c-preserved c =
    let next : 0 + c.loop-c.c ≡ c.loop-c.c = omega arith in
    let ports = map (actor_at_opening c.args.s.now) (map (λ p. Port p) (range_with_len 1 (length c.args.s.now.ports))) in
    made-more c.args.s.now (λ d. Follower d) 0 c.loop-c.c c.loop-c.c ports c.loop-c.actors.items c.push-in-loop-c.new.self.items _ c.loop-c.invariant c.in_ok-push-2.ensures.items c.in_ok-new-2.ensures next

pub returns : goal.returns
returns c =
    let count : c.loop-c.c ≡ follower_count c.args.s.now = omega (arith, c.follower_count-c-end.ensures) in
    made-last c.args.s.now c.loop-c.c _ _ _ count c.loop-c.invariant c.in_ok-push-3.ensures.items c.in_ok-new-3.ensures
