use Rattle.std.proofs.Common.{◌≡◌, ◌++◌, length, map}
use Rattle.std.specs.List.{range_with_len}
use Rattle.bc_history.specs.declared.entry.Who.TheVariants.{Port, Follower}
use Rattle.bc_replay.specs.ActorLoop.{actor_at_opening}
use Rattle.bc_replay.proofs.actors.actors_of.Given as goal

abbrev pub invariant-loop-i : goal.invariant-loop-i
invariant-loop-i l = l.actors.items ≡ map (actor_at_opening l.s) (map (λ p. Port p) (range_with_len 1 l.i))

abbrev pub invariant-loop-c : goal.invariant-loop-c
invariant-loop-c l =
    l.actors.items
    ≡ map (actor_at_opening l.s) (map (λ p. Port p) (range_with_len 1 (length l.s.ports)))
    ++ map (actor_at_opening l.s) (map (λ c. Follower c) (range_with_len 0 l.c))
