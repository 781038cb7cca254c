use Rattle.std.proofs.Common.{◌≡◌}
use Rattle.bc_actors.proofs.rounds.take_turns.Given as goal

abbrev pub invariant-loop : goal.invariant-loop
invariant-loop g l = l.me.number ≡ l.fn.me.number
