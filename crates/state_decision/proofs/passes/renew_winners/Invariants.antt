use Rattle.std.proofs.Common.{◌≡◌, ◌+◌, ◌≤◌, length}
use Rattle.state_decision.specs.PassWinners.{AreWinnersUpTo}
use Rattle.state_decision.proofs.passes.renew_winners.Given as goal

abbrev pub invariant-loop-p : goal.invariant-loop-p
invariant-loop-p g l = record {
  length : length l.winners.items ≡ length l.bests + 1;
  winners : AreWinnersUpTo l.p l.bests l.winners.items;
  counted : l.steps + l.port ≤ l.fn.steps + l.p;
}
