use Rattle.std.proofs.Common.{◌≤◌, ◌+◌}
use Rattle.notify.specs.RingView.{RingState, RingRepresents}
use Rattle.notify.proofs.lemmas.RingCallLemmas.{HasRun}
use Rattle.notify.proofs.ring.Ring.run.Given as goal

abbrev pub invariant-loop-i : goal.invariant-loop-i
invariant-loop-i l = record {
  runs : (state : RingState) → RingRepresents l.initial.self state → HasRun state l.calls l.i l.answers l.self;
  put : l.self.put ≤ l.initial.self.put + l.i;
}
