use Rattle.std.proofs.Common.{◌≡◌}
use Rattle.foreign_master.proofs.tests.crowd.Given as goal

abbrev pub invariant-loop-sender : goal.invariant-loop-sender
invariant-loop-sender l = l.records.receiver ≡ l.initial.records.receiver
