use Rattle.std.proofs.Common.{◌≡◌, take, length}
use Rattle.ptp_base.specs.declared.limits.TheConstants.{DELAYS_MAX}
use Rattle.delay_mech.proofs.delays.Delays.mean.Given as goal

abbrev pub invariant-loop-i : goal.invariant-loop-i
invariant-loop-i l = (length l.numbers ≡ DELAYS_MAX) × (take l.i l.numbers ≡ take l.i l.self.delays)
