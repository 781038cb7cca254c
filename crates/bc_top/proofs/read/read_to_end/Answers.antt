use Rattle.std.proofs.Common.{◌∙◌}
use Rattle.std.proofs.KnownBytes.{Consumes-trans}
use Rattle.bc_top.proofs.read.read_to_end.Goals as goal

pub returns-then-is_err-clause-error : goal.returns-then-is_err-clause-error
returns-then-is_err-clause-error g c = record {
  octets = _;
  read = record {
    given = Consumes-trans _ _ _ _ _ c.loop-buffer.invariant.given c.in-Ok.ensures.bytes.0;
    faults = c.in-Ok.ensures.faults ∙ c.loop-buffer.invariant.faults;
  };
}
