use Rattle.std.proofs.Common.{sym, ap, ◌∙◌}
use Rattle.ptp_base.specs.declared.header.Head.{Head}
use Rattle.ptp_wire.proofs.lemmas.MessageLengthLemmas.{length_written}
use Rattle.ptp_wire.proofs.writing.written_length.Goals as goal

pub returns-clause-length : goal.returns-clause-length
returns-clause-length c = ap (λ (h : Head). h.length) c.head_of.ensures ∙ sym (length_written c.args.m.now)
