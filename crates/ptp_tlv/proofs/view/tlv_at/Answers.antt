use Rattle.std.proofs.Common.{arith}
use Rattle.ptp_tlv.proofs.lemmas.SliceLemmas.{management_lent}
use Rattle.ptp_tlv.proofs.view.tlv_at.Goals as goal

pub returns-then-u16_at-eq1 : goal.returns-then-u16_at-eq1
returns-then-u16_at-eq1 c =
    management_lent c.args.octets.now c.u16_at-then-u16_at-eq1.result c.u16_at-length.result c.u16_at.result c.u16_at-then-u16_at-eq1.ensures
    c.u16_at-length.ensures c.u16_at.ensures c.if-u16_at-eq1.true (omega (arith, c.u16_at-length.ensures, c.requires.enough))
