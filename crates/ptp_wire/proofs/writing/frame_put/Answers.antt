use Rattle.std.proofs.Common.{arith, refl, sym, ap, ◌∙◌, ◌≡◌, ◌+◌, ◌++◌, drop, length}
use Rattle.std.proofs.lemmas.List.{length-append}
use Rattle.ptp_wire.proofs.lemmas.FieldLemmas.{put_behind}
use Rattle.ptp_base.specs.declared.header.Head.{Head}
use Rattle.ptp_base.specs.Header.{header_octets}
use Rattle.ptp_profile.specs.Wire.MessageFormat.{message_octets, head_of, body_octets}
use Rattle.ptp_wire.proofs.writing.frame_put.Goals as goal

pub returns-clause-octets : goal.returns-clause-octets
unfolding message_octets
returns-clause-octets c =
    put_behind 34 c.body_put.result c.args.out.now (header_octets (head_of c.args.m.now)) (body_octets c.args.m.now.body) _ _ refl (omega arith)
    (c.head_put.ensures ∙ ap (λ (h : Head). header_octets h ++ drop 34 c.args.out.now) c.head_of.ensures) c.body_put.ensures.octets

pub returns-clause-length : goal.returns-clause-length
unfolding message_octets
returns-clause-length c =
    let parts : length (header_octets (head_of c.args.m.now) ++ body_octets c.args.m.now.body) ≡ 34 + length (body_octets c.args.m.now.body) = length-append (header_octets (head_of c.args.m.now)) (body_octets c.args.m.now.body) in
    ap (λ n. 34 + n) c.body_put.ensures.length ∙ sym parts
