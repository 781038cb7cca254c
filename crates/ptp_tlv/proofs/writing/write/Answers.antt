use Rattle.std.proofs.Common.{◌≡◌, ℕ, List, ◌++◌, append_assoc, rules}
use Rattle.ptp_base.specs.Header.{header_octets}
use Rattle.ptp_management.specs.ManagementMessages.{managed_head, managed_octets, purpose_octets, tlv_octets}
use Rattle.ptp_tlv.proofs.writing.write.Goals as goal

joined : (h p t a b w x : List ℕ) → a ≡ h → b ≡ a ++ p → w ≡ b ++ t → x ≡ w → x ≡ h ++ (p ++ t)
joined h p t a b w x first second third same = rw (same, third, second, first) (append_assoc h p t)

pub returns-clause-ok : goal.returns-clause-ok
unfolding managed_octets
returns-clause-ok c =
    let first : c.append.new.self ≡ header_octets (managed_head c.args.domain c.args.m.now) = search rules in
    let second : c.append-2.new.self ≡ c.append.new.self ++ purpose_octets c.args.m.now = search rules in
    let third : c.append_tlv.new.out ≡ c.append-2.new.self ++ tlv_octets c.args.m.now.tlv = search rules in
    let whole : c.items.result.now ≡ managed_octets c.args.domain c.args.m.now =
    joined (header_octets (managed_head c.args.domain c.args.m.now)) (purpose_octets c.args.m.now) (tlv_octets c.args.m.now.tlv) _ _ _ _ first second third c.items.ensures in
    rw whole at c.append-3.ensures.ok
