use Rattle.std.proofs.Common.{◌≡◌, sym, rules, Some, None}
use Rattle.ptp_management.specs.ManagementMessages.{managed_read}
use Rattle.ptp_tlv.proofs.reading.read.Goals as goal

pub returns-in-None-clause-none : goal.returns-in-None-clause-none
returns-in-None-clause-none c = λ bad m reads.
    let read : managed_read c.args.domain c.args.octets.now ≡ Some m = (c.managed_is_what_is_read.ensures c.args.domain c.args.octets.now m).1 reads in
    let none : managed_read c.args.domain c.args.octets.now ≡ None = sym c.in-None.ensures in
    cc

pub returns-in_ok-tlv-in-Some-clause-reads : goal.returns-in_ok-tlv-in-Some-clause-reads
returns-in_ok-tlv-in-Some-clause-reads c = (c.managed_is_what_is_read.ensures c.args.domain c.args.octets.now _).0 (search rules)
