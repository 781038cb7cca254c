use Rattle.std.proofs.Common.{arith, refl}
use Rattle.ptp_wire.proofs.lemmas.FieldLemmas.{put_behind}
use Rattle.ptp_profile.specs.Wire.MessageFormat.{time_octets, said_octets}
use Rattle.std.specs.Prelude.{unsigned_abs}
use Rattle.ptp_base.specs.Header.{port_octets}
use Rattle.ptp_wire.proofs.writing.body_put.Goals as goal

pub returns-in-DelayResp-clause-octets : goal.returns-in-DelayResp-clause-octets
returns-in-DelayResp-clause-octets c =
    rw c.in-DelayResp.is (put_behind 10 10 c.args.out.now (time_octets (unsigned_abs c.in-DelayResp.receive)) (port_octets c.in-DelayResp.requesting) _ _ refl (omega arith) c.time_put-in-DelayResp.ensures c.port_put.ensures)

pub returns-in-Announce-clause-octets : goal.returns-in-Announce-clause-octets
returns-in-Announce-clause-octets c =
    rw c.in-Announce.is (put_behind 10 20 c.args.out.now (time_octets (unsigned_abs c.in-Announce.origin)) (said_octets c.in-Announce.said) _ _ refl (omega arith) c.time_put-in-Announce.ensures c.said_put.ensures)
