-- A management message that is lent, as the message that it is.
use Rattle.ptp_management.specs.declared.managed.Managed.{Managed}
use Rattle.ptp_management.specs.declared.managed.Tlv.{Tlv}
use Rattle.ptp_management.specs.declared.managed.Tlv.TheVariants.{Management, Error}
use Rattle.ptp_tlv.specs.declared.view.Lent.{Lent}
use Rattle.ptp_tlv.specs.declared.view.LentTlv.{LentTlv}
use Rattle.ptp_tlv.specs.declared.view.LentTlv.TheVariants.{Management as LentManagement, Error as LentError}

-- the TLV with octets of its own
abbrev pub tlv_of : LentTlv → Tlv
tlv_of (LentManagement id octets) = Management id octets.now
tlv_of (LentError error id) = Error error id

-- the message with octets of its own
abbrev pub managed_of : Lent → Managed
managed_of v =
    record {
      sender = v.sender;
      target = v.target;
      seq = v.seq;
      action = v.action;
      tlv = tlv_of v.tlv;
    }
