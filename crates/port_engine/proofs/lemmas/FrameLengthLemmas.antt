-- How many octets a message has at most.
use Rattle.std.proofs.Common.{◌≤◌, length, arith}
use Rattle.ptp_base.specs.declared.limits.TheConstants.{SENT_MAX}
use Rattle.ptp_profile.specs.declared.message.Message.{Message}
use Rattle.ptp_profile.specs.declared.message.Body.{Body}
use Rattle.ptp_profile.specs.declared.message.Body.TheVariants.{Sync, DelayReq, FollowUp, DelayResp, Announce}
use Rattle.ptp_profile.specs.Wire.MessageFormat.{kind_number, length_of, message_octets}
use Rattle.ptp_wire.proofs.lemmas.MessageLengthLemmas.{length_written}

few_octets : (b : Body) → length_of (kind_number b) ≤ SENT_MAX
few_octets (Sync origin) = omega arith
few_octets (DelayReq origin) = omega arith
few_octets (FollowUp precise) = omega arith
few_octets (DelayResp receive requesting) = omega arith
few_octets (Announce origin said) = omega arith

pub written_fits : (m : Message) → length (message_octets m) ≤ SENT_MAX
written_fits m = omega (arith, length_written m, few_octets m.body)
