-- How many octets a message has.
use Rattle.std.proofs.Common.{◌≡◌, ◌+◌, length, refl, ◌∙◌}
use Rattle.std.proofs.lemmas.List.{length-append}
use Rattle.ptp_base.specs.Header.{header_octets}
use Rattle.ptp_profile.specs.declared.message.Message.{Message}
use Rattle.ptp_profile.specs.declared.message.Body.{Body}
use Rattle.ptp_profile.specs.declared.message.Body.TheVariants.{Sync, DelayReq, FollowUp, DelayResp, Announce}
use Rattle.ptp_profile.specs.Wire.MessageFormat.{body_octets, kind_number, length_of, head_of, message_octets}

length_body : (b : Body) → 34 + length (body_octets b) ≡ length_of (kind_number b)
length_body (Sync origin) = refl
length_body (DelayReq origin) = refl
length_body (FollowUp precise) = refl
length_body (DelayResp receive requesting) = refl
length_body (Announce origin said) = refl

pub length_written : (m : Message) → length (message_octets m) ≡ length_of (kind_number m.body)
unfolding message_octets
length_written m = length-append (header_octets (head_of m)) (body_octets m.body) ∙ length_body m.body
