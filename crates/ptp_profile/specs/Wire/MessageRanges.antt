-- The ranges of the numbers in a message: in memory each holds by its type, and a law over all
-- messages names them.
use Rattle.std.specs.Prelude.{◌<◌, ◌^◌, ⊤, FitsSigned}
use Rattle.std.specs.Int.{w8, w16, w64}
use Rattle.ptp_base.specs.declared.identity.PortId.{PortId}
use Rattle.ptp_profile.specs.declared.message.Message.{Message}
use Rattle.ptp_profile.specs.declared.message.Said.{Said}
use Rattle.ptp_profile.specs.declared.message.Body.{Body}
use Rattle.ptp_profile.specs.declared.message.Body.TheVariants.{Sync, DelayReq, FollowUp, DelayResp, Announce}
use Rattle.ptp_profile.specs.Wire.MessageFormat.{IsSpelled}

-- 64 bits of clockIdentity and 16 of portNumber (5.3.5)
pub record FitsPort (p : PortId) : Type 0 where
  pub clock : p.clock.id < 2 ^ 64
  pub port : p.port < 2 ^ 16

-- the numbers of an Announce (13.5)
pub record FitsSaid (s : Said) : Type 0 where
  pub grandmaster : s.grandmaster.id < 2 ^ 64
  pub variance : s.quality.variance < 2 ^ 16
  pub steps : s.steps < 2 ^ 16
  pub utc_offset : FitsSigned w16 s.utc_offset

-- the numbers behind the header (13.5 to 13.8)
abbrev pub FitsBody : Body → Type 0
FitsBody (Sync origin) = ⊤
FitsBody (DelayReq origin) = ⊤
FitsBody (FollowUp precise) = ⊤
FitsBody (DelayResp receive requesting) = FitsPort requesting
FitsBody (Announce origin said) = FitsSaid said

-- the numbers of a message, which has a spelling (13.3)
pub record IsMessage (m : Message) : Type 0 where
  pub flags : m.flags < 2 ^ 16
  pub correction : FitsSigned w64 m.correction
  pub sender : FitsPort m.sender
  pub seq : m.seq < 2 ^ 16
  pub log_interval : FitsSigned w8 m.log_interval
  pub body_fits : FitsBody m.body
  pub spelled : IsSpelled m
