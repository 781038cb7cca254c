-- What contracts see of a PortEngine, and the port of the definitions that it stands for.
use Rattle.std.specs.Prelude.{◌≡◌, ℕ, ◌%◌, List, [], ◌∷◌, Option, Some, None}
use Rattle.ptp_base.specs.declared.identity.PortId.{PortId}
use Rattle.ptp_base.specs.declared.triple.Triple.{Triple}
use Rattle.ptp_base.specs.declared.port_conf.PortConf.{PortConf}
use Rattle.ptp_base.specs.declared.port_state.PortState.{PortState}
use Rattle.ptp_profile.specs.Port.PortTimers.{Timers}
use Rattle.ptp_profile.specs.Port.Port.{Port}
use Rattle.ptp_profile.specs.declared.port_event.Fate.{Fate}
use Rattle.ptp_profile.specs.declared.port_event.Fate.TheVariants.{Answered}
use Rattle.ptp_profile.specs.declared.message.Message.{Message}
use Rattle.ptp_profile.specs.Wire.MessageFormat.{message_octets}
use Rattle.sync_match.specs.declared.pairing.Pairing.{Pairing}
use Rattle.sync_match.specs.PairingView as pairs
use Rattle.delay_mech.specs.DelaysView as delay
use Rattle.port_engine.specs.PortIntervals.{HasIntervals}

-- the next sequence of each kind of message is kept in 16 bits (7.3.7)
pub record Engine : Type 0 where
  pub id : PortId
  pub conf : PortConf
  pub state : PortState
  pub timers : Timers
  pub pairing : Pairing
  pub delays : delay.DelaysView
  pub announces : ℕ
  pub syncs : ℕ
  pub requests : ℕ

-- the engine stands for the port: it keeps less than the whole lists, and answers as these do, with
-- a mean over so many delays
pub record EngineRepresents (length : ℕ) (e : Engine) (p : Port) : Type 0 where
  pub id : e.id ≡ p.id
  pub conf : e.conf ≡ p.conf
  pub state : e.state ≡ p.state
  pub timers : e.timers ≡ p.timers
  pub pieces : pairs.PairingRepresents e.pairing p.pieces
  pub triple : e.delays.triple ≡ p.triple
  pub request : e.delays.request ≡ p.request
  pub length_is : e.delays.length ≡ length
  pub delays : delay.DelaysRepresent e.delays p.delays
  pub announces : e.announces ≡ p.announces % 65536
  pub syncs : e.syncs ≡ p.syncs % 65536
  pub requests : e.requests ≡ p.requests % 65536

-- the intervals are those of the profile, and the delays are of the own port
pub record IsSound (id : PortId) (conf : PortConf) (delays : delay.DelaysView) : Type 0 where
  pub intervals : HasIntervals conf
  pub own : delays.own ≡ id

-- the frames that a fate asks for: a request that is answered gets its response
abbrev pub frames_for : Fate → Message → List (List ℕ)
frames_for Answered response = message_octets response ∷ []
frames_for _ response = []

-- the triple that is kept: the new one, where there is one
abbrev pub newest : Option Triple → Option Triple → Option Triple
newest None former = former
newest (Some t) former = Some t
