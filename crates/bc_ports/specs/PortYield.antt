-- What a port makes of its input.
use Rattle.std.specs.Prelude.{◌≡◌, ℕ, ℤ, List, [], ◌++◌, map, true, false, Option, Some, None, Result, Ok, Err, if◌then◌else◌}
use Rattle.ptp_base.specs.declared.identity.PortId.{PortId}
use Rattle.ptp_profile.specs.declared.message.Message.{Message}
use Rattle.ptp_profile.specs.declared.message.Reject.{Reject}
use Rattle.ptp_profile.specs.declared.message.Body.{Body}
use Rattle.ptp_profile.specs.declared.message.Body.TheVariants.{Sync, DelayReq, FollowUp, DelayResp, Announce}
use Rattle.ptp_profile.specs.declared.port_event.Fate.{Fate}
use Rattle.ptp_profile.specs.declared.port_event.Fate.TheVariants.{Kept}
use Rattle.ptp_profile.specs.Port.Port.{Port, timing_measure}
use Rattle.ptp_profile.specs.Wire.MessageFormat.{message_octets}
use Rattle.data_sets.specs.declared.data_sets.DataSets.{DataSets}
use Rattle.data_sets.specs.DataSetsView.{master_in}
use Rattle.bc_history.specs.declared.port_input.EventContext.{EventContext}
use Rattle.bc_history.specs.declared.port_input.PortHappening.{PortHappening}
use Rattle.bc_history.specs.declared.scenario.Options.{Options}
use Rattle.bc_history.specs.Phases.PortPhase.{after_happening, happening_fate, happening_measure, read_fate, with_message}
use Rattle.bc_history.specs.Phases.DecisionPhase.{newest_sender, is_kept, raises_decision}
use Rattle.bc_history.specs.Phases.EntryEffects.{is_answered, response, messages_of}
use Rattle.bc_history.specs.Phases.HubPort.{HubPort}
use Rattle.bc_ports.specs.Representation.{PortRepresents}
use Rattle.bc_ports.specs.declared.hub_port.HubPort.{HubPort as KeptPort}
use Rattle.bc_ports.specs.declared.hub_port.frame.FrameOutcome.{FrameOutcome}
use Rattle.bc_ports.specs.declared.hub_port.input.PortOutcome.{PortOutcome}

-- a message that is no Announce
abbrev pub BearsTime : Body → Type 0
BearsTime (Sync origin) = Unit {0}
BearsTime (DelayReq origin) = Unit {0}
BearsTime (FollowUp precise) = Unit {0}
BearsTime (DelayResp receive requesting) = Unit {0}
BearsTime (Announce origin said) = ⊥

-- the frames that a port sends for a frame of this fate
abbrev pub response_frames : ℕ → ℤ → Result Message Reject → Fate → Port → List (List ℕ)
response_frames domain reading read fate p =
    map message_octets (if is_answered (Some fate) then response domain reading read p else [])

-- a port that is awake took a message: what it is then, what became of that, and what it sent
pub record MessageYields (length : ℕ) (k : EventContext) (message : Message) (new : KeptPort) (before after : List (List ℕ)) (t : FrameOutcome)
    (h : HubPort) : Type 0 where
  pub fate : t.fate ≡ read_fate k (Ok message) h
  pub measure : t.measure ≡ timing_measure length message k.reading t.fate h.port
  pub port : PortRepresents length k.moment new (with_message k message t.fate h)
  pub frames : after ≡ before ++ response_frames message.domain k.reading (Ok message) t.fate h.port

-- the sender of a message that was read, where it was kept
abbrev pub sender_of : Fate → Result Message Reject → Option PortId
sender_of Kept (Ok message) = Some message.sender
sender_of Kept (Err reject) = None
sender_of _ read = None

-- there is a sender exactly where an Announce was kept, and it is that of the newest one
abbrev pub IsSenderOf : Option Fate → Option PortId → HubPort → Type 0
IsSenderOf fate None h = is_kept fate ≡ false
IsSenderOf fate (Some sender) h = (is_kept fate ≡ true) × (newest_sender h.kept ≡ Some sender)

-- a port took what happened to it at a tick: what it is then, what became of that, and what it sent
pub record PortYields (o : Options) (k : EventContext) (d : DataSets) (tick : ℕ) (what : PortHappening) (new : KeptPort) (before after : List (List ℕ)) (t : PortOutcome) (h : HubPort) : Type 0 where
  pub port : PortRepresents o.delay_filter_length k.moment new (after_happening o k tick what h)
  pub fate : t.fate ≡ happening_fate o k what h
  pub measure : t.measure ≡ happening_measure o k what h
  pub frames : after ≡ before ++ map message_octets (messages_of o t.fate (master_in d) k.reading tick what h.port)
  pub sender : IsSenderOf t.fate t.sender (after_happening o k tick what h)
  pub raises_is : t.raises ≡ raises_decision t.fate (Some h) tick what
