-- The first phase of an entry of a port: the port takes its input, and the event that this is for
-- it. What is not marked with a clause of IEEE 1588-2019 is the project's own.
use Rattle.std.specs.Prelude.{ℕ, ◌+◌, ◌%◌, Bool, not, ◌==◌, ◌&&◌, true, false, if◌then◌else◌, List, [], ◌∷◌, bit_and, Option, Some, None, option_map, option_and_then, Result, Ok, Err}
use Rattle.ptp_base.specs.declared.identity.PortId.{PortId}
use Rattle.ptp_base.specs.declared.port_state.PortState.{PortState}
use Rattle.ptp_base.specs.declared.announcement.Announcement.{Announcement}
use Rattle.ptp_profile.specs.declared.message.Message.{Message}
use Rattle.ptp_profile.specs.declared.message.Said.{Said}
use Rattle.ptp_profile.specs.declared.message.Body.{Body}
use Rattle.ptp_profile.specs.declared.message.Body.TheVariants.{Sync, DelayReq, FollowUp, DelayResp, Announce}
use Rattle.ptp_profile.specs.declared.message.Reject.{Reject}
use Rattle.ptp_profile.specs.declared.port_event.Timer.{Timer}
use Rattle.ptp_profile.specs.declared.port_event.Timer.TheVariants.{AnnounceReceipt, Qualification, AnnounceSend, SyncSend, DelayRequest}
use Rattle.ptp_profile.specs.declared.port_event.PortEvent.{PortEvent}
use Rattle.ptp_profile.specs.declared.port_event.PortEvent.TheVariants.{FaultDetected, FaultCleared, AnnounceTimeout, QualificationTimeout, MasterClockSelected, SynchronizationFault, Decided}
use Rattle.ptp_profile.specs.declared.port_event.Fate.{Fate}
use Rattle.ptp_profile.specs.declared.port_event.Fate.TheVariants.{Asleep, Dropped, Own, Kept}
use Rattle.ptp_profile.specs.declared.timing.Action.{Action}
use Rattle.ptp_profile.specs.declared.timing.Action.TheVariants.{Unlocked as Unlocked_action, Jump, Locked}
use Rattle.ptp_profile.specs.declared.timing.Measure.{Measure}
use Rattle.ptp_profile.specs.declared.foreign_master.KeptAnnounce.{KeptAnnounce}
use Rattle.ptp_profile.specs.Wire.MessageFormat.{decode_result}
use Rattle.ptp_profile.specs.Port.PortStates.{is_faulty, is_dependent}
use Rattle.ptp_profile.specs.Port.PortTimers.{window_of}
use Rattle.ptp_profile.specs.Best.ForeignMasters.{hearing_of, fate_of_hearing}
use Rattle.ptp_profile.specs.Port.Port.{Port, is_set_for, after_firing, after_clock_step, after_event, timing_fate, after_timing, timing_measure}
use Rattle.bc_history.specs.declared.entry.Outcome.{Outcome}
use Rattle.bc_history.specs.declared.entry.Outcome.TheVariants.{Unlocked, Changed, Superseded, Spent}
use Rattle.bc_history.specs.declared.port_input.EventContext.{EventContext}
use Rattle.bc_history.specs.declared.port_input.PortHappening.{PortHappening}
use Rattle.bc_history.specs.declared.port_input.PortHappening.TheVariants.{Frame, Timed, Down, Up, Report}
use Rattle.bc_history.specs.declared.port_input.PortInput.{PortInput}
use Rattle.bc_history.specs.declared.scenario.Options.{Options}
use Rattle.bc_history.specs.Phases.Inputs.{port_at, at_port}
use Rattle.bc_history.specs.Phases.State.{Core}
use Rattle.bc_history.specs.Phases.HubPort.{TickMeasure, HubPort}
use Rattle.bc_history.specs.declared.port_input.PortEntry.{PortEntry}

-- what an entry of a port goes by, at the entry's moment
abbrev pub context_of : PortEntry → Core → EventContext
context_of e c =
    record {
      moment = c.moment;
      parent = c.master.parent;
      steps = c.master.steps;
      held = e.held;
      reading = e.reading;
    }

-- ---- what becomes of a frame

-- an Announce as the port that received it keeps it; alternateMaster is flag 0x0100 (13.3.2.8)
abbrev pub announcement_of : PortId → Message → Said → Announcement
announcement_of receiver message said = record {
  grandmaster = said.grandmaster;
  quality = said.quality;
  steps = said.steps;
  sender = message.sender;
  receiver = receiver;
  time = record { utc_offset = said.utc_offset; flags = message.flags % 64; source = said.source };
  alternate = not (bit_and message.flags 0x0100 == 0);
}

-- an Announce is judged by the Announces that were kept, any other message by the port
abbrev pub message_fate : EventContext → Message → HubPort → Body → Fate
message_fate k message h (Announce origin said) =
    fate_of_hearing (hearing_of (window_of h.port.conf) k.moment h.kept (announcement_of h.port.id message said))
message_fate k message h (Sync origin) = timing_fate k.parent message k.reading h.port (Sync origin)
message_fate k message h (DelayReq origin) =
    timing_fate k.parent message k.reading h.port (DelayReq origin)
message_fate k message h (FollowUp precise) =
    timing_fate k.parent message k.reading h.port (FollowUp precise)
message_fate k message h (DelayResp receive requesting) =
    timing_fate k.parent message k.reading h.port (DelayResp receive requesting)

-- a message of this clock is passed over (9.3.2.5)
abbrev pub read_fate : EventContext → Result Message Reject → HubPort → Fate
read_fate k (Err reject) h = Dropped reject
read_fate k (Ok message) h =
    if message.sender.clock.id == h.port.id.clock.id then
    Own
    else
    message_fate k message h message.body

-- what becomes of a frame that was read so
abbrev pub frame_fate : EventContext → Result Message Reject → HubPort → Fate
frame_fate k read h = if is_faulty h.port.state then Asleep else read_fate k read h

-- a frame as a port of this domain reads it
abbrev pub read_frame : Options → List ℕ → Result Message Reject
read_frame o octets = decode_result o.domain_number octets

-- a frame has a fate, and nothing else has one
abbrev pub happening_fate : Options → EventContext → PortHappening → HubPort → Option Fate
happening_fate o k (Frame octets) h = Some (frame_fate k (read_frame o octets) h)
happening_fate o k (Timed timer) h = None
happening_fate o k Down h = None
happening_fate o k Up h = None
happening_fate o k (Report gener action outcome) h = None

-- the fate of the frame of an entry
abbrev pub fate_at : Options → PortEntry → Core → Option Fate
fate_at o e c =
    option_and_then (happening_fate o (context_of e c) e.input.what)
    (port_at c.ports e.input.number)

-- ---- the port takes the input

-- a kept Announce, at moment m
abbrev pub with_kept : ℕ → Message → Body → HubPort → HubPort
with_kept m message (Announce origin said) h =
    record h { kept = record { at = m; said = announcement_of h.port.id message said } ∷ h.kept }
with_kept m message _ h = h

-- the port after a message of this fate: an Announce that is kept, or a message that bears times
abbrev pub with_message : EventContext → Message → Fate → HubPort → HubPort
with_message k message Kept h = with_kept k.moment message message.body h
with_message k message fate h = record h { port = after_timing message k.reading fate h.port }

-- the port after a frame: one that is no message leaves it as it is
abbrev pub with_frame : EventContext → Result Message Reject → HubPort → HubPort
with_frame k (Err reject) h = h
with_frame k (Ok message) h = with_message k message (frame_fate k (Ok message) h) h

-- the measure that a frame gives, with the mean over so many delays
abbrev pub frame_measure : ℕ → EventContext → Result Message Reject → HubPort → Option Measure
frame_measure length k (Err reject) h = None
frame_measure length k (Ok message) h =
    timing_measure length message k.reading (frame_fate k (Ok message) h) h.port

-- a frame gives a measure, and nothing else does
abbrev pub happening_measure : Options → EventContext → PortHappening → HubPort → Option Measure
happening_measure o k (Frame octets) h =
    frame_measure o.delay_filter_length k (read_frame o octets) h
happening_measure o k (Timed timer) h = None
happening_measure o k Down h = None
happening_measure o k Up h = None
happening_measure o k (Report gener action outcome) h = None

-- a measure at a tick, under the stamp of the port's clock
abbrev pub measured_at : EventContext → ℕ → Measure → TickMeasure
measured_at k tick measure = record { tick = tick; measure = measure; held = k.held }

-- a report counts where it bears the stamp that the last order of the port's clock gave
abbrev pub is_report_counted : EventContext → HubPort → ℕ → Bool
is_report_counted k h gener = (k.held.gener == gener) && (k.held.ctrl == h.port.id.port)

-- after a step of the clock the times that were kept no longer hold
abbrev pub after_report : Action → Outcome → Port → Port
after_report (Jump step freq) (Changed number) p = after_clock_step p
after_report action outcome p = p

-- a port that took what happens at a tick, but for its measure
abbrev pub with_happening : Options → EventContext → ℕ → PortHappening → HubPort → HubPort
with_happening o k tick (Frame octets) h =
    record (with_frame k (read_frame o octets) h) { taken = h.taken + 1 }
with_happening o k tick (Timed timer) h =
    record h {
      port = if is_set_for timer tick h.port then after_firing tick k.reading timer h.port else
          h.port;
    }
with_happening o k tick Down h = record h { taken = h.taken + 1 }
with_happening o k tick Up h = record h { taken = h.taken + 1 }
with_happening o k tick (Report gener action outcome) h =
    record h {
      port = if is_report_counted k h gener then after_report action outcome h.port else h.port;
    }

-- ---- the event that an input is for its port

-- the event of the state machine that a timer raises
abbrev pub timer_event : Timer → Option PortEvent
timer_event AnnounceReceipt = Some AnnounceTimeout
timer_event Qualification = Some QualificationTimeout
timer_event AnnounceSend = None
timer_event SyncSend = None
timer_event DelayRequest = None

-- locked and changed: the master's clock is selected; a step, nothing asked, or a full log:
-- synchronization is lost
abbrev pub report_event : Action → Outcome → Option PortEvent
report_event (Locked freq) (Changed number) = Some MasterClockSelected
report_event (Jump step freq) (Changed number) = Some SynchronizationFault
report_event Unlocked_action (Changed number) = None
report_event action Unlocked = Some SynchronizationFault
report_event action (Spent at) = Some SynchronizationFault
report_event action (Superseded newer at) = None

-- the event of what happens at a tick; only a timer that was set for that tick counts
abbrev pub happening_event : EventContext → ℕ → PortHappening → HubPort → Option PortEvent
happening_event k tick (Frame octets) h = None
happening_event k tick (Timed timer) h =
    if is_set_for timer tick h.port then timer_event timer else None
happening_event k tick Down h = Some FaultDetected
happening_event k tick Up h = Some FaultCleared
happening_event k tick (Report gener action outcome) h =
    if is_report_counted k h gener then report_event action outcome else None

-- at which events a port in a state forgets the Announces that it kept: at a fault, and where a
-- port that counts on another clock waited in vain
abbrev pub forgets : PortEvent → PortState → Bool
forgets FaultDetected state = true
forgets AnnounceTimeout state = is_dependent state
forgets FaultCleared state = false
forgets QualificationTimeout state = false
forgets MasterClockSelected state = false
forgets SynchronizationFault state = false
forgets (Decided code) state = false

-- the kept Announces after an event of a port in a state
abbrev pub kept_after : PortEvent → PortState → List KeptAnnounce → List KeptAnnounce
kept_after cause state kept = if forgets cause state then [] else kept

-- the port after an event of its state machine, with what is kept of Announces
abbrev pub after_cause : EventContext → Option PortEvent → HubPort → HubPort
after_cause k None h = h
after_cause k (Some cause) h =
    record h {
      port = after_event k.moment k.steps cause false h.port;
      kept = kept_after cause h.port.state h.kept;
    }

-- a port after what happens at a tick and the event that this is for it
abbrev pub after_happening : Options → EventContext → ℕ → PortHappening → HubPort → HubPort
after_happening o k tick what h = record (after_cause k (happening_event k tick what h) (with_happening o k tick what h)) {
  measured = option_map (measured_at k tick) (happening_measure o k what h);
}

-- the port after its input
abbrev pub after_input : Options → EventContext → PortInput → HubPort → HubPort
after_input o k p h = after_happening o k p.tick p.what h

-- the entry's own port takes its input; the other ports stay
unfoldable pub after_port : Options → PortEntry → Core → Core
after_port o e c =
    record c { ports = at_port (after_input o (context_of e c) e.input) e.input.number c.ports }
