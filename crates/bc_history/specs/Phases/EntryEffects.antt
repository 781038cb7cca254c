-- What an entry tells: its effects, field by field.
use Rattle.std.specs.Prelude.{ℕ, ℤ, ◌+◌, Bool, true, false, ◌==◌, if◌then◌else◌, List, [], ◌∷◌, ◌++◌, map, flat_map, Option, Some, None, option_map, option_to_list, slice_get, Result, Ok, Err}
use Rattle.ptp_base.specs.declared.identity.PortId.{PortId}
use Rattle.ptp_base.specs.declared.port_state.PortState.{PortState}
use Rattle.ptp_profile.specs.declared.port_event.Fate.{Fate}
use Rattle.ptp_profile.specs.declared.port_event.Fate.TheVariants.{Answered}
use Rattle.ptp_profile.specs.declared.message.Message.{Message}
use Rattle.ptp_profile.specs.declared.message.Reject.{Reject}
use Rattle.ptp_profile.specs.Best.PortIdentity.{is_same_port}
use Rattle.ptp_profile.specs.Port.PortStates.{state_number}
use Rattle.ptp_profile.specs.Wire.MessageFormat.{message_octets}
use Rattle.ptp_profile.specs.Best.MasterData.{Master}
use Rattle.ptp_profile.specs.Port.Port.{Port, is_set_for}
use Rattle.ptp_profile.specs.Port.PortMessages.{timer_messages, delay_response_by}
use Rattle.bc_history.specs.declared.entry.Input.{Input}
use Rattle.bc_history.specs.declared.entry.Input.TheVariants.{Frame, Timed, Down, Up, Report, Turn, Sampled, Query}
use Rattle.bc_history.specs.declared.entry.Moved.{Moved}
use Rattle.bc_history.specs.declared.entry.Sent.{Sent}
use Rattle.bc_history.specs.declared.entry.Told.{Told}
use Rattle.bc_history.specs.declared.entry.Seen.{Seen}
use Rattle.bc_history.specs.declared.entry.Entry.{Entry}
use Rattle.bc_history.specs.declared.entry.Effects.{Effects}
use Rattle.bc_history.specs.declared.scenario.Options.{Options}
use Rattle.bc_history.specs.declared.scenario.Scenario.{Scenario}
use Rattle.bc_history.specs.declared.port_input.PortHappening.{PortHappening}
use Rattle.bc_history.specs.declared.port_input.PortHappening.TheVariants.{Frame as Frame_here, Timed as Timed_here, Down as Down_here, Up as Up_here, Report as Report_here}
use Rattle.bc_history.specs.Phases.Inputs.{port_at}
use Rattle.bc_history.specs.Phases.PortPhase.{fate_at, read_frame}
use Rattle.bc_history.specs.Phases.RolePhase.{states_of, orders_now}
use Rattle.bc_history.specs.Phases.NoticePhase.{told_at, notice_for}
use Rattle.bc_history.specs.Phases.QueryAnswers.{asked_at, answers_at}
use Rattle.bc_history.specs.Phases.Step.{port_entry, core_before, core_between, core_after, roles_after, followers_between, measure_at, state_of}
use Rattle.bc_history.specs.Phases.State.{Event, Follower, Core, Roles, State}
use Rattle.bc_history.specs.Phases.HubPort.{HubPort}
use Rattle.bc_history.specs.declared.port_input.PortEntry.{PortEntry}

-- how port p moved
abbrev pub moves_of_port : ℕ → PortState → PortState → List Moved
moves_of_port p old new =
    if state_number old == state_number new then
    []
    else
    record { port = p; old = old; new = new } ∷ []

-- how the ports from p on moved: each at its own event, and then by the decision
abbrev pub moves_from : ℕ → List PortState → List PortState → List PortState → List Moved
moves_from p (old ∷ olds) (mid ∷ mids) (new ∷ news) =
    moves_of_port p old mid ++ moves_of_port p mid new ++ moves_from (p + 1) olds mids news
moves_from p _ _ _ = []

-- the parent, where it changed
abbrev pub changed_parent : PortId → PortId → Option PortId
changed_parent old new = if is_same_port old new then None else Some new

-- a message as the frame that a port sends
abbrev pub frame_of_message : ℕ → Message → Sent
frame_of_message port m = record { port = port; octets = message_octets m }

-- the response to a request that is answered
abbrev pub response : ℕ → ℤ → Result Message Reject → Port → List Message
response domain seen (Err reject) p = []
response domain seen (Ok request) p = delay_response_by domain seen request p ∷ []

-- the fate is that of a Delay_Req that was answered
abbrev pub is_answered : Option Fate → Bool
is_answered (Some Answered) = true
is_answered _ = false

-- the messages that a port sends at an input of this fate, with the data sets and the port before
-- the entry, and the reading
abbrev pub messages_of :
    Options → Option Fate → Master → ℤ → ℕ → PortHappening → Port → List Message
messages_of o fate master reading tick (Timed_here timer) p =
    if is_set_for timer tick p then timer_messages o.domain_number master reading timer p else []
messages_of o fate master reading tick (Frame_here octets) p =
    if is_answered fate then response o.domain_number reading (read_frame o octets) p else []
messages_of o fate master reading tick Down_here p = []
messages_of o fate master reading tick Up_here p = []
messages_of o fate master reading tick (Report_here gener action outcome) p = []

-- the frames of a port's entry; the data sets and the ports are those before it
abbrev pub frames_at : Options → PortEntry → Core → List Sent
frames_at o e c = flat_map sent_by (option_to_list (port_at c.ports e.input.number))
  where
    sent_by : HubPort → List Sent
    sent_by h = map (frame_of_message h.port.id.port)
        (messages_of o (fate_at o e c) c.master e.reading e.input.tick e.input.what h.port)

-- what a turn tells
abbrev pub told_by : Options → Core → Roles → Input → List Follower → Option Told
told_by o c r (Turn clock tick) fs =
    option_map (told_at o c.moment tick (notice_for c r clock)) (slice_get fs clock)
told_by o c r (Frame port tick octets) fs = None
told_by o c r (Timed port tick timer) fs = None
told_by o c r (Down port tick) fs = None
told_by o c r (Up port tick) fs = None
told_by o c r (Report port tick gener action outcome) fs = None
told_by o c r (Sampled clock tick lead theirs own action outcome) fs = None
told_by o c r (Query tick text) fs = None

-- the fate of an entry's frame; an entry that is no port's has none
abbrev pub entry_fate : Options → Option PortEntry → Core → Option Fate
entry_fate o None c = None
entry_fate o (Some e) c = fate_at o e c

-- the frames that an entry's port sends; an entry that is no port's sends none
abbrev pub entry_frames : Options → Option PortEntry → Core → List Sent
entry_frames o None c = []
entry_frames o (Some e) c = frames_at o e c

-- the effects of an entry after a history that gave h
unfoldable pub effects_of : Options → State → Event → Effects
effects_of o h e = record {
  fate = entry_fate o (port_entry h e) (core_before h e);
  states =
      moves_from 1 (states_of h.core.ports) (states_of (core_between o h e).ports)
      (states_of (core_after o h e).ports);
  parent = changed_parent h.core.master.parent (core_after o h e).master.parent;
  orders = orders_now (core_after o h e) h.roles;
  measure = measure_at e (core_after o h e).ports;
  frames = entry_frames o (port_entry h e) (core_before h e);
  told = told_by o (core_after o h e) (roles_after o h e) e.input (followers_between o h e);
  asked = asked_at e.input;
  answers = answers_at o h e.input;
}

-- an input with its reading, as what an entry adds by itself
abbrev pub event : Input → Option Seen → Event
event input seen = record { input = input; seen = seen }

-- the entry that an input and a reading make after a history, the newest entry first
unfoldable pub entry_after : Scenario → List Entry → Input → Option Seen → Entry
entry_after s before input seen = record {
  input = input;
  moment = (core_after s.options (state_of s before) (event input seen)).moment;
  seen = seen;
  effects = effects_of s.options (state_of s before) (event input seen);
}
