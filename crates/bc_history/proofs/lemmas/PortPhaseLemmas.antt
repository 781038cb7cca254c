-- What an input, a code and a renewal leave of a port: its identity, its configuration, and its state but for an event.
use Rattle.std.proofs.Common.{◌≡◌, ℕ, ℤ, Bool, true, false, cond, refl, ◌∙◌, eqb, Option, Some, None, Result, Ok, Err}
use Rattle.std.specs.Prelude.{◌&&◌}
use Rattle.ptp_base.specs.declared.identity.PortId.{PortId}
use Rattle.ptp_base.specs.declared.announcement.Announcement.{Announcement}
use Rattle.ptp_base.specs.declared.port_conf.PortConf.{PortConf}
use Rattle.ptp_base.specs.declared.port_state.PortState.{PortState}
use Rattle.ptp_base.specs.declared.port_state.PortState.TheVariants.{Uncalibrated}
use Rattle.ptp_profile.specs.declared.port_event.PortEvent.{PortEvent}
use Rattle.ptp_profile.specs.declared.port_event.PortEvent.TheVariants.{Decided}
use Rattle.ptp_profile.specs.declared.port_event.Timer.{Timer}
use Rattle.ptp_profile.specs.declared.port_event.Timer.TheVariants.{AnnounceReceipt, Qualification, AnnounceSend, SyncSend, DelayRequest}
use Rattle.ptp_profile.specs.declared.port_event.Fate.{Fate}
use Rattle.ptp_profile.specs.declared.port_event.Fate.TheVariants.{Kept, Waiting, Paired, Matched}
use Rattle.ptp_profile.specs.declared.timing.Action.{Action}
use Rattle.ptp_profile.specs.declared.timing.Action.TheVariants.{Jump}
use Rattle.ptp_profile.specs.declared.message.Message.{Message}
use Rattle.ptp_profile.specs.declared.message.Reject.{Reject}
use Rattle.ptp_profile.specs.declared.message.Body.{Body}
use Rattle.ptp_profile.specs.declared.message.Body.TheVariants.{DelayResp, Announce}
use Rattle.ptp_profile.specs.Port.PortStates.{is_dependent, next, state_number}
use Rattle.ptp_profile.specs.Port.Port.{Port, after_event, after_entering, after_entering_uncalibrated, gets_parent, after_clearing, with_receipt_renewed, after_firing, is_set_for, after_timing, with_response}
use Rattle.bc_history.specs.declared.entry.Outcome.{Outcome}
use Rattle.bc_history.specs.declared.entry.Outcome.TheVariants.{Changed}
use Rattle.bc_history.specs.declared.port_input.EventContext.{EventContext}
use Rattle.bc_history.specs.declared.port_input.PortHappening.{PortHappening}
use Rattle.bc_history.specs.declared.port_input.PortHappening.TheVariants.{Frame, Timed, Down, Up, Report}
use Rattle.bc_history.specs.declared.port_input.PortInput.{PortInput}
use Rattle.bc_history.specs.declared.scenario.Options.{Options}
use Rattle.bc_history.specs.Phases.HubPort.{HubPort}
use Rattle.bc_history.specs.Phases.PortPhase.{after_input, happening_event, after_cause, with_happening, with_frame, with_message, with_kept, after_report, is_report_counted, read_frame, frame_fate}
use Rattle.bc_history.specs.Phases.DecisionPhase.{with_code, code_with, best_of, with_renewal, is_new_parent, is_sent_by, newest_sender}

-- ---- what happens to a port leaves its identity, its configuration and its state

pub record Alike (p q : Port) : Type 0 where
  pub id : p.id ≡ q.id
  pub conf : p.conf ≡ q.conf
  pub state : p.state ≡ q.state

-- a port is like itself
alike : (p : Port) → Alike p p
alike p = record { id = refl; conf = refl; state = refl }

-- a port that is changed or not
if_alike : (b : Bool) (p q : Port) → Alike p q → Alike (cond b p q) q
if_alike true p q same = same
if_alike false p q same = alike q

-- a timer that fires
pub fired_alike : (tick : ℕ) (seen : ℤ) (timer : Timer) (p : Port) → Alike (after_firing tick seen timer p) p
fired_alike tick seen AnnounceReceipt p = record { id = refl; conf = refl; state = refl }
fired_alike tick seen Qualification p = record { id = refl; conf = refl; state = refl }
fired_alike tick seen AnnounceSend p = record { id = refl; conf = refl; state = refl }
fired_alike tick seen SyncSend p = record { id = refl; conf = refl; state = refl }
fired_alike tick seen DelayRequest p = record { id = refl; conf = refl; state = refl }

-- a response
response_alike : (message : Message) (body : Body) (p : Port) → Alike (with_response message body p) p
response_alike message (DelayResp receive requesting) p = record { id = refl; conf = refl; state = refl }
response_alike message _ p = alike p

-- a message that is no Announce
pub timing_alike : (message : Message) (seen : ℤ) (fate : Fate) (p : Port) → Alike (after_timing message seen fate p) p
timing_alike message seen Waiting p = record { id = refl; conf = refl; state = refl }
timing_alike message seen Paired p = record { id = refl; conf = refl; state = refl }
timing_alike message seen Matched p = response_alike message message.body p
timing_alike message seen _ p = alike p

-- a kept Announce
kept_alike : (m : ℕ) (message : Message) (body : Body) (h : HubPort) → Alike (with_kept m message body h).port h.port
kept_alike m message (Announce origin said) h = alike h.port
kept_alike m message _ h = alike h.port

-- a message, by its fate
message_alike : (k : EventContext) (message : Message) (fate : Fate) (h : HubPort)
    → Alike (with_message k message fate h).port h.port
message_alike k message Kept h = kept_alike k.moment message message.body h
message_alike k message fate h = timing_alike message k.reading fate h.port

-- a frame, read or not
frame_alike : (k : EventContext) (read : Result Message Reject) (h : HubPort) → Alike (with_frame k read h).port h.port
frame_alike k (Err reject) h = alike h.port
frame_alike k (Ok message) h = message_alike k message (frame_fate k (Ok message) h) h

-- a report that counts
report_alike : (action : Action) (outcome : Outcome) (p : Port) → Alike (after_report action outcome p) p
report_alike (Jump step freq) (Changed number) p = record { id = refl; conf = refl; state = refl }
report_alike action outcome p = alike p

-- all that happens to a port
pub happening_alike : (o : Options) (k : EventContext) (tick : ℕ) (what : PortHappening) (h : HubPort)
    → Alike (with_happening o k tick what h).port h.port
happening_alike o k tick (Frame octets) h = frame_alike k (read_frame o octets) h
happening_alike o k tick (Timed timer) h =
    if_alike (is_set_for timer tick h.port) (after_firing tick k.reading timer h.port) h.port (fired_alike tick k.reading timer h.port)
happening_alike o k tick Down h = alike h.port
happening_alike o k tick Up h = alike h.port
happening_alike o k tick (Report gener action outcome) h =
    if_alike (is_report_counted k h gener) (after_report action outcome h.port) h.port (report_alike action outcome h.port)

-- a renewal
pub renewal_alike : (m : ℕ) (h : HubPort) → Alike (with_renewal m h).port h.port
renewal_alike m h = by (is_dependent h.port.state && is_sent_by (best_of m h) (newest_sender h.kept))
  where
    by : (b : Bool) → Alike (cond b (record h { port = with_receipt_renewed m h.port }) h).port h.port
    by true = record { id = refl; conf = refl; state = refl }
    by false = alike h.port

-- ---- an event leaves a port's identity and its configuration

-- what no entry changes of a port
abbrev pub face : Port → PortId × PortConf
face p = (p.id, p.conf)

-- ports that are alike have one face
pub face-alike : (p q : Port) → Alike p q → face p ≡ face q
face-alike p q same = rw (same.id, same.conf) refl

-- a port that enters UNCALIBRATED
face-uncalibrated : (m : ℕ) (cause : PortEvent) (p : Port) → face (after_entering_uncalibrated m cause p) ≡ face p
face-uncalibrated m (Decided code) p = refl
face-uncalibrated m _ p = refl

-- a port that enters a state
face-entered : (m steps : ℕ) (cause : PortEvent) (s : PortState) (p : Port) → face (after_entering m steps cause s p) ≡ face p
face-entered m steps cause Uncalibrated p = face-uncalibrated m cause p
face-entered m steps cause _ p = refl

-- by what an event depends on: whether a port that follows gets a parent, and whether it stays
face-by_tests : (m steps : ℕ) (cause : PortEvent) (s : PortState) (p : Port) (b c : Bool)
    → face (cond b (with_receipt_renewed m (record (after_clearing p) { state = Uncalibrated })) (cond c p (after_entering m steps cause s p))) ≡ face p
face-by_tests m steps cause s p true c = refl
face-by_tests m steps cause s p false true = refl
face-by_tests m steps cause s p false false = face-entered m steps cause s p

-- an event
pub face-after_event : (m steps : ℕ) (cause : PortEvent) (is_new : Bool) (p : Port)
    → face (after_event m steps cause is_new p) ≡ face p
face-after_event m steps cause is_new p =
    let s = next p.state cause is_new in
    face-by_tests m steps cause s p (gets_parent cause is_new p.state) (eqb (state_number s) (state_number p.state))

-- an event, if there is one
face-after_cause : (k : EventContext) (event : Option PortEvent) (h : HubPort) → face (after_cause k event h).port ≡ face h.port
face-after_cause k None h = refl
face-after_cause k (Some cause) h = face-after_event k.moment k.steps cause false h.port

-- an input, with the port's event
pub face-after_input : (o : Options) (k : EventContext) (p : PortInput) (h : HubPort)
    → face (after_input o k p h).port ≡ face h.port
face-after_input o k p h =
    let taken = with_happening o k p.tick p.what h in
    face-after_cause k (happening_event k p.tick p.what h) taken
    ∙ face-alike taken.port h.port (happening_alike o k p.tick p.what h)

-- a code
pub face-with_code : (own : Announcement) (m : ℕ) (best : Option Announcement) (parent : PortId) (steps : ℕ) (h : HubPort)
    → face (with_code own m best parent steps h).port ≡ face h.port
face-with_code own m best parent steps h =
    face-after_event m steps (Decided (code_with own m best h)) (is_new_parent best parent) h.port

-- a renewal
pub face-with_renewal : (m : ℕ) (h : HubPort) → face (with_renewal m h).port ≡ face h.port
face-with_renewal m h = face-alike (with_renewal m h).port h.port (renewal_alike m h)
