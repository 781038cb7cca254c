-- What a port makes of each thing that happens to it.
use Rattle.std.proofs.Common.{◌≡◌, ◌≢◌, ℕ, Bool, true, false, cond, eqb, refl, sym, ap, subst, ◌∙◌, List, ◌++◌, map, Option, Some, None, Result, Ok, Err}
use Rattle.std.specs.Prelude.{IfOk}
use Rattle.std.proofs.lemmas.List.{append-nil}
use Rattle.std.proofs.lemmas.Bool.{eq-eqb}
use Rattle.ptp_base.specs.declared.identity.PortId.{PortId}
use Rattle.ptp_profile.specs.declared.message.Message.{Message}
use Rattle.ptp_profile.specs.declared.message.Reject.{Reject}
use Rattle.ptp_profile.specs.declared.message.Body.{Body}
use Rattle.ptp_profile.specs.declared.message.Body.TheVariants.{Sync, DelayReq, FollowUp, DelayResp, Announce}
use Rattle.ptp_profile.specs.declared.foreign_master.KeptAnnounce.{KeptAnnounce}
use Rattle.ptp_profile.specs.declared.port_event.Fate.{Fate}
use Rattle.ptp_profile.specs.declared.port_event.Fate.TheVariants.{Asleep, Dropped, Own, Far, Alternate, Crowded, Kept, Ignored, Waiting, Paired, Matched, Unmatched, Answered}
use Rattle.ptp_profile.specs.declared.port_event.Timer.{Timer}
use Rattle.ptp_profile.specs.declared.port_event.Timer.TheVariants.{AnnounceReceipt, Qualification, AnnounceSend, SyncSend, DelayRequest}
use Rattle.ptp_profile.specs.declared.port_event.PortEvent.TheVariants.{FaultDetected, FaultCleared}
use Rattle.ptp_profile.specs.declared.timing.Action.{Action}
use Rattle.ptp_profile.specs.declared.timing.Measure.{Measure}
use Rattle.ptp_profile.specs.Port.PortStates.{is_faulty}
use Rattle.ptp_profile.specs.Wire.MessageFormat.{message_octets, Reads}
use Rattle.ptp_profile.specs.Port.PortTimers.{timer_at}
use Rattle.ptp_profile.specs.Port.PortMessages.{timer_messages}
use Rattle.ptp_profile.specs.Port.Port.{Port, is_set_for, after_firing}
use Rattle.data_sets.specs.declared.data_sets.DataSets.{DataSets}
use Rattle.data_sets.specs.DataSetsView.{master_in}
use Rattle.bc_history.specs.declared.entry.Outcome.{Outcome}
use Rattle.bc_history.specs.declared.port_input.EventContext.{EventContext}
use Rattle.bc_history.specs.declared.port_input.PortHappening.TheVariants.{Frame, Timed, Down, Up, Report}
use Rattle.bc_history.specs.declared.scenario.Options.{Options}
use Rattle.bc_history.specs.Phases.PortPhase.{message_fate, frame_fate, frame_measure, with_frame, with_message, with_kept, read_frame, after_cause, timer_event, report_event, after_report, is_report_counted}
use Rattle.bc_history.specs.Phases.DecisionPhase.{newest_sender, is_kept, raises_decision}
use Rattle.bc_history.specs.Phases.HubPort.{HubPort}
use Rattle.bc_ports.specs.Representation.{PortRepresents}
use Rattle.bc_ports.specs.PortYield.{response_frames, sender_of, IsSenderOf, PortYields}
use Rattle.bc_ports.specs.declared.hub_port.HubPort.{HubPort as KeptPort}
use Rattle.bc_ports.proofs.lemmas.FrameLemmas.{timing_fate-other}

-- ---- the sender of a kept Announce

kept-judged : (faulty own : Bool) (f : Fate) → cond faulty Asleep (cond own Own f) ≡ Kept → f ≡ Kept
kept-judged true own f is = cc
kept-judged false true f is = cc
kept-judged false false f is = is

not-dropped : (faulty : Bool) (r : Reject) → cond faulty Asleep (Dropped r) ≢ Kept
not-dropped true r is = cc
not-dropped false r is = cc

newest-kept : (k : EventContext) (message : Message) (h : HubPort) (body : Body) → message_fate k message h body ≡ Kept → newest_sender (with_kept k.moment message body h).kept ≡ Some message.sender
newest-kept k message h (Sync origin) is = absurd (timing_fate-other k.parent message k.reading h.port (Sync origin) is)
newest-kept k message h (DelayReq origin) is = absurd (timing_fate-other k.parent message k.reading h.port (DelayReq origin) is)
newest-kept k message h (FollowUp precise) is = absurd (timing_fate-other k.parent message k.reading h.port (FollowUp precise) is)
newest-kept k message h (DelayResp receive requesting) is = absurd (timing_fate-other k.parent message k.reading h.port (DelayResp receive requesting) is)
newest-kept k message h (Announce origin said) is = refl

newest-frame : (k : EventContext) (message : Message) (h : HubPort) → frame_fate k (Ok message) h ≡ Kept → newest_sender (with_frame k (Ok message) h).kept ≡ Some message.sender
newest-frame k message h is =
    let judged = kept-judged (is_faulty h.port.state) (eqb message.sender.clock.id h.port.id.clock.id) (message_fate k message h message.body) is in
    let P : Fate → Type 0 = λ f. newest_sender (with_message k message f h).kept ≡ Some message.sender in
    subst P (sym is) (newest-kept k message h message.body judged)

-- where a frame was kept, its sender is that of the newest kept Announce
sender-frame : (k : EventContext) (read : Result Message Reject) (h g : HubPort) (fate : Fate) → fate ≡ frame_fate k read h → g.kept ≡ (with_frame k read h).kept → IsSenderOf (Some fate) (sender_of fate read) g
sender-frame k (Err reject) h g Kept is same = absurd (not-dropped (is_faulty h.port.state) reject (sym is))
sender-frame k (Ok message) h g Kept is same = (refl, ap (λ (kept : List KeptAnnounce). newest_sender kept) same ∙ newest-frame k message h (sym is))
sender-frame k read h g Asleep is same = refl
sender-frame k read h g (Dropped reject) is same = refl
sender-frame k read h g Own is same = refl
sender-frame k read h g Far is same = refl
sender-frame k read h g Alternate is same = refl
sender-frame k read h g Crowded is same = refl
sender-frame k read h g Ignored is same = refl
sender-frame k read h g Waiting is same = refl
sender-frame k read h g Paired is same = refl
sender-frame k read h g Matched is same = refl
sender-frame k read h g Unmatched is same = refl
sender-frame k read h g Answered is same = refl

-- ---- a frame

-- what is known of a frame that was taken, by what was read
pub record IsFrameTaken (o : Options) (k : EventContext) (h : HubPort) (new : KeptPort) (before after : List (List ℕ)) (fate : Fate) (measure : Option Measure) (sender : Option PortId) (read : Result Message Reject) : Type 0 where
  pub port : PortRepresents o.delay_filter_length k.moment new (with_frame k read h)
  pub fate_is : fate ≡ frame_fate k read h
  pub measure_is : measure ≡ frame_measure o.delay_filter_length k read h
  pub frames : after ≡ before ++ response_frames o.domain_number k.reading read fate h.port
  pub sender_is : sender ≡ sender_of fate read

pub yields-frame : (o : Options) (k : EventContext) (d : DataSets) (tick : ℕ) (octets : List ℕ) (h : HubPort) (new : KeptPort) (before after : List (List ℕ)) (fate : Fate) (measure : Option Measure) (sender : Option PortId) (raised : Bool)
    → IsFrameTaken o k h new before after fate measure sender (read_frame o octets) → raised ≡ is_kept (Some fate)
    → PortYields o k d tick (Frame octets) new before after (record { fate = Some fate; measure = measure; sender = sender; raises = raised }) h
yields-frame o k d tick octets h new before after fate measure sender raised t raised_is = record {
  port = t.port;
  fate = ap (λ (f : Fate). Some f) t.fate_is;
  measure = t.measure_is;
  frames = t.frames;
  sender = rw t.sender_is (sender-frame k (read_frame o octets) h _ fate t.fate_is refl);
  raises_is = raised_is;
}

-- the domain of what was read
pub reads-domain : (read : Result Message Reject) (b : List ℕ) (d e : ℕ) → IfOk read (λ (x : Message). Reads b d x) → d ≡ e → IfOk read (λ (x : Message). x.domain ≡ e)
reads-domain (Err r) b d e is same = tt
reads-domain (Ok message) b d e is same = ap (λ (x : Message). x.domain) is.fields ∙ (is.faultless.domain_is ∙ same)

-- ---- a timer

pub set-for : (timer : Timer) (tick : ℕ) (p : Port) → timer_at p.timers timer ≡ Some tick → is_set_for timer tick p ≡ true
set-for timer tick p is = rw is (eq-eqb tick tick refl)

pub raises-receipt : (timer : Timer) (tick : ℕ) (h : HubPort) → timer ≡ AnnounceReceipt → is_set_for timer tick h.port ≡ true → raises_decision None (Some h) tick (Timed timer) ≡ true
raises-receipt AnnounceReceipt tick h is set = set
raises-receipt Qualification tick h is set = cc
raises-receipt AnnounceSend tick h is set = cc
raises-receipt SyncSend tick h is set = cc
raises-receipt DelayRequest tick h is set = cc

pub raises-other : (timer : Timer) (tick : ℕ) (h : HubPort) → (timer ≡ AnnounceReceipt → ⊥) → raises_decision None (Some h) tick (Timed timer) ≡ false
raises-other AnnounceReceipt tick h other = absurd (other refl)
raises-other Qualification tick h other = refl
raises-other AnnounceSend tick h other = refl
raises-other SyncSend tick h other = refl
raises-other DelayRequest tick h other = refl

pub yields-timer : (o : Options) (k : EventContext) (d : DataSets) (tick : ℕ) (timer : Timer) (h : HubPort) (new : KeptPort) (before after : List (List ℕ)) (raised : Bool) → is_set_for timer tick h.port ≡ true
    → PortRepresents o.delay_filter_length k.moment new (after_cause k (timer_event timer) (record h { port = after_firing tick k.reading timer h.port }))
    → after ≡ before ++ map message_octets (timer_messages o.domain_number (master_in d) k.reading timer h.port) → raised ≡ raises_decision None (Some h) tick (Timed timer)
    → PortYields o k d tick (Timed timer) new before after (record { fate = None; measure = None; sender = None; raises = raised }) h
yields-timer o k d tick timer h new before after raised set port frames raised_is = record {
  port = rw set port;
  fate = refl;
  measure = refl;
  frames = rw set frames;
  sender = refl;
  raises_is = raised_is;
}

-- ---- a link that goes down or comes up

pub yields-down : (o : Options) (k : EventContext) (d : DataSets) (tick : ℕ) (h : HubPort) (new : KeptPort) (before : List (List ℕ)) → PortRepresents o.delay_filter_length k.moment new (after_cause k (Some FaultDetected) h)
    → PortYields o k d tick Down new before before (record { fate = None; measure = None; sender = None; raises = true }) h
yields-down o k d tick h new before port = record { port = port; fate = refl; measure = refl; frames = sym (append-nil before); sender = refl; raises_is = refl }

pub yields-up : (o : Options) (k : EventContext) (d : DataSets) (tick : ℕ) (h : HubPort) (new : KeptPort) (before : List (List ℕ)) → PortRepresents o.delay_filter_length k.moment new (after_cause k (Some FaultCleared) h)
    → PortYields o k d tick Up new before before (record { fate = None; measure = None; sender = None; raises = true }) h
yields-up o k d tick h new before port = record { port = port; fate = refl; measure = refl; frames = sym (append-nil before); sender = refl; raises_is = refl }

-- ---- a report

pub yields-report : (o : Options) (k : EventContext) (d : DataSets) (tick gener : ℕ) (action : Action) (outcome : Outcome) (h : HubPort) (new : KeptPort) (frames : List (List ℕ)) → is_report_counted k h gener ≡ true
    → PortRepresents o.delay_filter_length k.moment new (after_cause k (report_event action outcome) (record h { port = after_report action outcome h.port }))
    → PortYields o k d tick (Report gener action outcome) new frames frames (record { fate = None; measure = None; sender = None; raises = false }) h
yields-report o k d tick gener action outcome h new frames bears port = record {
  port = rw bears port;
  fate = refl;
  measure = refl;
  frames = sym (append-nil frames);
  sender = refl;
  raises_is = refl;
}

-- one that bears another stamp changes nothing
pub yields-old_report : (o : Options) (k : EventContext) (d : DataSets) (tick gener : ℕ) (action : Action) (outcome : Outcome) (h : HubPort) (new : KeptPort) (frames : List (List ℕ)) → is_report_counted k h gener ≡ false
    → PortRepresents o.delay_filter_length k.moment new h
    → PortYields o k d tick (Report gener action outcome) new frames frames (record { fate = None; measure = None; sender = None; raises = false }) h
yields-old_report o k d tick gener action outcome h new frames bears port = record {
  port = rw bears port;
  fate = refl;
  measure = refl;
  frames = sym (append-nil frames);
  sender = refl;
  raises_is = refl;
}
