-- What becomes of frames, and what they leave of a port.
use Rattle.std.proofs.Common.{◌≡◌, ◌≢◌, ℕ, ℤ, ◌≤◌, Bool, true, false, cond, eqb, inl, inr, refl, sym, ap, subst, ◌∙◌, arith, List, ◌∷◌, ◌++◌, Option, Some, None, Result, Ok}
use Rattle.std.proofs.lemmas.Bool.Decides.{eqb_tells}
use Rattle.std.proofs.lemmas.List.Elements.{All-cons}
use Rattle.std.proofs.lemmas.List.{append-nil}
use Rattle.ptp_profile.specs.declared.message.Reject.{Reject}
use Rattle.ptp_base.specs.declared.identity.PortId.{PortId}
use Rattle.ptp_base.specs.declared.triple.Triple.{Triple}
use Rattle.ptp_base.specs.declared.announcement.Announcement.{Announcement}
use Rattle.ptp_base.specs.declared.port_state.PortState.{PortState}
use Rattle.ptp_base.specs.declared.port_state.PortState.TheVariants.{Initializing, Faulty, Disabled, Listening, PreMaster, Master, Passive, Uncalibrated, Slave}
use Rattle.ptp_profile.specs.declared.timing.Measure.{Measure}
use Rattle.std.specs.Prelude.{IfOk}
use Rattle.ptp_profile.specs.declared.message.Message.{Message}
use Rattle.ptp_profile.specs.declared.message.Said.{Said}
use Rattle.ptp_profile.specs.declared.message.Body.{Body}
use Rattle.ptp_profile.specs.declared.message.Body.TheVariants.{Sync, DelayReq, FollowUp, DelayResp, Announce}
use Rattle.ptp_profile.specs.declared.foreign_master.Heard.{Heard}
use Rattle.ptp_profile.specs.declared.foreign_master.Heard.TheVariants.{Kept as Heard_kept, Own as Heard_own, Far as Heard_far, Alternate as Heard_alternate, Crowded as Heard_crowded}
use Rattle.ptp_profile.specs.declared.foreign_master.KeptAnnounce.{KeptAnnounce}
use Rattle.ptp_profile.specs.declared.port_event.Fate.{Fate}
use Rattle.ptp_profile.specs.declared.port_event.Fate.TheVariants.{Asleep, Dropped, Own, Far, Alternate, Crowded, Kept, Ignored, Waiting, Paired, Matched, Unmatched, Answered}
use Rattle.ptp_profile.specs.Best.ForeignMasters.{hearing_of, fate_of_hearing}
use Rattle.ptp_profile.specs.Port.PortTimers.{window_of}
use Rattle.ptp_profile.specs.Timing.OffsetAndDelay.{Request}
use Rattle.ptp_profile.specs.Port.PortStates.{is_master, is_faulty}
use Rattle.ptp_profile.specs.Port.Port.{Port, timing_fate, after_timing, timing_measure, takes_from, paired_fate, response_fate, triple_of, request_answered_by}
use Rattle.foreign_master.specs.RecordsView.{RecordsRepresent}
use Rattle.bc_history.specs.declared.port_input.EventContext.{EventContext}
use Rattle.bc_history.specs.Phases.PortPhase.{announcement_of, message_fate, with_message, read_fate, frame_fate, frame_measure, with_frame}
use Rattle.bc_history.specs.Phases.EntryEffects.{is_answered}
use Rattle.bc_history.specs.Phases.HubPort.{HubPort}
use Rattle.port_engine.specs.EngineView.{EngineRepresents, frames_for}
use Rattle.ptp_profile.specs.Port.PortMessages.{delay_response_by}
use Rattle.bc_history.proofs.lemmas.PortPhaseLemmas.{timing_alike}
use Rattle.bc_ports.proofs.lemmas.HubPortLemmas.{keeps-engine}
use Rattle.bc_ports.specs.PortYield.{response_frames, BearsTime}
use Rattle.bc_ports.specs.Representation.{Represents, PortRepresents}
use Rattle.bc_ports.specs.declared.hub_port.HubPort.{HubPort as KeptPort}

-- numbers that differ fail the test
differs-eqb : (a b : ℕ) → (a ≡ b → ⊥) → eqb a b ≡ false
differs-eqb a b other = elim (eqb_tells a b) [ inl t ↦ absurd (other t.1) | inr f ↦ f.0 ]

-- an Announce of the own clock is told by the records
own-heard : (own : Bool) (rest : Heard) → fate_of_hearing (cond own Heard_own rest) ≡ cond own Own (fate_of_hearing (cond own Heard_own rest))
own-heard true rest = refl
own-heard false rest = refl

hearing-own : (w m : ℕ) (kept : List KeptAnnounce) (a : Announcement)
    → fate_of_hearing (hearing_of w m kept a) ≡ cond (eqb a.sender.clock.id a.receiver.clock.id) Own (fate_of_hearing (hearing_of w m kept a))
hearing-own w m kept a = own-heard (eqb a.sender.clock.id a.receiver.clock.id) _

pub fate-heard : (k : EventContext) (message : Message) (origin : ℤ) (said : Said) (h : HubPort) (id : PortId) (w : ℕ) (heard : Heard) (fate : Fate) (a : Announcement)
    → message.body ≡ Announce origin said → id ≡ h.port.id → w ≡ window_of h.port.conf → a ≡ announcement_of id message said
    → heard ≡ hearing_of w k.moment h.kept a → fate ≡ fate_of_hearing heard → fate ≡ read_fate k (Ok message) h
fate-heard k message origin said h id w heard fate a body id_is w_is a_is heard_is fate_is =
    rw (body, fate_is, heard_is, a_is, w_is, id_is) (hearing-own (window_of h.port.conf) k.moment h.kept (announcement_of h.port.id message said))

pub stands-heard : (length : ℕ) (k : EventContext) (q q' : KeptPort) (h : HubPort) (message : Message) (origin : ℤ) (said : Said) (heard : Heard) (a : Announcement)
    → message.body ≡ Announce origin said → a ≡ announcement_of h.port.id message said → PortRepresents length k.moment q h → q'.engine ≡ q.engine
    → (heard ≡ Heard_kept → RecordsRepresent q'.records (record { at = k.moment; said = a } ∷ h.kept)) → (heard ≢ Heard_kept → q'.records ≡ q.records) → q'.records.window ≡ q.records.window → q'.records.receiver ≡ q.records.receiver
    → PortRepresents length k.moment q' (with_message k message (fate_of_hearing heard) h)
stands-heard length k q q' h message origin said Heard_kept a body a_is s engine kept same w r =
    rw body (record { engine = rw engine s.engine; records = rw (← a_is) (kept refl); reached = All-cons (λ (x : KeptAnnounce). x.at ≤ k.moment) _ h.kept (omega arith) s.reached; window = w ∙ s.window; receiver = r ∙ s.receiver })
stands-heard length k q q' h message origin said Heard_own a body a_is s engine kept same w r = record { engine = rw engine s.engine; records = rw (same (λ e. cc)) s.records; reached = s.reached; window = w ∙ s.window; receiver = r ∙ s.receiver }
stands-heard length k q q' h message origin said Heard_far a body a_is s engine kept same w r = record { engine = rw engine s.engine; records = rw (same (λ e. cc)) s.records; reached = s.reached; window = w ∙ s.window; receiver = r ∙ s.receiver }
stands-heard length k q q' h message origin said Heard_alternate a body a_is s engine kept same w r = record { engine = rw engine s.engine; records = rw (same (λ e. cc)) s.records; reached = s.reached; window = w ∙ s.window; receiver = r ∙ s.receiver }
stands-heard length k q q' h message origin said Heard_crowded a body a_is s engine kept same w r = record { engine = rw engine s.engine; records = rw (same (λ e. cc)) s.records; reached = s.reached; window = w ∙ s.window; receiver = r ∙ s.receiver }

-- a message that is no Announce is judged by the port alone
pub message_fate-timing : (k : EventContext) (message : Message) (h : HubPort) (body : Body) → BearsTime body
    → message_fate k message h body ≡ timing_fate k.parent message k.reading h.port body
message_fate-timing k message h (Sync origin) other = refl
message_fate-timing k message h (DelayReq origin) other = refl
message_fate-timing k message h (FollowUp precise) other = refl
message_fate-timing k message h (DelayResp receive requesting) other = refl
message_fate-timing k message h (Announce origin said) other = absurd other

-- so it is where it comes from another clock
pub read_fate-timing : (k : EventContext) (message : Message) (h : HubPort) (fate : Fate) → BearsTime message.body → (message.sender.clock.id ≡ h.port.id.clock.id → ⊥)
    → fate ≡ timing_fate k.parent message k.reading h.port message.body → fate ≡ read_fate k (Ok message) h
read_fate-timing k message h fate timing other is =
    rw (differs-eqb message.sender.clock.id h.port.id.clock.id other) (is ∙ sym (message_fate-timing k message h message.body timing))

paired-other : (b : Bool) (t : Option Triple) → cond b (paired_fate t) Ignored ≢ Kept
paired-other true None e = cc
paired-other true (Some t) e = cc
paired-other false t e = cc

matched-other : (b : Bool) (r : Option Request) → cond b (response_fate r) Ignored ≢ Kept
matched-other true None e = cc
matched-other true (Some t) e = cc
matched-other false t e = cc

answered-other : (b : Bool) → cond b Answered Ignored ≢ Kept
answered-other true e = cc
answered-other false e = cc

-- it is never kept
pub timing_fate-other : (parent : PortId) (message : Message) (seen : ℤ) (p : Port) (body : Body) → timing_fate parent message seen p body ≢ Kept
timing_fate-other parent message seen p (Sync origin) = paired-other (takes_from parent message.sender p) (triple_of message seen p)
timing_fate-other parent message seen p (DelayReq origin) = answered-other (is_master p.state)
timing_fate-other parent message seen p (FollowUp precise) = paired-other (takes_from parent message.sender p) (triple_of message seen p)
timing_fate-other parent message seen p (DelayResp receive requesting) = matched-other (takes_from parent message.sender p) (request_answered_by message message.body p)
timing_fate-other parent message seen p (Announce origin said) = λ e. cc

-- what a frame that is not kept leaves
pub keeps-timing : (length m : ℕ) (q q' : KeptPort) (p : Port) (kept : List KeptAnnounce) (message : Message) (reading : ℤ) (fate : Fate) → q'.records ≡ q.records → Represents length m q p kept
    → EngineRepresents length q'.engine (after_timing message reading fate p) → Represents length m q' (after_timing message reading fate p) kept
keeps-timing length m q q' p kept message reading fate records s engine =
    let same = timing_alike message reading fate p in
    keeps-engine length m q q' p (after_timing message reading fate p) kept records same.id same.conf s engine

pub stands-other : (length m : ℕ) (k : EventContext) (q : KeptPort) (h : HubPort) (message : Message) (fate : Fate) → fate ≢ Kept
    → Represents length m q (after_timing message k.reading fate h.port) h.kept → PortRepresents length m q (with_message k message fate h)
stands-other length m k q h message Asleep other s = s
stands-other length m k q h message (Dropped reject) other s = s
stands-other length m k q h message Own other s = s
stands-other length m k q h message Far other s = s
stands-other length m k q h message Alternate other s = s
stands-other length m k q h message Crowded other s = s
stands-other length m k q h message Kept other s = absurd (other refl)
stands-other length m k q h message Ignored other s = s
stands-other length m k q h message Waiting other s = s
stands-other length m k q h message Paired other s = s
stands-other length m k q h message Matched other s = s
stands-other length m k q h message Unmatched other s = s
stands-other length m k q h message Answered other s = s

-- what the engine answers is what the definitions of a history answer
pub responses-answered : (message : Message) (seen : ℤ) (fate : Fate) (p : Port) → frames_for fate (delay_response_by message.domain seen message p) ≡ response_frames message.domain seen (Ok message) fate p
responses-answered message seen Asleep p = refl
responses-answered message seen (Dropped reject) p = refl
responses-answered message seen Own p = refl
responses-answered message seen Far p = refl
responses-answered message seen Alternate p = refl
responses-answered message seen Crowded p = refl
responses-answered message seen Kept p = refl
responses-answered message seen Ignored p = refl
responses-answered message seen Waiting p = refl
responses-answered message seen Paired p = refl
responses-answered message seen Matched p = refl
responses-answered message seen Unmatched p = refl
responses-answered message seen Answered p = refl

-- a fate that is not answered sends nothing
pub unanswered : (domain : ℕ) (seen : ℤ) (read : Result Message Reject) (fate : Fate) (p : Port) (frames : List (List ℕ)) → is_answered (Some fate) ≡ false → frames ≡ frames ++ response_frames domain seen read fate p
unanswered domain seen read fate p frames un = rw un (sym (append-nil frames))

-- a port that is not FAULTY takes frames
-- an Announce is not answered, whatever became of it
pub heard-unanswered : (heard : Heard) → is_answered (Some (fate_of_hearing heard)) ≡ false
heard-unanswered Heard_kept = refl
heard-unanswered Heard_own = refl
heard-unanswered Heard_far = refl
heard-unanswered Heard_alternate = refl
heard-unanswered Heard_crowded = refl

-- nor does it give a measure
pub heard-unmeasured : (length : ℕ) (message : Message) (seen : ℤ) (heard : Heard) (p : Port)
    → timing_measure length message seen (fate_of_hearing heard) p ≡ None
heard-unmeasured length message seen Heard_kept p = refl
heard-unmeasured length message seen Heard_own p = refl
heard-unmeasured length message seen Heard_far p = refl
heard-unmeasured length message seen Heard_alternate p = refl
heard-unmeasured length message seen Heard_crowded p = refl

pub is_faulty-other : (s : PortState) → s ≢ Faulty → is_faulty s ≡ false
is_faulty-other Initializing other = refl
is_faulty-other Faulty other = absurd (other refl)
is_faulty-other Disabled other = refl
is_faulty-other Listening other = refl
is_faulty-other PreMaster other = refl
is_faulty-other Master other = refl
is_faulty-other Passive other = refl
is_faulty-other Uncalibrated other = refl
is_faulty-other Slave other = refl

pub frame_fate-read : (k : EventContext) (read : Result Message Reject) (message : Message) (h : HubPort) (fate : Fate) → read ≡ Ok message → h.port.state ≢ Faulty
    → fate ≡ read_fate k (Ok message) h → fate ≡ frame_fate k read h
frame_fate-read k read message h fate read_is awake is = rw (read_is, is_faulty-other h.port.state awake) is

pub frame_measure-read : (k : EventContext) (length : ℕ) (read : Result Message Reject) (message : Message) (h : HubPort) (fate : Fate) (measure : Option Measure) → read ≡ Ok message
    → fate ≡ frame_fate k read h → measure ≡ timing_measure length message k.reading fate h.port → measure ≡ frame_measure length k read h
frame_measure-read k length read message h fate measure read_is fate_is is =
    let P : Result Message Reject → Type 0 = λ r. fate ≡ frame_fate k r h in
    rw read_is (is ∙ ap (λ (f : Fate). timing_measure length message k.reading f h.port) (subst P read_is fate_is))

pub with_frame-read : (k : EventContext) (length : ℕ) (read : Result Message Reject) (message : Message) (h : HubPort) (fate : Fate) (q : KeptPort) → read ≡ Ok message
    → fate ≡ frame_fate k read h → PortRepresents length k.moment q (with_message k message fate h) → PortRepresents length k.moment q (with_frame k read h)
with_frame-read k length read message h fate q read_is fate_is is =
    let P : Result Message Reject → Type 0 = λ r. fate ≡ frame_fate k r h in
    let Q : Fate → Type 0 = λ f. PortRepresents length k.moment q (with_message k message f h) in
    rw read_is (subst Q (subst P read_is fate_is) is)

pub answered-read : (domain : ℕ) (read : Result Message Reject) (message : Message) (seen : ℤ) (p : Port) (fate : Fate) (frames sent : List (List ℕ)) → read ≡ Ok message → IfOk read (λ (m : Message). m.domain ≡ domain)
    → sent ≡ frames ++ response_frames message.domain seen (Ok message) fate p → sent ≡ frames ++ response_frames domain seen read fate p
answered-read domain read message seen p fate frames sent read_is domain_is is =
    let P : Result Message Reject → Type 0 = λ r. IfOk r (λ (m : Message). m.domain ≡ domain) in
    let same : message.domain ≡ domain = subst P read_is domain_is in
    rw read_is (is ∙ ap (λ (d : ℕ). frames ++ response_frames d seen (Ok message) fate p) same)
