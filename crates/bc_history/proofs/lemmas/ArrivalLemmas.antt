-- The Syncs that a port keeps arrived at times that were read, and so did the Sync of a measure.
use Rattle.std.proofs.Common.{◌≡◌, ◌+ℤ◌, ℕ, ℤ, Bool, true, false, cond, eqb, sym, ◌∙◌, subst, List, [], ◌∷◌, ◌++◌, Option, Some, None, Result, Ok, Err}
use Rattle.std.specs.Prelude.{◌&&◌, All, IfSome, bit_and, is_none, option_and_then, option_to_list}
use Rattle.std.specs.Int.Signed.{le_z_yes}
use Rattle.std.proofs.lemmas.List.Elements.{All-head, All-tail}
use Rattle.std.proofs.lemmas.Option.{same_Some}
use Rattle.ptp_base.specs.declared.port_state.PortState.{PortState}
use Rattle.ptp_base.specs.declared.port_state.PortState.TheVariants.{Uncalibrated}
use Rattle.ptp_base.specs.declared.triple.Triple.{Triple}
use Rattle.ptp_profile.specs.declared.message.Body.{Body}
use Rattle.ptp_profile.specs.declared.message.Body.TheVariants.{Sync as Sync_body, DelayReq, FollowUp, DelayResp, Announce}
use Rattle.ptp_profile.specs.declared.message.Message.{Message}
use Rattle.ptp_profile.specs.declared.message.Reject.{Reject}
use Rattle.ptp_profile.specs.declared.port_event.Fate.{Fate}
use Rattle.ptp_profile.specs.declared.port_event.Fate.TheVariants.{Kept, Waiting, Paired, Matched}
use Rattle.ptp_profile.specs.declared.port_event.PortEvent.{PortEvent}
use Rattle.ptp_profile.specs.declared.port_event.PortEvent.TheVariants.{Decided}
use Rattle.ptp_profile.specs.declared.port_event.Timer.{Timer}
use Rattle.ptp_profile.specs.declared.port_event.Timer.TheVariants.{AnnounceReceipt, Qualification, AnnounceSend, SyncSend, DelayRequest}
use Rattle.ptp_profile.specs.declared.seats.Held.{Held}
use Rattle.ptp_profile.specs.declared.timing.Action.{Action}
use Rattle.ptp_profile.specs.declared.timing.Action.TheVariants.{Jump}
use Rattle.ptp_profile.specs.declared.timing.Measure.{Measure}
use Rattle.ptp_profile.specs.Port.PortStates.{is_dependent, next, state_number}
use Rattle.ptp_profile.specs.Port.Port.{Port, after_clearing, after_entering, after_entering_uncalibrated, after_event, after_firing, after_timing, gets_parent, is_set_for, piece_of, timing_measure, triple_of, with_receipt_renewed, with_response}
use Rattle.ptp_profile.specs.Timing.OffsetAndDelay.{Piece, One_step, Sync, Follow_up, mean_of, measure_of, triple_after, triple_from, triple_of_pieces}
use Rattle.bc_history.specs.declared.entry.Entry.{Entry}
use Rattle.bc_history.specs.declared.entry.Outcome.{Outcome}
use Rattle.bc_history.specs.declared.entry.Outcome.TheVariants.{Changed}
use Rattle.bc_history.specs.declared.entry.Seen.{Seen}
use Rattle.bc_history.specs.declared.port_input.EventContext.{EventContext}
use Rattle.bc_history.specs.declared.port_input.PortHappening.{PortHappening}
use Rattle.bc_history.specs.declared.port_input.PortHappening.TheVariants.{Frame, Timed, Down, Up, Report}
use Rattle.bc_history.specs.declared.port_input.PortInput.{PortInput}
use Rattle.bc_history.specs.declared.scenario.Options.{Options}
use Rattle.bc_history.specs.declared.scenario.Scenario.{Scenario}
use Rattle.bc_history.specs.Phases.DecisionPhase.{best_of, code_with, is_new_parent, is_sent_by, newest_sender, with_renewal}
use Rattle.bc_history.specs.Phases.HubPort.{HubPort, TickMeasure}
use Rattle.bc_history.specs.Phases.Inputs.{IsReadTime, IsTime, event_of, port_of, value_of}
use Rattle.bc_history.specs.Phases.OpeningState.{local_announcement}
use Rattle.bc_history.specs.Phases.PortPhase.{after_cause, after_input, after_report, context_of, frame_fate, frame_measure, happening_event, happening_measure, is_report_counted, read_frame, with_frame, with_happening, with_kept, with_message}
use Rattle.bc_history.specs.Phases.State.{State}
use Rattle.bc_history.specs.Phases.Step.{core_after, core_before, state_of, step}
use Rattle.bc_history.specs.Run.History.{Continues}
use Rattle.bc_history.proofs.lemmas.CoreInvariantLemmas.{DecisionsKeepPorts, Each, Each-opening, option_map-some}
use Rattle.bc_history.proofs.lemmas.EffectKindLemmas.{with_renewal-measured}
use Rattle.bc_history.proofs.lemmas.EntryPhaseLemmas.{Each-after_entry, measure_at-some, port_entry-parts}
use Rattle.bc_history.proofs.lemmas.MeasureLemmas.{told-measure}

-- ---- pieces

-- a Sync arrived at a time
abbrev ArrivedAtTime : Piece → Type 0
ArrivedAtTime (One_step origin arrived correction) = IsTime arrived
ArrivedAtTime (Sync seq arrived correction) = IsTime arrived
ArrivedAtTime (Follow_up seq precise correction) = Unit {0}

-- so did all Syncs of the pieces
abbrev AllArrived : List Piece → Type 0
AllArrived [] = Unit {0}
AllArrived (piece ∷ pieces) = ArrivedAtTime piece × AllArrived pieces

-- the Sync of a triple arrived at a time
abbrev TripleArrived : Option Triple → Type 0
TripleArrived None = Unit {0}
TripleArrived (Some t) = IsTime t.arrived

-- a triple that is given or not
TripleArrived-if : (b : Bool) (o : Option Triple) → TripleArrived o → TripleArrived (cond b o None)
TripleArrived-if true o arrived = arrived
TripleArrived-if false o arrived = tt

-- two pieces give the triple of their Sync
TripleArrived-pieces : (a b : Piece) → ArrivedAtTime a → ArrivedAtTime b → TripleArrived (triple_of_pieces a b)
TripleArrived-pieces (Sync seq arrived c) (Follow_up other precise d) first later =
    TripleArrived-if (eqb seq other) (Some (triple_from precise arrived (c +ℤ d))) first
TripleArrived-pieces (Follow_up other precise d) (Sync seq arrived c) first later =
    TripleArrived-if (eqb seq other) (Some (triple_from precise arrived (c +ℤ d))) later
TripleArrived-pieces (Sync seq arrived c) (Sync other at d) first later = tt
TripleArrived-pieces (Sync seq arrived c) (One_step origin at d) first later = tt
TripleArrived-pieces (Follow_up seq precise c) (Follow_up other origin d) first later = tt
TripleArrived-pieces (Follow_up seq precise c) (One_step origin arrived d) first later = tt
TripleArrived-pieces (One_step origin arrived c) piece first later = tt

-- a piece gives the triple of a Sync among the pieces
TripleArrived-after : (piece : Piece) (before : List Piece) → ArrivedAtTime piece → AllArrived before
    → TripleArrived (triple_after piece before)
TripleArrived-after (One_step origin arrived c) before here all = here
TripleArrived-after (Sync seq arrived c) [] here all = tt
TripleArrived-after (Sync seq arrived c) (former ∷ before) here all =
    TripleArrived-if (is_none (triple_after former before)) (triple_of_pieces former (Sync seq arrived c))
    (TripleArrived-pieces former (Sync seq arrived c) all.0 here)
TripleArrived-after (Follow_up seq precise c) [] here all = tt
TripleArrived-after (Follow_up seq precise c) (former ∷ before) here all =
    TripleArrived-if (is_none (triple_after former before)) (triple_of_pieces former (Follow_up seq precise c))
    (TripleArrived-pieces former (Follow_up seq precise c) all.0 here)

-- ---- a message that bears times

-- one more piece, or none
abbrev PieceArrived : Option Piece → Type 0
PieceArrived None = Unit {0}
PieceArrived (Some piece) = ArrivedAtTime piece

-- a Sync of one step or of two
piece-if : (b : Bool) (one two : Piece) → ArrivedAtTime one → ArrivedAtTime two → PieceArrived (cond b (Some one) (Some two))
piece-if true one two first later = first
piece-if false one two first later = later

-- a Sync arrives when the clock is read
PieceArrived-read : (message : Message) (seen : ℤ) (body : Body) → IsTime seen → PieceArrived (piece_of message seen body)
PieceArrived-read message seen (Sync_body origin) time =
    piece-if (eqb (bit_and message.flags 0x0200) 0) (One_step origin seen message.correction)
    (Sync message.seq seen message.correction) time time
PieceArrived-read message seen (FollowUp precise) time = tt
PieceArrived-read message seen (DelayReq origin) time = tt
PieceArrived-read message seen (DelayResp receive requesting) time = tt
PieceArrived-read message seen (Announce origin said) time = tt

-- with it all Syncs arrived at times
AllArrived-more : (piece : Option Piece) (pieces : List Piece) → PieceArrived piece → AllArrived pieces
    → AllArrived (option_to_list piece ++ pieces)
AllArrived-more None pieces here all = all
AllArrived-more (Some piece) pieces here all = (here, all)

-- after a response the pieces are the same
response-pieces : (message : Message) (body : Body) (p : Port) → AllArrived p.pieces → AllArrived (with_response message body p).pieces
response-pieces message (DelayResp receive requesting) p all = all
response-pieces message (Sync_body origin) p all = all
response-pieces message (DelayReq origin) p all = all
response-pieces message (FollowUp precise) p all = all
response-pieces message (Announce origin said) p all = all

-- a message that is no Announce, at a reading
timing-pieces : (message : Message) (seen : ℤ) (fate : Fate) (p : Port) → IsTime seen → AllArrived p.pieces
    → AllArrived (after_timing message seen fate p).pieces
timing-pieces message seen Waiting p time all =
    AllArrived-more (piece_of message seen message.body) p.pieces (PieceArrived-read message seen message.body time) all
timing-pieces message seen Paired p time all =
    AllArrived-more (piece_of message seen message.body) p.pieces (PieceArrived-read message seen message.body time) all
timing-pieces message seen Matched p time all = response-pieces message message.body p all
timing-pieces message seen _ p time all = all

-- the triple of a message, at a reading
TripleArrived-read : (message : Message) (seen : ℤ) (p : Port) → IsTime seen → AllArrived p.pieces
    → TripleArrived (triple_of message seen p)
TripleArrived-read message seen p time all = by (piece_of message seen message.body) (PieceArrived-read message seen message.body time)
  where
    by : (piece : Option Piece) → PieceArrived piece
        → TripleArrived (option_and_then (λ (x : Piece). triple_after x p.pieces) piece)
    by None here = tt
    by (Some piece) here = TripleArrived-after piece p.pieces here all

-- a measure is of the time when its Sync arrived
measure-arrived : (t : Triple) (mean : Option ℤ) (m : Measure) → IsTime t.arrived → measure_of t mean ≡ Some m → IsTime m.local
measure-arrived t None m arrived is = absurd (cc)
measure-arrived t (Some mean) m arrived is =
    let made = same_Some _ m is in subst (λ (x : Measure). IsTime x.local) made arrived

-- the measure that a triple gives
triple-measure : (t : Option Triple) (mean : Option ℤ) (m : Measure) → TripleArrived t
    → option_and_then (λ (x : Triple). measure_of x mean) t ≡ Some m → IsTime m.local
triple-measure None mean m arrived is = absurd (cc)
triple-measure (Some t) mean m arrived is = measure-arrived t mean m arrived is

-- the measure that a message gives, at a reading
timing-measure : (length : ℕ) (message : Message) (seen : ℤ) (fate : Fate) (p : Port) (m : Measure) → IsTime seen → AllArrived p.pieces
    → timing_measure length message seen fate p ≡ Some m → IsTime m.local
timing-measure length message seen Paired p m time all is =
    triple-measure (triple_of message seen p) (mean_of length p.delays) m (TripleArrived-read message seen p time all) is
timing-measure length message seen _ p m time all is = absurd (cc)

-- ---- what happens to a port, and its events

-- a port whose Syncs all arrived at times
abbrev HasArrivals : HubPort → Type 0
HasArrivals h = AllArrived h.port.pieces

-- a port that is changed or not
HasArrivals-if : (b : Bool) (g h : HubPort) → HasArrivals g → HasArrivals h → HasArrivals (cond b g h)
HasArrivals-if true g h first later = first
HasArrivals-if false g h first later = later

-- the pieces of a port that is changed or not
pieces-if : (b : Bool) (p q : Port) → AllArrived p.pieces → AllArrived q.pieces → AllArrived (cond b p q).pieces
pieces-if true p q first later = first
pieces-if false p q first later = later

-- a kept Announce
kept-arrivals : (m : ℕ) (message : Message) (body : Body) (h : HubPort) → HasArrivals h → HasArrivals (with_kept m message body h)
kept-arrivals m message (Announce origin said) h all = all
kept-arrivals m message _ h all = all

-- a message, by its fate
message-arrivals : (k : EventContext) (message : Message) (fate : Fate) (h : HubPort) → IsTime k.reading → HasArrivals h
    → HasArrivals (with_message k message fate h)
message-arrivals k message Kept h time all = kept-arrivals k.moment message message.body h all
message-arrivals k message fate h time all = timing-pieces message k.reading fate h.port time all

-- a frame, read or not
frame-arrivals : (k : EventContext) (read : Result Message Reject) (h : HubPort) → IsTime k.reading → HasArrivals h
    → HasArrivals (with_frame k read h)
frame-arrivals k (Err reject) h time all = all
frame-arrivals k (Ok message) h time all = message-arrivals k message (frame_fate k (Ok message) h) h time all

-- a timer that fires
fired-pieces : (tick : ℕ) (seen : ℤ) (timer : Timer) (p : Port) → AllArrived p.pieces → AllArrived (after_firing tick seen timer p).pieces
fired-pieces tick seen AnnounceReceipt p all = all
fired-pieces tick seen Qualification p all = all
fired-pieces tick seen AnnounceSend p all = all
fired-pieces tick seen SyncSend p all = all
fired-pieces tick seen DelayRequest p all = all

-- a report that counts
report-pieces : (action : Action) (outcome : Outcome) (p : Port) → AllArrived p.pieces → AllArrived (after_report action outcome p).pieces
report-pieces (Jump step freq) (Changed number) p all = tt
report-pieces action outcome p all = all

-- all that happens to a port
happening-arrivals : (o : Options) (k : EventContext) (tick : ℕ) (what : PortHappening) (h : HubPort) → IsTime k.reading
    → HasArrivals h → HasArrivals (with_happening o k tick what h)
happening-arrivals o k tick (Frame octets) h time all = frame-arrivals k (read_frame o octets) h time all
happening-arrivals o k tick (Timed timer) h time all =
    pieces-if (is_set_for timer tick h.port) (after_firing tick k.reading timer h.port) h.port
    (fired-pieces tick k.reading timer h.port all) all
happening-arrivals o k tick Down h time all = all
happening-arrivals o k tick Up h time all = all
happening-arrivals o k tick (Report gener action outcome) h time all =
    pieces-if (is_report_counted k h gener) (after_report action outcome h.port) h.port (report-pieces action outcome h.port all) all

-- a port that enters UNCALIBRATED
uncalibrated-pieces : (m : ℕ) (cause : PortEvent) (p : Port) → AllArrived p.pieces
    → AllArrived (after_entering_uncalibrated m cause p).pieces
uncalibrated-pieces m (Decided code) p all = tt
uncalibrated-pieces m _ p all = all

-- a port that enters a state
entered-pieces : (m steps : ℕ) (cause : PortEvent) (s : PortState) (p : Port) → AllArrived p.pieces
    → AllArrived (after_entering m steps cause s p).pieces
entered-pieces m steps cause Uncalibrated p all = uncalibrated-pieces m cause p all
entered-pieces m steps cause _ p all = all

-- an event
event-pieces : (m steps : ℕ) (cause : PortEvent) (is_new : Bool) (p : Port) → AllArrived p.pieces
    → AllArrived (after_event m steps cause is_new p).pieces
event-pieces m steps cause is_new p all =
    let s = next p.state cause is_new in
    pieces-if (gets_parent cause is_new p.state) (with_receipt_renewed m (record (after_clearing p) { state = Uncalibrated }))
    (cond (eqb (state_number s) (state_number p.state)) p (after_entering m steps cause s p)) tt
    (pieces-if (eqb (state_number s) (state_number p.state)) p (after_entering m steps cause s p) all
    (entered-pieces m steps cause s p all))

-- an event, if there is one
cause-arrivals : (k : EventContext) (event : Option PortEvent) (h : HubPort) → HasArrivals h → HasArrivals (after_cause k event h)
cause-arrivals k None h all = all
cause-arrivals k (Some cause) h all = event-pieces k.moment k.steps cause false h.port all

-- an input, with the port's event
input-arrivals : (o : Options) (k : EventContext) (p : PortInput) (h : HubPort) → IsTime k.reading → HasArrivals h
    → HasArrivals (after_input o k p h)
input-arrivals o k p h time all =
    cause-arrivals k (happening_event k p.tick p.what h) (with_happening o k p.tick p.what h)
    (happening-arrivals o k p.tick p.what h time all)

-- a renewal
renewal-arrivals : (m : ℕ) (h : HubPort) → HasArrivals h → HasArrivals (with_renewal m h)
renewal-arrivals m h all =
    HasArrivals-if (is_dependent h.port.state && is_sent_by (best_of m h) (newest_sender h.kept))
    (record h { port = with_receipt_renewed m h.port }) h all all

-- the measure of what happens to a port
happening-measure : (o : Options) (k : EventContext) (what : PortHappening) (h : HubPort) (m : Measure) → IsTime k.reading → HasArrivals h
    → happening_measure o k what h ≡ Some m → IsTime m.local
happening-measure o k (Frame octets) h m time all is = by (read_frame o octets) is
  where
    by : (read : Result Message Reject) → frame_measure o.delay_filter_length k read h ≡ Some m → IsTime m.local
    by (Err reject) none = absurd (cc)
    by (Ok message) given =
        timing-measure o.delay_filter_length message k.reading (frame_fate k (Ok message) h) h.port m time all given
happening-measure o k (Timed timer) h m time all is = absurd (cc)
happening-measure o k Down h m time all is = absurd (cc)
happening-measure o k Up h m time all is = absurd (cc)
happening-measure o k (Report gener action outcome) h m time all is = absurd (cc)

-- ---- along a history

-- where nothing is read the time is 0
IsTime-read : (seen : Option Seen) → IfSome seen (λ (x : Seen). IsTime x.value) → IsTime (value_of seen)
IsTime-read None read = (le_z_yes tt, le_z_yes tt)
IsTime-read (Some seen) read = read

-- a decision keeps what arrived
decisions-arrivals : (o : Options) → DecisionsKeepPorts o (λ p h. HasArrivals h)
decisions-arrivals o = record {
  code = λ m best parent steps p h all.
      event-pieces m steps (Decided (code_with (local_announcement o) m best h)) (is_new_parent best parent) h.port all;
  renewal = λ m p h all. renewal-arrivals m h all;
}

-- where all entries read times, all Syncs that a port keeps arrived at times
arrivals-state_of : (s : Scenario) (entries : List Entry) → All IsReadTime entries
    → Each (λ p h. HasArrivals h) (state_of s entries).core.ports
unfolding state_of step
arrivals-state_of s [] read = Each-opening s (λ p h. HasArrivals h) (λ i conf is. tt)
arrivals-state_of s (e ∷ before) read =
    let h = state_of s before in
    let here = IsTime-read e.seen (All-head IsReadTime e before read) in
    Each-after_entry s.options h (event_of e) (λ p g. HasArrivals g) (λ p g. HasArrivals g) (record {
      own = λ x g is all. input-arrivals s.options (context_of x (core_before h (event_of e))) x.input g
          (subst IsTime (sym (port_entry-parts h (event_of e) x is).0) here) all;
      elsewhere = λ p g other all. all;
    }) (decisions-arrivals s.options) (arrivals-state_of s before (All-tail IsReadTime e before read))

-- the entry's port measured at a time, if it measured
abbrev MeasuredAtTime : Entry → ℕ → HubPort → Type 0
MeasuredAtTime e p h = port_of e.input ≡ Some p → (m : TickMeasure) → h.measured ≡ Some m → IsTime m.measure.local

-- so did the port of an entry that read a time
Each-measured_at_time : (o : Options) (h : State) (e : Entry) → IsReadTime e → Each (λ p g. HasArrivals g) h.core.ports
    → Each (MeasuredAtTime e) (core_after o h (event_of e)).ports
Each-measured_at_time o h e read each =
    Each-after_entry o h (event_of e) (λ p g. HasArrivals g) (MeasuredAtTime e) (record {
      own = λ x g is all one m there.
          let time = subst IsTime (sym (port_entry-parts h (event_of e) x is).0) (IsTime-read e.seen read) in
          let made = option_map-some _ _ m there in
          subst (λ (y : TickMeasure). IsTime y.measure.local) made.2
          (happening-measure o (context_of x (core_before h (event_of e))) x.input.what g made.0 time all made.1);
      elsewhere = λ p g other all one. absurd (other one);
    }) (record {
      code = λ m best parent steps p g at. at;
      renewal = λ m p g at one x there. at one x (sym (with_renewal-measured m g) ∙ there);
    }) each

-- a measure is of a time that a clock reads
pub measures-read : (s : Scenario) (entries : List Entry) (e : Entry) (m : Measure × Held) → Continues s (e ∷ entries)
    → All IsReadTime (e ∷ entries) → e.effects.measure ≡ Some m → IsTime m.0.local
measures-read s before e m (f, continues) read is =
    let h = state_of s before in
    let given = measure_at-some (event_of e) (core_after s.options h (event_of e)).ports m (sym (told-measure s before e f) ∙ is) in
    let each = Each-measured_at_time s.options h e (All-head IsReadTime e before read)
    (arrivals-state_of s before (All-tail IsReadTime e before read)) in
    subst (λ (x : Measure × Held). IsTime x.0.local) given.is
    (each given.number given.port given.there given.of given.measured given.has)
