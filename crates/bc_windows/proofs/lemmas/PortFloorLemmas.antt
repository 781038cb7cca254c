-- The timers of all ports, each set for a moment above a floor: an entry whose tick is above it leaves them so.
use Rattle.std.proofs.Common.{◌≡◌, ◌<◌, ℕ, ℤ, Bool, true, false, cond, max, refl, List, ◌∷◌, Option, Some, None, Result, Ok, Err, arith}
use Rattle.std.specs.Prelude.{◌&&◌}
use Rattle.ptp_profile.specs.declared.message.Body.{Body}
use Rattle.ptp_profile.specs.declared.message.Body.TheVariants.{Sync as Sync_body, DelayReq, FollowUp, DelayResp, Announce}
use Rattle.ptp_profile.specs.declared.message.Message.{Message}
use Rattle.ptp_profile.specs.declared.message.Reject.{Reject}
use Rattle.ptp_profile.specs.declared.port_event.Fate.{Fate}
use Rattle.ptp_profile.specs.declared.port_event.Fate.TheVariants.{Kept, Waiting, Paired, Matched}
use Rattle.ptp_profile.specs.declared.port_event.PortEvent.{PortEvent}
use Rattle.ptp_profile.specs.declared.port_event.PortEvent.TheVariants.{Decided}
use Rattle.ptp_profile.specs.declared.port_event.Timer.{Timer}
use Rattle.ptp_profile.specs.declared.timing.Action.{Action}
use Rattle.ptp_profile.specs.declared.timing.Action.TheVariants.{Jump}
use Rattle.ptp_profile.specs.Port.PortStates.{is_dependent}
use Rattle.ptp_profile.specs.Port.Port.{Port, after_firing, after_timing, is_set_for, with_receipt_renewed, with_response}
use Rattle.bc_history.specs.declared.entry.Entry.{Entry}
use Rattle.bc_history.specs.declared.entry.Outcome.{Outcome}
use Rattle.bc_history.specs.declared.entry.Outcome.TheVariants.{Changed}
use Rattle.bc_history.specs.declared.port_input.EventContext.{EventContext}
use Rattle.bc_history.specs.declared.port_input.PortEntry.{PortEntry}
use Rattle.bc_history.specs.declared.port_input.PortHappening.{PortHappening}
use Rattle.bc_history.specs.declared.port_input.PortHappening.TheVariants.{Frame, Timed, Down, Up, Report}
use Rattle.bc_history.specs.declared.port_input.PortInput.{PortInput}
use Rattle.bc_history.specs.declared.scenario.Options.{Options}
use Rattle.bc_history.specs.declared.scenario.Scenario.{Scenario}
use Rattle.bc_history.specs.Phases.DecisionPhase.{after_hearing, best_among, best_of, code_with, is_new_parent, is_sent_by, master_among, newest_sender, with_code, with_codes, with_renewal}
use Rattle.bc_history.specs.Phases.HubPort.{HubPort}
use Rattle.bc_history.specs.Phases.Inputs.{event_of, tick_of}
use Rattle.bc_history.specs.Phases.OpeningState.{local_announcement}
use Rattle.bc_history.specs.Phases.PortPhase.{after_cause, after_input, after_port, after_report, context_of, frame_fate, happening_event, is_report_counted, read_frame, with_frame, with_happening, with_kept, with_message}
use Rattle.bc_history.specs.Phases.State.{Core}
use Rattle.bc_history.specs.Phases.Step.{state_of, step}
use Rattle.bc_history.proofs.lemmas.CoreInvariantLemmas.{Each, Each-after_port, Each-at_port, Each-map, kept-phases}
use Rattle.bc_windows.proofs.lemmas.TimerFloorLemmas.{AreSetAbove, either-above, event-above, fired-above, renewed-above, set-above}

-- ---- one port

-- a port whose timers are set above a floor
abbrev pub IsPortAbove : ℕ → HubPort → Type 0
IsPortAbove floor h = AreSetAbove floor h.port.timers

-- a response
response-above : (floor : ℕ) (message : Message) (body : Body) (p : Port) → AreSetAbove floor p.timers
    → AreSetAbove floor (with_response message body p).timers
response-above floor message (DelayResp receive requesting) p all = all
response-above floor message (Sync_body origin) p all = all
response-above floor message (DelayReq origin) p all = all
response-above floor message (FollowUp precise) p all = all
response-above floor message (Announce origin said) p all = all

-- a message that is no Announce
timing-above : (floor : ℕ) (message : Message) (seen : ℤ) (fate : Fate) (p : Port) → AreSetAbove floor p.timers
    → AreSetAbove floor (after_timing message seen fate p).timers
timing-above floor message seen Waiting p all = all
timing-above floor message seen Paired p all = all
timing-above floor message seen Matched p all = response-above floor message message.body p all
timing-above floor message seen _ p all = all

-- a kept Announce
kept-above : (floor m : ℕ) (message : Message) (body : Body) (h : HubPort) → IsPortAbove floor h
    → IsPortAbove floor (with_kept m message body h)
kept-above floor m message (Announce origin said) h all = all
kept-above floor m message _ h all = all

-- a message, by its fate
message-above : (floor : ℕ) (k : EventContext) (message : Message) (fate : Fate) (h : HubPort) → IsPortAbove floor h
    → IsPortAbove floor (with_message k message fate h)
message-above floor k message Kept h all = kept-above floor k.moment message message.body h all
message-above floor k message fate h all = timing-above floor message k.reading fate h.port all

-- a frame, read or not
frame-above : (floor : ℕ) (k : EventContext) (read : Result Message Reject) (h : HubPort) → IsPortAbove floor h
    → IsPortAbove floor (with_frame k read h)
frame-above floor k (Err reject) h all = all
frame-above floor k (Ok message) h all = message-above floor k message (frame_fate k (Ok message) h) h all

-- a report that counts
report-above : (floor : ℕ) (action : Action) (outcome : Outcome) (p : Port) → AreSetAbove floor p.timers
    → AreSetAbove floor (after_report action outcome p).timers
report-above floor (Jump step freq) (Changed number) p all = all
report-above floor action outcome p all = all

-- a timer that was set for its tick is above the floor, and fires; any other does nothing
timed-above : (floor tick : ℕ) (seen : ℤ) (timer : Timer) (p : Port) (b : Bool) → is_set_for timer tick p ≡ b → AreSetAbove floor p.timers
    → AreSetAbove floor (cond b (after_firing tick seen timer p) p).timers
timed-above floor tick seen timer p true set all = fired-above floor tick seen timer p (set-above floor timer tick p all set) all
timed-above floor tick seen timer p false set all = all

-- all that happens to a port
happening-above : (floor : ℕ) (o : Options) (k : EventContext) (tick : ℕ) (what : PortHappening) (h : HubPort) → IsPortAbove floor h
    → IsPortAbove floor (with_happening o k tick what h)
happening-above floor o k tick (Frame octets) h all = frame-above floor k (read_frame o octets) h all
happening-above floor o k tick (Timed timer) h all =
    timed-above floor tick k.reading timer h.port (is_set_for timer tick h.port) refl all
happening-above floor o k tick Down h all = all
happening-above floor o k tick Up h all = all
happening-above floor o k tick (Report gener action outcome) h all =
    either-above floor (is_report_counted k h gener) (after_report action outcome h.port) h.port
    (report-above floor action outcome h.port all) all

-- an event at a moment above the floor, if there is one
cause-above : (floor : ℕ) (k : EventContext) (event : Option PortEvent) (h : HubPort) → floor < k.moment → IsPortAbove floor h
    → IsPortAbove floor (after_cause k event h)
cause-above floor k None h above all = all
cause-above floor k (Some cause) h above all = event-above floor k.moment k.steps cause false h.port above all

-- an input then, with the port's event
input-above : (floor : ℕ) (o : Options) (k : EventContext) (p : PortInput) (h : HubPort) → floor < k.moment → IsPortAbove floor h
    → IsPortAbove floor (after_input o k p h)
input-above floor o k p h above all =
    cause-above floor k (happening_event k p.tick p.what h) (with_happening o k p.tick p.what h) above
    (happening-above floor o k p.tick p.what h all)

-- a renewal then
renewal-above : (floor m : ℕ) (h : HubPort) → floor < m → IsPortAbove floor h → IsPortAbove floor (with_renewal m h)
renewal-above floor m h above all = by (is_dependent h.port.state && is_sent_by (best_of m h) (newest_sender h.kept))
  where
    by : (b : Bool) → IsPortAbove floor (cond b (record h { port = with_receipt_renewed m h.port }) h)
    by true = renewed-above floor m h.port above all
    by false = all

-- ---- all ports

-- the moment is above a floor, and so are all timers of all ports
abbrev AreAllAbove : ℕ → Core → Type 0
AreAllAbove floor c = (floor < c.moment) × Each (λ (p : ℕ) (h : HubPort). IsPortAbove floor h) c.ports

-- an input of a port
port-above : (floor : ℕ) (o : Options) (e : PortEntry) (c : Core) → AreAllAbove floor c → AreAllAbove floor (after_port o e c)
unfolding after_port
port-above floor o e c (above, each) = (
  above,
  Each-after_port o (λ p h. IsPortAbove floor h) (λ p h. IsPortAbove floor h) e c
      (λ h all. input-above floor o (context_of e c) e.input h above all) (λ p h other all. all) each,
)

-- the codes of all ports
codes-above : (floor : ℕ) (o : Options) (c : Core) → AreAllAbove floor c
    → AreAllAbove floor (with_codes (local_announcement o) (best_among c.moment c.ports) c)
unfolding with_codes
codes-above floor o c (above, each) =
    let own = local_announcement o in
    let best = best_among c.moment c.ports in
    let steps = (master_among own c.moment best c.master c.ports).steps in (
      above,
      Each-map (λ (p : ℕ) (h : HubPort). IsPortAbove floor h) (λ (p : ℕ) (h : HubPort). IsPortAbove floor h)
          (with_code own c.moment best c.master.parent steps) c.ports
          (λ p h all. event-above floor c.moment steps (Decided (code_with own c.moment best h)) (is_new_parent best c.master.parent) h.port above all)
          each,
    )

-- the hearing of a kept Announce
hearing-above : (floor number : ℕ) (c : Core) → AreAllAbove floor c → AreAllAbove floor (after_hearing number c)
unfolding after_hearing
hearing-above floor number c (above, each) = (
  above,
  Each-at_port (λ p h. IsPortAbove floor h) (λ p h. IsPortAbove floor h) (with_renewal c.moment) number c.ports
      (λ h all. renewal-above floor c.moment h above all) (λ p h other all. all) each,
)

-- after an entry whose tick is above the floor all timers are, where they were before it
pub ports-above : (s : Scenario) (floor : ℕ) (e : Entry) (before : List Entry) → floor < tick_of e.input
    → Each (λ (p : ℕ) (h : HubPort). IsPortAbove floor h) (state_of s before).core.ports
    → Each (λ (p : ℕ) (h : HubPort). IsPortAbove floor h) (state_of s (e ∷ before)).core.ports
unfolding state_of step
ports-above s floor e before above each =
    let h = state_of s before in
    let now : floor < max h.core.moment (tick_of e.input) = omega (arith, above) in
    (kept-phases s.options (AreAllAbove floor) (record {
      port = λ x c all. port-above floor s.options x c all;
      decisions = record {
        codes = λ c all. codes-above floor s.options c all;
        hearing = λ number c all. hearing-above floor number c all;
      };
    }) h (event_of e) (now, each)).1.1
