-- The stamp of a measure is that of its port's clock, with the port as its controller, as an order gave it.
use Rattle.std.proofs.Common.{◌≡◌, ◌≢◌, ◌<◌, ◌+◌, ℕ, zero, suc, ℤ, Bool, true, false, cond, eqb, refl, sym, ap, ◌∙◌, subst, arith, List, [], ◌∷◌, ◌++◌, length, reverse, Option, Some, None, Result, Ok, Err}
use Rattle.std.specs.Prelude.{All, Contains, option_map, slice_get, slice_index}
use Rattle.std.proofs.lemmas.Bool.{and_parts, eqb-true}
use Rattle.std.proofs.Math.ListN.{get_or-map}
use Rattle.std.proofs.lemmas.List.Elements.{All-head, All-tail, Contains-append_right}
use Rattle.std.proofs.lemmas.Option.{same_Some, slice_get-map}
use Rattle.ptp_base.specs.declared.identity.PortId.{PortId}
use Rattle.ptp_base.specs.declared.port_conf.PortConf.{PortConf}
use Rattle.ptp_profile.specs.declared.message.Body.{Body}
use Rattle.ptp_profile.specs.declared.message.Body.TheVariants.{Sync as Sync_body, DelayReq, FollowUp, DelayResp, Announce}
use Rattle.ptp_profile.specs.declared.message.Message.{Message}
use Rattle.ptp_profile.specs.declared.message.Reject.{Reject}
use Rattle.ptp_profile.specs.declared.foreign_master.Heard.{Heard}
use Rattle.ptp_profile.specs.declared.foreign_master.Heard.TheVariants.{Kept as Heard_kept, Own as Heard_own, Far as Heard_far, Alternate as Heard_alternate, Crowded as Heard_crowded}
use Rattle.ptp_profile.specs.declared.port_event.Fate.{Fate}
use Rattle.ptp_profile.specs.declared.port_event.Fate.TheVariants.{Asleep, Answered, Ignored, Own, Paired}
use Rattle.ptp_profile.specs.declared.roles.Edge.{Edge}
use Rattle.ptp_profile.specs.declared.roles.RoleOrder.{RoleOrder}
use Rattle.ptp_profile.specs.declared.seats.Held.{Held}
use Rattle.ptp_profile.specs.declared.timing.Measure.{Measure}
use Rattle.ptp_profile.specs.Best.ForeignMasters.{fate_of_hearing, hearing_of}
use Rattle.ptp_profile.specs.Best.PortIdentity.{is_same_port}
use Rattle.ptp_profile.specs.Port.Port.{Port, paired_fate, request_answered_by, response_fate, takes_from, timing_fate, timing_measure, triple_of}
use Rattle.ptp_profile.specs.Port.PortStates.{is_faulty, is_following, is_master}
use Rattle.ptp_profile.specs.Port.PortTimers.{window_of}
use Rattle.ptp_profile.specs.Roles.Edges.{ctrl_by, edge_at, stamp_of}
use Rattle.ptp_profile.proofs.lemmas.PortLemmas.{edge_at-port}
use Rattle.ptp_profile.proofs.lemmas.SeatLogLemmas.{stamp_of-ctrl}
use Rattle.bc_history.specs.declared.entry.Entry.{Entry}
use Rattle.bc_history.specs.declared.entry.Who.TheVariants.{Port as Port_actor}
use Rattle.bc_history.specs.declared.port_input.EventContext.{EventContext}
use Rattle.bc_history.specs.declared.port_input.PortHappening.{PortHappening}
use Rattle.bc_history.specs.declared.port_input.PortHappening.TheVariants.{Frame, Timed, Down, Up, Report}
use Rattle.bc_history.specs.declared.scenario.Options.{Options}
use Rattle.bc_history.specs.declared.scenario.Scenario.{Scenario}
use Rattle.bc_history.specs.Phases.HubPort.{HubPort, TickMeasure}
use Rattle.bc_history.specs.Phases.Inputs.{event_of, port_at, port_of}
use Rattle.bc_history.specs.Phases.PortPhase.{announcement_of, context_of, frame_fate, frame_measure, happening_measure, message_fate, measured_at, read_fate, read_frame}
use Rattle.bc_history.specs.Phases.RolePhase.{after_roles, begins_generation, clocks_of, edges_now, orders_now, states_of}
use Rattle.bc_history.specs.Phases.State.{Core, Roles, State}
use Rattle.bc_history.specs.Phases.Step.{core_after, core_before, held_of, port_held, state_of, step}
use Rattle.bc_history.specs.Run.Actors.{is_by}
use Rattle.bc_history.specs.Run.History.{Continues, Follows}
use Rattle.bc_history.specs.Run.PortEntries.{IsHeldByPort, measured_by, measured_with}
use Rattle.bc_history.specs.Scenario.ScenarioRules.{IsScenario}
use Rattle.bc_history.proofs.lemmas.CoreInvariantLemmas.{Each, option_map-some}
use Rattle.bc_history.proofs.lemmas.EffectKindLemmas.{with_renewal-measured}
use Rattle.bc_history.proofs.lemmas.EntryPhaseLemmas.{Each-after_entry, measure_at-some, port_entry-parts}
use Rattle.bc_history.proofs.lemmas.MeasureLemmas.{told-measure}
use Rattle.bc_history.proofs.lemmas.OneFollowsLemmas.{one_follows}
use Rattle.bc_history.proofs.lemmas.PortEntriesLemmas.{port_of-by}
use Rattle.bc_history.proofs.lemmas.PortIdentityLemmas.{port-state_of}
use Rattle.bc_history.proofs.lemmas.RolePhaseLemmas.{ctrls-state_of, edges-state_of}

-- ---- only a port that follows measures

-- a fate by a test, of which the failing one is not Paired
paired-if : (b : Bool) (fate other : Fate) → other ≢ Paired → cond b fate other ≡ Paired → (b ≡ true) × (fate ≡ Paired)
paired-if true fate other differs is = (refl, is)
paired-if false fate other differs is = absurd (differs is)

-- the same where the fate of the passing test is not Paired
paired-unless : (b : Bool) (other fate : Fate) → other ≢ Paired → cond b other fate ≡ Paired → fate ≡ Paired
paired-unless true other fate differs is = absurd (differs is)
paired-unless false other fate differs is = is

-- an Announce is never Paired
unpaired-heard : (heard : Heard) → fate_of_hearing heard ≢ Paired
unpaired-heard Heard_kept = λ is. cc
unpaired-heard Heard_own = λ is. cc
unpaired-heard Heard_far = λ is. cc
unpaired-heard Heard_alternate = λ is. cc
unpaired-heard Heard_crowded = λ is. cc

-- a port takes times of its parent where it follows
following-takes : (parent sender : PortId) (p : Port) → takes_from parent sender p ≡ true → is_following p.state ≡ true
following-takes parent sender p takes = (and_parts (is_following p.state) (is_same_port sender parent) takes).0

-- a port that pairs a message follows
following-timing : (parent : PortId) (message : Message) (seen : ℤ) (p : Port) (body : Body)
    → timing_fate parent message seen p body ≡ Paired → is_following p.state ≡ true
following-timing parent message seen p (DelayReq origin) is =
    let ignored : Ignored ≡ Paired = paired-unless (is_master p.state) Answered Ignored (λ same. cc) is in absurd (cc)
following-timing parent message seen p (Sync_body origin) is =
    following-takes parent message.sender p
    (paired-if (takes_from parent message.sender p) (paired_fate (triple_of message seen p)) Ignored (λ same. cc) is).0
following-timing parent message seen p (FollowUp precise) is =
    following-takes parent message.sender p
    (paired-if (takes_from parent message.sender p) (paired_fate (triple_of message seen p)) Ignored (λ same. cc) is).0
following-timing parent message seen p (DelayResp receive requesting) is =
    following-takes parent message.sender p
    (paired-if (takes_from parent message.sender p) (response_fate (request_answered_by message message.body p)) Ignored (λ same. cc) is).0
following-timing parent message seen p (Announce origin said) is = absurd (cc)

-- so does one that pairs a message of another clock
following-message : (k : EventContext) (message : Message) (h : HubPort) (body : Body) → message_fate k message h body ≡ Paired
    → is_following h.port.state ≡ true
following-message k message h (Announce origin said) is =
    absurd (unpaired-heard (hearing_of (window_of h.port.conf) k.moment h.kept (announcement_of h.port.id message said)) is)
following-message k message h (Sync_body origin) is = following-timing k.parent message k.reading h.port (Sync_body origin) is
following-message k message h (DelayReq origin) is = following-timing k.parent message k.reading h.port (DelayReq origin) is
following-message k message h (FollowUp precise) is = following-timing k.parent message k.reading h.port (FollowUp precise) is
following-message k message h (DelayResp receive requesting) is =
    following-timing k.parent message k.reading h.port (DelayResp receive requesting) is

-- and one that pairs a frame
following-frame : (k : EventContext) (message : Message) (h : HubPort) → frame_fate k (Ok message) h ≡ Paired
    → is_following h.port.state ≡ true
following-frame k message h is =
    let awake = paired-unless (is_faulty h.port.state) Asleep (read_fate k (Ok message) h) (λ same. cc) is in
    following-message k message h message.body
    (paired-unless (eqb message.sender.clock.id h.port.id.clock.id) Own (message_fate k message h message.body) (λ same. cc) awake)

-- a measure comes with the fate Paired alone
paired-measure : (length : ℕ) (message : Message) (seen : ℤ) (fate : Fate) (p : Port) (m : Measure)
    → timing_measure length message seen fate p ≡ Some m → fate ≡ Paired
paired-measure length message seen Paired p m is = refl
paired-measure length message seen _ p m is = absurd (cc)

-- a port that measures follows
following-measure : (o : Options) (k : EventContext) (what : PortHappening) (h : HubPort) (m : Measure)
    → happening_measure o k what h ≡ Some m → is_following h.port.state ≡ true
following-measure o k (Frame octets) h m is = by (read_frame o octets) is
  where
    by : (read : Result Message Reject) → frame_measure o.delay_filter_length k read h ≡ Some m → is_following h.port.state ≡ true
    by (Err reject) given = absurd (cc)
    by (Ok message) given =
        following-frame k message h (paired-measure o.delay_filter_length message k.reading (frame_fate k (Ok message) h) h.port m given)
following-measure o k (Timed timer) h m is = absurd (cc)
following-measure o k Down h m is = absurd (cc)
following-measure o k Up h m is = absurd (cc)
following-measure o k (Report gener action outcome) h m is = absurd (cc)

-- ---- the stamp of a measure

-- a port that measured followed before the entry, and holds the stamp of its clock then
record HeldBefore (h : State) (p : ℕ) (held : Held) : Type 0 where
  port : HubPort
  there : port_at h.core.ports p ≡ Some port
  follows : is_following port.port.state ≡ true
  is : held ≡ held_of port.port.conf.clock h.roles.orders

-- the entry's port measured so, if it measured
abbrev MeasuredHeld : State → Entry → ℕ → HubPort → Type 0
MeasuredHeld h e p g = port_of e.input ≡ Some p → (m : TickMeasure) → g.measured ≡ Some m → HeldBefore h p m.held

-- so did the port of every entry
Each-measured_held : (o : Options) (h : State) (e : Entry) → Each (MeasuredHeld h e) (core_after o h (event_of e)).ports
Each-measured_held o h e =
    Each-after_entry o h (event_of e) (λ p g. port_at h.core.ports p ≡ Some g) (MeasuredHeld h e) (record {
      own = λ x g is there one m has.
          let k = context_of x (core_before h (event_of e)) in
          let made = option_map-some (measured_at k x.input.tick) (happening_measure o k x.input.what g) m has in
          record {
            port = g;
            there = there;
            follows = following-measure o k x.input.what g made.0 made.1;
            is = ap (λ (y : TickMeasure). y.held) (sym made.2)
                ∙ ((port_entry-parts h (event_of e) x is).1 ∙ ap (port_held h.roles.orders) there);
          };
      elsewhere = λ p g other there one. absurd (other one);
    }) (record {
      code = λ m best parent steps p g held. held;
      renewal = λ m p g held one x has. held one x (sym (with_renewal-measured m g) ∙ has);
    }) (λ p g there. there)

-- ---- the stamp of a clock whose port follows

-- a stamp that somebody holds is that of an order
pub stamp_of-ordered : (clock : ℕ) (orders : List RoleOrder) → (stamp_of clock orders).ctrl ≢ 0
    → Contains orders (record { clock = clock; gener = (stamp_of clock orders).gener; ctrl = (stamp_of clock orders).ctrl })
stamp_of-ordered clock [] some = absurd (some refl)
stamp_of-ordered clock (order ∷ orders) some = by (eqb order.clock clock) refl some (stamp_of-ordered clock orders)
  where
    by : (b : Bool) → eqb order.clock clock ≡ b
        → (cond b (record { gener = order.gener; ctrl = order.ctrl }) (stamp_of clock orders)).ctrl ≢ 0
        → ((stamp_of clock orders).ctrl ≢ 0
        → Contains orders (record { clock = clock; gener = (stamp_of clock orders).gener; ctrl = (stamp_of clock orders).ctrl }))
        → Contains (order ∷ orders) (record {
          clock = clock;
          gener = (cond b (record { gener = order.gener; ctrl = order.ctrl }) (stamp_of clock orders)).gener;
          ctrl = (cond b (record { gener = order.gener; ctrl = order.ctrl }) (stamp_of clock orders)).ctrl;
        })
    by true is held rest =
        subst (λ (c : ℕ). Contains (order ∷ orders) (record { clock = c; gener = order.gener; ctrl = order.ctrl }))
        (eqb-true order.clock clock is) (0, omega arith, refl)
    by false is held rest = Contains-append_right (order ∷ []) orders _ (rest held)

-- the controller of a clock is that of its edge
pub ctrl-edge : (s : Scenario) → IsScenario s → (entries : List Entry) (clock : ℕ) → clock < length s.clocks
    → (stamp_of clock (state_of s entries).roles.orders).ctrl ≡ ctrl_by (edge_at (state_of s entries).roles.edges clock)
ctrl-edge s is entries clock within =
    let r = (state_of s entries).roles in
    stamp_of-ctrl (length s.clocks) clock r.orders within
    ∙ (ap (λ (ctrls : List ℕ). slice_index ctrls clock) (ctrls-state_of s is entries) ∙ get_or-map ctrl_by r.edges clock None)

-- a fact of all elements is one of each
pub All-at : {X : Type 0} (P : X → Type 0) (xs : List X) (i : ℕ) (x : X) → All P xs → slice_get xs i ≡ Some x → P x
All-at P [] i x all is = absurd (cc)
All-at P (y ∷ ys) zero x all is = subst P (same_Some y x is) (All-head P y ys all)
All-at P (y ∷ ys) (suc i) x all is = All-at P ys i x (All-tail P y ys all) is

-- the controller of the clock of a port that follows is the port
ctrl-following : (s : Scenario) → IsScenario s → (entries : List Entry) (i : ℕ) (g : HubPort)
    → slice_get (state_of s entries).core.ports i ≡ Some g → is_following g.port.state ≡ true
    → (stamp_of g.port.conf.clock (state_of s entries).roles.orders).ctrl ≡ suc i
ctrl-following s is entries i g there follows =
    let c = (state_of s entries).core in
    let clocks = length s.clocks in
    let clock = g.port.conf.clock in
    let within : clock < clocks =
    All-at (λ (p : PortConf). p.clock < clocks) s.ports i g.port.conf is.placed (port-state_of s entries i g there).conf in
    let state = slice_get-map (λ (h : HubPort). h.port.state) c.ports i ∙ ap (option_map (λ (h : HubPort). h.port.state)) there in
    let on = slice_get-map (λ (h : HubPort). h.port.conf.clock) c.ports i ∙ ap (option_map (λ (h : HubPort). h.port.conf.clock)) there in
    let edge = edge_at-port clocks clock i c.master.parent (states_of c.ports) (clocks_of c.ports) g.port.state (one_follows s entries)
    state follows on within in
    ctrl-edge s is entries clock within
    ∙ (ap (λ (edges : List (Option Edge)). ctrl_by (edge_at edges clock)) (edges-state_of s entries) ∙ ap ctrl_by edge)

-- the stamp of the clock of a port that follows is held by the port
IsHeldByPort-following : (s : Scenario) → IsScenario s → (entries : List Entry) (p : ℕ) (held : Held) → HeldBefore (state_of s entries) p held
    → IsHeldByPort s (state_of s entries).roles.orders p held
IsHeldByPort-following s is entries zero held before = let nobody = before.there in absurd (cc)
IsHeldByPort-following s is entries (suc i) held before =
    let orders = (state_of s entries).roles.orders in
    let g = before.port in
    let clock = g.port.conf.clock in
    let ctrl : (stamp_of clock orders).ctrl ≡ suc i = ctrl-following s is entries i g before.there before.follows in
    subst (IsHeldByPort s orders (suc i)) (sym before.is) (record {
      conf = g.port.conf;
      there = (port-state_of s entries i g before.there).conf;
      clock = refl;
      ctrl = ctrl;
      ordered = stamp_of-ordered clock orders (λ none. absurd (omega (arith, none, ctrl)));
    })

-- a stamp that a port holds names somebody
pub IsHeldByPort-somebody : (s : Scenario) (orders : List RoleOrder) (p : ℕ) (held : Held) → IsHeldByPort s orders p held
    → held.ctrl ≢ 0
IsHeldByPort-somebody s orders zero held h = let nobody = h.there in absurd (cc)
IsHeldByPort-somebody s orders (suc i) held h = λ none. omega (arith, none, h.ctrl)

-- ---- along a history

-- the measure of an entry bears the stamp that its port holds
pub made-stamp : (s : Scenario) → IsScenario s → (before : List Entry) (e : Entry) (p : ℕ) (m : Measure × Held) → Follows s before e
    → port_of e.input ≡ Some p → e.effects.measure ≡ Some m → IsHeldByPort s (state_of s before).roles.orders p m.1
made-stamp s is before e p m f of told =
    let h = state_of s before in
    let given = measure_at-some (event_of e) (core_after s.options h (event_of e)).ports m (sym (told-measure s before e f) ∙ told) in
    let number : given.number ≡ p = same_Some given.number p (sym given.of ∙ of) in
    let held = Each-measured_held s.options h e given.number given.port given.there given.of given.measured given.has in
    let own = IsHeldByPort-following s is before given.number given.measured.held held in
    subst (λ (q : ℕ). IsHeldByPort s h.roles.orders q m.1) number
    (subst (λ (x : Measure × Held). IsHeldByPort s h.roles.orders given.number x.1) given.is own)

-- more orders leave what a port holds
IsHeldByPort-more : (s : Scenario) (later orders : List RoleOrder) (p : ℕ) (held : Held) → IsHeldByPort s orders p held
    → IsHeldByPort s (later ++ orders) p held
IsHeldByPort-more s later orders p held h = record {
  conf = h.conf;
  there = h.there;
  clock = h.clock;
  ctrl = h.ctrl;
  ordered = Contains-append_right later orders _ h.ordered;
}

-- so does a generation that begins, or that doesn't
IsHeldByPort-after_roles : (s : Scenario) (c : Core) (r : Roles) (p : ℕ) (held : Held) → IsHeldByPort s r.orders p held
    → IsHeldByPort s (after_roles c r).orders p held
unfolding after_roles
IsHeldByPort-after_roles s c r p held h = by (begins_generation c r)
  where
    by : (b : Bool) → IsHeldByPort s (cond b (record {
      gener = r.gener + 1;
      edges = edges_now c r;
      orders = reverse (orders_now c r) ++ r.orders;
    }) r).orders p held
    by true = IsHeldByPort-more s (reverse (orders_now c r)) r.orders p held h
    by false = h

-- and so does an entry
IsHeldByPort-later : (s : Scenario) (before : List Entry) (e : Entry) (p : ℕ) (held : Held)
    → IsHeldByPort s (state_of s before).roles.orders p held → IsHeldByPort s (state_of s (e ∷ before)).roles.orders p held
unfolding state_of step
IsHeldByPort-later s before e p held h =
    let state = state_of s before in
    IsHeldByPort-after_roles s (core_after s.options state (event_of e)) state.roles p held h

-- the last measure of a port bears the stamp that the port holds
pub kept-stamp : (s : Scenario) → IsScenario s → (entries : List Entry) (p : ℕ) (m : TickMeasure) → Continues s entries
    → measured_by p entries ≡ Some m → IsHeldByPort s (state_of s entries).roles.orders p m.held
kept-stamp s is [] p m continues last = absurd (cc)
kept-stamp s is (e ∷ before) p m (f, continues) last =
    IsHeldByPort-later s before e p m.held (by (is_by (Port_actor p) e) refl (kept-stamp s is before p m continues) last)
  where
    by : (b : Bool) → is_by (Port_actor p) e ≡ b
        → (measured_by p before ≡ Some m → IsHeldByPort s (state_of s before).roles.orders p m.held)
        → cond b (measured_with e) (measured_by p before) ≡ Some m → IsHeldByPort s (state_of s before).roles.orders p m.held
    by true own rest given =
        let made = option_map-some _ e.effects.measure m given in
        subst (λ (x : TickMeasure). IsHeldByPort s (state_of s before).roles.orders p x.held) made.2
        (made-stamp s is before e p made.0 f (port_of-by p e own) made.1)
    by false own rest given = rest given
