-- The entry of a follower or of a query: ports, data sets and roles stay, but for the moment.
use Rattle.std.proofs.Common.{◌≡◌, ℕ, ◌+◌, ◌<◌, ◌≤◌, Bool, true, false, cond, max, List, [], ◌∷◌, ◌++◌, length, reverse, refl, sym, ap, subst, ◌∙◌, arith, eq-eqb, Option, Some, None}
use Rattle.std.specs.Prelude.{not, slice_get, IsSomeAnd}
use Rattle.std.proofs.lemmas.List.FromFn.{length-map-range_with_len}
use Rattle.std.proofs.lemmas.Option.{slice_get_within}
use Rattle.ptp_base.specs.declared.identity.PortId.{PortId}
use Rattle.ptp_base.specs.declared.limits.TheConstants.{ENTRIES_MAX}
use Rattle.ptp_base.specs.declared.port_state.PortState.{PortState}
use Rattle.ptp_profile.specs.declared.port_event.Fate.{Fate}
use Rattle.ptp_profile.specs.declared.roles.Edge.{Edge}
use Rattle.ptp_profile.specs.declared.roles.RoleOrder.{RoleOrder}
use Rattle.ptp_profile.specs.declared.seats.Held.{Held}
use Rattle.ptp_profile.specs.declared.seats.LogEntry.{LogEntry}
use Rattle.ptp_profile.specs.declared.timing.Measure.{Measure}
use Rattle.ptp_profile.specs.Roles.Edges.{are_same_edges, edge_by, edges_of, orders_of, port_on, slave_clock}
use Rattle.ptp_profile.proofs.lemmas.EdgeLemmas.{are_same_edges-iff}
use Rattle.ptp_management.specs.declared.query.AskError.{AskError}
use Rattle.notify.specs.declared.ring.TheConstants.{PUT_MAX}
use Rattle.bc_history.specs.declared.entry.Entry.{Entry}
use Rattle.bc_history.specs.declared.entry.Input.{Input}
use Rattle.bc_history.specs.declared.entry.Input.TheVariants.{Frame, Timed, Down, Up, Report, Turn, Sampled, Query}
use Rattle.bc_history.specs.declared.entry.Moved.{Moved}
use Rattle.bc_history.specs.declared.entry.Seen.{Seen}
use Rattle.bc_history.specs.declared.entry.Sent.{Sent}
use Rattle.bc_history.specs.declared.entry.Told.{Told}
use Rattle.bc_history.specs.declared.port_input.PortEntry.{PortEntry}
use Rattle.bc_history.specs.declared.scenario.Options.{Options}
use Rattle.bc_history.specs.declared.scenario.Scenario.{Scenario}
use Rattle.bc_history.specs.Phases.EntryEffects.{changed_parent, effects_of, entry_after, entry_fate, entry_frames, event, moves_from, moves_of_port, told_by}
use Rattle.bc_history.specs.Phases.HubPort.{HubPort}
use Rattle.bc_history.specs.Phases.Inputs.{is_read, port_of, tick_of}
use Rattle.bc_history.specs.Phases.NoticePhase.{after_notices, after_posting_from, after_turn}
use Rattle.bc_history.specs.Phases.QueryAnswers.{answers_at, asked_at}
use Rattle.bc_history.specs.Phases.RolePhase.{after_roles, clocks_of, edges_now, orders_now, states_of}
use Rattle.bc_history.specs.Phases.State.{Core, Event, Follower, Roles, State}
use Rattle.bc_history.specs.Phases.Step.{at_moment, core_after, core_before, core_between, decision_phase, followers_between, last_measure, measure_at, port_entry, port_phase, roles_after, state_of, step}
use Rattle.bc_history.specs.Run.NextInputs.{IsNext}
use Rattle.bc_history.proofs.lemmas.FollowerLemmas.{few-wait, followers-few, followers-length}
use Rattle.bc_history.proofs.lemmas.RolePhaseLemmas.{edges-state_of}
use Rattle.bc_notices.specs.NoticesView.{FollowersRepresent, NoticesRepresent, NoticesView, most_put}
use Rattle.bc_notices.proofs.lemmas.FollowersLemmas.{FollowersRepresent-length, most-few}
use Rattle.bc_ports.specs.declared.boundary_clock.BoundaryClock.{BoundaryClock}
use Rattle.bc_ports.specs.Representation.{ClockRepresents, IsSound}
use Rattle.bc_roles.specs.RolesView.{RolesRepresent}
use Rattle.hub_core.specs.EffectParts.{follower_entry, portless_entry}
use Rattle.hub_core.specs.FollowerInputs.{IsTurnerThere, is_of_follower}
use Rattle.hub_core.specs.HubParts.{PartsRepresent}
use Rattle.hub_core.specs.PortReading.{input_seen}
use Rattle.hub_core.specs.declared.hub_parts.HubParts.{HubParts}

-- ---- what is not of a port

-- an input that is no port's comes with no reading, and measures nothing
record IsUnported (h : State) (seen : Option Seen) (input : Input) (ports : List HubPort) : Type 0 where
  entry : port_entry h (event input seen) ≡ None
  read : is_read input ≡ false
  measure : measure_at (event input seen) ports ≡ None

unported : (h : State) (seen : Option Seen) (input : Input) (ports : List HubPort) → port_of input ≡ None → IsUnported h seen input ports
unported h seen (Frame port tick octets) ports own = absurd (cc)
unported h seen (Timed port tick timer) ports own = absurd (cc)
unported h seen (Down port tick) ports own = absurd (cc)
unported h seen (Up port tick) ports own = absurd (cc)
unported h seen (Report port tick gener action outcome) ports own = absurd (cc)
unported h seen (Turn clock tick) ports own = record { entry = refl; read = refl; measure = refl }
unported h seen (Sampled clock tick lead theirs ours action outcome) ports own = record { entry = refl; read = refl; measure = refl }
unported h seen (Query tick text) ports own = record { entry = refl; read = refl; measure = refl }

pub unread : (s : Scenario) (logs : List (List LogEntry)) (input : Input) → port_of input ≡ None → input_seen s logs input ≡ None
unread s logs (Frame port tick octets) own = absurd (cc)
unread s logs (Timed port tick timer) own = absurd (cc)
unread s logs (Down port tick) own = absurd (cc)
unread s logs (Up port tick) own = absurd (cc)
unread s logs (Report port tick gener action outcome) own = absurd (cc)
unread s logs (Turn clock tick) own = refl
unread s logs (Sampled clock tick lead theirs ours action outcome) own = refl
unread s logs (Query tick text) own = refl

-- a follower asks nothing and is answered nothing
record IsUnasked (o : Options) (h : State) (input : Input) : Type 0 where
  asked : asked_at input ≡ None
  answers : answers_at o h input ≡ []

unasked : (o : Options) (h : State) (input : Input) → is_of_follower input ≡ true → IsUnasked o h input
unasked o h (Frame port tick octets) own = absurd (cc)
unasked o h (Timed port tick timer) own = absurd (cc)
unasked o h (Down port tick) own = absurd (cc)
unasked o h (Up port tick) own = absurd (cc)
unasked o h (Report port tick gener action outcome) own = absurd (cc)
unasked o h (Turn clock tick) own = record { asked = refl; answers = refl }
unasked o h (Sampled clock tick lead theirs ours action outcome) own = record { asked = refl; answers = refl }
unasked o h (Query tick text) own = absurd (cc)

-- the input of a follower is no port's
pub portless : (input : Input) → is_of_follower input ≡ true → port_of input ≡ None
portless (Frame port tick octets) own = absurd (cc)
portless (Timed port tick timer) own = absurd (cc)
portless (Down port tick) own = absurd (cc)
portless (Up port tick) own = absurd (cc)
portless (Report port tick gener action outcome) own = absurd (cc)
portless (Turn clock tick) own = refl
portless (Sampled clock tick lead theirs ours action outcome) own = refl
portless (Query tick text) own = absurd (cc)

-- ---- the phases

core-stays : (o : Options) (h : State) (e : Event) → port_entry h e ≡ None → core_between o h e ≡ at_moment (tick_of e.input) h.core
core-stays o h e none = ap (λ (x : Option PortEntry). port_phase o x (core_before h e)) none

core-goes : (o : Options) (h : State) (e : Event) → port_entry h e ≡ None → core_after o h e ≡ at_moment (tick_of e.input) h.core
core-goes o h e none =
    ap (λ (x : Option PortEntry). decision_phase o x (core_before h e) (core_between o h e)) none ∙ core-stays o h e none

-- the edges are still those of the ports
same-edges : (s : Scenario) (entries : List Entry) (tick : ℕ)
    → are_same_edges (state_of s entries).roles.edges (edges_now (at_moment tick (state_of s entries).core) (state_of s entries).roles) ≡ true
same-edges s entries tick =
    let h = state_of s entries in
    let c = h.core in
    let states = states_of c.ports in
    let port_clocks = clocks_of c.ports in
    let edge : ℕ → Option Edge = λ clock. edge_by c.master.parent (port_on clock states port_clocks) (slave_clock states port_clocks) in
    let are = edges-state_of s entries in
    let many : length h.roles.edges ≡ length s.clocks = ap (λ (es : List (Option Edge)). length es) are ∙ length-map-range_with_len edge 0 (length s.clocks) in
    let now : h.roles.edges ≡ edges_of (length h.roles.edges) c.master.parent states port_clocks =
    are ∙ ap (λ (n : ℕ). edges_of n c.master.parent states port_clocks) (sym many) in
    (are_same_edges-iff h.roles.edges (edges_of (length h.roles.edges) c.master.parent states port_clocks)).1 now

roles-stay : (c : Core) (r : Roles) → are_same_edges r.edges (edges_now c r) ≡ true → after_roles c r ≡ r
unfolding after_roles
roles-stay c r same =
    let with : Bool → Roles = λ b. cond (not b) (record {
      gener = r.gener + 1;
      edges = edges_now c r;
      orders = reverse (cond (not b) (orders_of (r.gener + 1) r.edges (edges_now c r)) []) ++ r.orders;
    }) r in
    ap with same

no-orders : (c : Core) (r : Roles) → are_same_edges r.edges (edges_now c r) ≡ true → orders_now c r ≡ []
no-orders c r same = ap (λ (b : Bool). cond (not b) (orders_of (r.gener + 1) r.edges (edges_now c r)) []) same

no-notices : (o : Options) (c : Core) (r : Roles) (fs : List Follower) → after_notices o c r r fs ≡ fs
no-notices o c r fs = ap (λ (b : Bool). cond b fs (after_posting_from o c r 0 fs)) (eq-eqb r.gener r.gener refl)

no-move : (p : ℕ) (state : PortState) → moves_of_port p state state ≡ []
no-move p state = ap (λ (b : Bool). let m : Moved = record { port = p; old = state; new = state } in cond b [] (m ∷ [])) (eq-eqb _ _ refl)

no-moves : (p : ℕ) (states : List PortState) → moves_from p states states states ≡ []
no-moves p [] = refl
no-moves p (state ∷ states) = rw (no-move p state, no-moves (p + 1) states) refl

same-parent : (p : PortId) → changed_parent p p ≡ None
same-parent p = rw (eq-eqb p.clock.id p.clock.id refl, eq-eqb p.port p.port refl) refl

-- what an entry that is no port's leaves of the history's state
pub record IsFollowed (o : Options) (h new : State) (input : Input) : Type 0 where
  pub core : new.core ≡ at_moment (tick_of input) h.core
  pub roles : new.roles ≡ h.roles
  pub measured : new.measured ≡ h.measured
  pub followers : new.followers ≡ after_turn o (at_moment (tick_of input) h.core) h.roles input h.followers

-- the roles after it, and the followers before its own part
roles-after : (s : Scenario) (entries : List Entry) (input : Input) → port_entry (state_of s entries) (event input None) ≡ None
    → roles_after s.options (state_of s entries) (event input None) ≡ (state_of s entries).roles
roles-after s entries input none =
    let h = state_of s entries in
    ap (λ (c : Core). after_roles c h.roles) (core-goes s.options h (event input None) none)
    ∙ roles-stay (at_moment (tick_of input) h.core) h.roles (same-edges s entries (tick_of input))

followers-same : (s : Scenario) (entries : List Entry) (input : Input) → port_entry (state_of s entries) (event input None) ≡ None
    → followers_between s.options (state_of s entries) (event input None) ≡ (state_of s entries).followers
followers-same s entries input none =
    let h = state_of s entries in
    let c = core_after s.options h (event input None) in
    ap (λ (r : Roles). after_notices s.options c h.roles r h.followers) (roles-after s entries input none) ∙ no-notices s.options c h.roles h.followers

pub followed : (s : Scenario) (entries : List Entry) (input : Input) → port_of input ≡ None
    → IsFollowed s.options (state_of s entries) (step s.options (state_of s entries) (event input None)) input
unfolding step
followed s entries input own =
    let o = s.options in
    let h = state_of s entries in
    let ev : Event = event input None in
    let is = unported h None input (core_after o h ev).ports own in
    let roles = roles-after s entries input is.entry in
    let between = followers-same s entries input is.entry in
    record {
      core = core-goes o h ev is.entry;
      roles = roles;
      measured = ap (λ (m : Option (Measure × Held)). last_measure m h.measured) is.measure;
      followers =
          ap (λ (c : Core). after_turn o c (roles_after o h ev) input (followers_between o h ev)) (core-goes o h ev is.entry)
          ∙ ap (λ (r : Roles). after_turn o (at_moment (tick_of input) h.core) r input (followers_between o h ev)) roles
          ∙ ap (λ (fs : List Follower). after_turn o (at_moment (tick_of input) h.core) h.roles input fs) between;
    }

-- ---- the entry

same-entry : (input : Input) (moment moment' : ℕ) (fate fate' : Option Fate) (states states' : List Moved) (parent parent' : Option PortId) (orders orders' : List RoleOrder)
    (measure measure' : Option (Measure × Held)) (frames frames' : List Sent) (told told' : Option Told) (asked asked' : Option AskError) (answers answers' : List (List ℕ))
    → moment ≡ moment' → fate ≡ fate' → states ≡ states' → parent ≡ parent' → orders ≡ orders' → measure ≡ measure' → frames ≡ frames' → told ≡ told' → asked ≡ asked' → answers ≡ answers'
    → (let a : Entry = record { input = input; moment = moment; seen = None; effects = record { fate = fate; states = states; parent = parent; orders = orders; measure = measure; frames = frames; told = told; asked = asked; answers = answers } } in a)
    ≡ (let b : Entry = record { input = input; moment = moment'; seen = None; effects = record { fate = fate'; states = states'; parent = parent'; orders = orders'; measure = measure'; frames = frames'; told = told'; asked = asked'; answers = answers' } } in b)
same-entry input moment moment' fate fate' states states' parent parent' orders orders' measure measure' frames frames' told told' asked asked' answers answers' m f s p o x y t a w =
    rw (m, f, s, p, o, x, y, t, a, w) refl

-- it tells what its follower is told, what it asks and what answers it, and nothing else
pub portless-entry : (s : Scenario) (entries : List Entry) (input : Input) → port_of input ≡ None
    → entry_after s entries input None
    ≡ portless_entry input (max (state_of s entries).core.moment (tick_of input)) (told_by s.options (at_moment (tick_of input) (state_of s entries).core) (state_of s entries).roles input (state_of s entries).followers)
    (asked_at input) (answers_at s.options (state_of s entries) input)
unfolding entry_after effects_of
portless-entry s entries input own =
    let o = s.options in
    let h = state_of s entries in
    let ev : Event = event input None in
    let at = at_moment (tick_of input) h.core in
    let is = unported h None input (core_after o h ev).ports own in
    let goes = core-goes o h ev is.entry in
    let stays = core-stays o h ev is.entry in
    let roles = roles-after s entries input is.entry in
    let between = followers-same s entries input is.entry in
    let M : Core → Core → List Moved = λ mid new. moves_from 1 (states_of h.core.ports) (states_of mid.ports) (states_of new.ports) in
    same-entry input _ _ _ _ _ _ _ _ _ _ _ _ _ _ _ _ _ _ _ _
    (ap (λ (c : Core). c.moment) goes)
    (ap (λ (x : Option PortEntry). entry_fate o x (core_before h ev)) is.entry)
    (ap (λ (c : Core). M c (core_after o h ev)) stays ∙ ap (λ (c : Core). M at c) goes ∙ no-moves 1 (states_of h.core.ports))
    (ap (λ (c : Core). changed_parent h.core.master.parent c.master.parent) goes ∙ same-parent h.core.master.parent)
    (ap (λ (c : Core). orders_now c h.roles) goes ∙ no-orders at h.roles (same-edges s entries (tick_of input)))
    is.measure
    (ap (λ (x : Option PortEntry). entry_frames o x (core_before h ev)) is.entry)
    (ap (λ (c : Core). told_by o c (roles_after o h ev) input (followers_between o h ev)) goes
    ∙ ap (λ (r : Roles). told_by o at r input (followers_between o h ev)) roles
    ∙ ap (λ (fs : List Follower). told_by o at h.roles input fs) between)
    refl
    refl

-- that of a follower asks nothing
pub follower-entry : (s : Scenario) (entries : List Entry) (input : Input) → is_of_follower input ≡ true
    → entry_after s entries input None
    ≡ follower_entry input (max (state_of s entries).core.moment (tick_of input)) (told_by s.options (at_moment (tick_of input) (state_of s entries).core) (state_of s entries).roles input (state_of s entries).followers)
follower-entry s entries input own =
    let h = state_of s entries in
    let moment = max h.core.moment (tick_of input) in
    let told = told_by s.options (at_moment (tick_of input) h.core) h.roles input h.followers in
    let is = unasked s.options h input own in
    portless-entry s entries input (portless input own)
    ∙ ap (λ (a : Option AskError). portless_entry input moment told a (answers_at s.options h input)) is.asked
    ∙ ap (λ (xs : List (List ℕ)). portless_entry input moment told None xs) is.answers

-- ---- followers of the machine

-- each has a clock
pub notices-clocks : (s : Scenario) (m : HubParts) (entries : List Entry) → PartsRepresent s m (state_of s entries) → length m.notices.followers ≤ length m.roles.stamps
notices-clocks s m entries is =
    let same = FollowersRepresent-length s.options m.notices.followers (state_of s entries).followers is.notices.followers in
    let many = followers-length s entries in
    let few = followers-few s in
    omega (arith, same, many, few, is.stamps)

-- and no more wait for it than a ring counts
pub notices-few : (s : Scenario) (m : HubParts) (entries : List Entry) → PartsRepresent s m (state_of s entries) → length entries < ENTRIES_MAX → most_put m.notices.followers < PUT_MAX
notices-few s m entries is few =
    let most = most-few s.options m.notices.followers (state_of s entries).followers (length entries) is.notices.followers (few-wait s entries) in
    omega (arith, most, few)

-- whose turn it is, is there
at-index : {X : Type 0} (xs : List X) (i : ℕ) (x : Option X) (P : X → Type 0) → slice_get xs i ≡ x → IsSomeAnd x P → i < length xs
at-index xs i None P is next = absurd next
at-index xs i (Some x) P is next = slice_get_within xs i x is

pub turner-there : (s : Scenario) (h : State) (n : NoticesView) (input : Input) → IsNext s h input → NoticesRepresent s.options n h.followers → IsTurnerThere n input
turner-there s h n (Turn clock tick) next is =
    let lt = at-index h.followers clock _ _ refl next in
    let same = FollowersRepresent-length s.options n.followers h.followers is.followers in
    omega (arith, lt, same)
turner-there s h n (Sampled clock tick lead theirs ours action outcome) next is = tt
turner-there s h n (Frame port tick octets) next is = tt
turner-there s h n (Timed port tick timer) next is = tt
turner-there s h n (Down port tick) next is = tt
turner-there s h n (Up port tick) next is = tt
turner-there s h n (Report port tick gener action outcome) next is = tt
turner-there s h n (Query tick text) next is = tt

-- ---- the machine after it

-- one entry more is one step more
state-next : (s : Scenario) (entries : List Entry) (input : Input) → state_of s (entry_after s entries input None ∷ entries) ≡ step s.options (state_of s entries) (event input None)
unfolding state_of entry_after
state-next s entries input = refl

pub machine-followed : (s : Scenario) (entries : List Entry) (input : Input) (m : HubParts) (core : BoundaryClock) (notices : NoticesView) → port_of input ≡ None → PartsRepresent s m (state_of s entries)
    → IsSound core → core.ports.len ≡ m.core.ports.len → ClockRepresents s.options core (at_moment (tick_of input) (state_of s entries).core) (state_of s entries).measured
    → NoticesRepresent s.options notices (after_turn s.options (at_moment (tick_of input) (state_of s entries).core) (state_of s entries).roles input (state_of s entries).followers)
    → PartsRepresent s (record { port_clocks = m.port_clocks; core = core; roles = m.roles; states = m.states; notices = notices; drafts = m.drafts }) (state_of s (entry_after s entries input None ∷ entries))
machine-followed s entries input m core notices own was sound ports clock told =
    let o = s.options in
    let h = state_of s entries in
    let is = followed s entries input own in
    let new : HubParts = record { port_clocks = m.port_clocks; core = core; roles = m.roles; states = m.states; notices = notices; drafts = m.drafts } in
    let C : Core → Type 0 = λ c. ClockRepresents o core c h.measured in
    let M : Option Measure → Type 0 = λ x. ClockRepresents o core (step o h (event input None)).core x in
    let F : List Follower → Type 0 = λ fs. FollowersRepresent o notices.followers fs in
    subst (λ (g : State). PartsRepresent s new g) (sym (state-next s entries input)) (record {
      clocks = was.clocks;
      core = subst M (sym is.measured) (subst C (sym is.core) clock);
      sound = sound;
      ports = ports ∙ was.ports;
      roles = subst (λ (r : Roles). RolesRepresent m.roles r) (sym is.roles) was.roles;
      rows = was.rows;
      openings = was.openings;
      stamps = was.stamps;
      places = was.places;
      notices = record { terms = told.terms; followers = subst F (sym is.followers) told.followers };
      drafts = was.drafts;
    })
