-- What the machine made of an input that was due is the history's next entry.
use Rattle.std.proofs.Common.{◌≡◌, ℕ, ◌+◌, ◌≤◌, List, [], ◌∷◌, length, map, refl, sym, ap, subst, ◌∙◌, arith, Option, Some, None}
use Rattle.std.proofs.lemmas.List.{length-map}
use Rattle.ptp_base.specs.declared.identity.PortId.{PortId}
use Rattle.ptp_profile.specs.declared.port_event.Fate.{Fate}
use Rattle.ptp_profile.specs.declared.roles.RoleOrder.{RoleOrder}
use Rattle.ptp_profile.specs.declared.seats.Held.{Held}
use Rattle.ptp_profile.specs.declared.timing.Measure.{Measure}
use Rattle.ptp_management.specs.declared.query.AskError.{AskError}
use Rattle.bc_history.specs.declared.entry.Effects.{Effects}
use Rattle.bc_history.specs.declared.entry.Entry.{Entry}
use Rattle.bc_history.specs.declared.entry.Input.{Input}
use Rattle.bc_history.specs.declared.entry.Moved.{Moved}
use Rattle.bc_history.specs.declared.entry.Seen.{Seen}
use Rattle.bc_history.specs.declared.entry.Sent.{Sent}
use Rattle.bc_history.specs.declared.entry.Told.{Told}
use Rattle.bc_history.specs.declared.port_input.PortEntry.{PortEntry}
use Rattle.bc_history.specs.declared.port_input.PortHappening.{PortHappening}
use Rattle.bc_history.specs.declared.port_input.PortHappening.TheVariants.{Frame as Frame_arrives, Timed as Timer_fires, Down as Goes_down, Up as Comes_up, Report as Reports}
use Rattle.bc_history.specs.declared.scenario.Options.{Options}
use Rattle.bc_history.specs.declared.scenario.Scenario.{Scenario}
use Rattle.bc_history.specs.Phases.EntryEffects.{changed_parent, effects_of, entry_after, event, frames_at, moves_from, told_by}
use Rattle.bc_history.specs.Phases.Inputs.{history_input, input_with, port_at, value_of}
use Rattle.bc_history.specs.Phases.NoticePhase.{after_notices, after_turn}
use Rattle.bc_history.specs.Phases.QueryAnswers.{answers_at, asked_at}
use Rattle.bc_history.specs.Phases.RolePhase.{after_roles, clocks_of, orders_now, states_of}
use Rattle.bc_history.specs.Phases.State.{Core, Event, Follower, Roles, State}
use Rattle.bc_history.specs.Phases.HubPort.{HubPort}
use Rattle.bc_history.specs.Phases.Step.{core_after, followers_between, held_of, last_measure, roles_after, state_of, step}
use Rattle.bc_notices.specs.NoticesView.{FollowersRepresent, NoticesRepresent}
use Rattle.bc_ports.specs.declared.boundary_clock.BoundaryClock.{BoundaryClock}
use Rattle.bc_ports.specs.declared.event.EventOutcome.{EventOutcome}
use Rattle.bc_ports.specs.ClockYield.{EventYields, core_at, core_decided, core_ported, measure_of}
use Rattle.bc_ports.specs.Representation.{ClockRepresents, IsSound}
use Rattle.bc_roles.specs.RolesView.{AdvanceYields, IsSameTable, RolesRepresent, RolesView}
use Rattle.hub_core.specs.EffectParts.{effects_with, sent_by}
use Rattle.hub_core.specs.HubParts.{PartsRepresent, clocks_by}
use Rattle.hub_core.specs.declared.hub_parts.HubParts.{HubParts}
use Rattle.hub_core.proofs.lemmas.PortEntryLemmas.{after-is, between-is, clocks-ports, entry-is, fate-is, frames-are, measure-is}
use Rattle.hub_core.proofs.lemmas.EffectRoomLemmas.{few-frames, sends-known}

-- ---- what an entry of a port tells of followers and queries

-- followers are told nothing, nobody asks, and nothing is answered
record IsQuiet (o : Options) (h : State) (e : Event) (c : Core) (r : Roles) (fs : List Follower) : Type 0 where
  told : told_by o c r e.input fs ≡ None
  asked : asked_at e.input ≡ None
  answers : answers_at o h e.input ≡ []

quiet-with : (o : Options) (h : State) (number tick : ℕ) (what : PortHappening) (seen : Option Seen) (c : Core) (r : Roles) (fs : List Follower) → IsQuiet o h (event (input_with number tick what) seen) c r fs
quiet-with o h number tick (Frame_arrives octets) seen c r fs = record { told = refl; asked = refl; answers = refl }
quiet-with o h number tick (Timer_fires timer) seen c r fs = record { told = refl; asked = refl; answers = refl }
quiet-with o h number tick Goes_down seen c r fs = record { told = refl; asked = refl; answers = refl }
quiet-with o h number tick Comes_up seen c r fs = record { told = refl; asked = refl; answers = refl }
quiet-with o h number tick (Reports gener action outcome) seen c r fs = record { told = refl; asked = refl; answers = refl }

-- ---- the entry

-- what ports and roles made of the entry e of a port q, after a history that gave h
pub record IsMade (o : Options) (h : State) (e : PortEntry) (q : HubPort) (seen : Option Seen) (new : BoundaryClock) (frames : List (List ℕ)) (made : EventOutcome) (roles : RolesView) (orders : List RoleOrder) : Type 0 where
  pub there : port_at h.core.ports e.input.number ≡ Some q
  pub number : q.port.id.port ≡ e.input.number
  pub held : e.held ≡ held_of q.port.conf.clock h.roles.orders
  pub reading : e.reading ≡ value_of seen
  pub yields : EventYields o e h.core h.measured new [] frames made
  pub went : AdvanceYields (core_decided o e h.core) h.roles roles orders

same-effects : (fate fate' : Option Fate) (states states' : List Moved) (parent parent' : Option PortId) (orders orders' : List RoleOrder) (measure measure' : Option (Measure × Held)) (frames frames' : List Sent)
    → fate ≡ fate' → states ≡ states' → parent ≡ parent' → orders ≡ orders' → measure ≡ measure' → frames ≡ frames'
    → effects_with (record { fate = fate; states = states; parent = parent; measure = measure }) orders frames ≡ effects_with (record { fate = fate'; states = states'; parent = parent'; measure = measure' }) orders' frames'
same-effects fate fate' states states' parent parent' orders orders' measure measure' frames frames' a b d e f g = rw (a, b, d, e, f, g) refl

same-quiet : (f : Effects) → f.told ≡ None → f.asked ≡ None → f.answers ≡ []
    → effects_with (record { fate = f.fate; states = f.states; parent = f.parent; measure = f.measure }) f.orders f.frames ≡ f
same-quiet f told asked answers =
    let with : Option Told → Option AskError → List (List ℕ) → Effects = λ t a l. let x : Effects = record { fate = f.fate; states = f.states; parent = f.parent; orders = f.orders; measure = f.measure; frames = f.frames; told = t; asked = a; answers = l } in x in
    ap (λ (t : Option Told). with t None []) (sym told) ∙ ap (λ (a : Option AskError). with f.told a []) (sym asked) ∙ ap (λ (l : List (List ℕ)). with f.told f.asked l) (sym answers)

-- the effects are those of the entry
pub effects-are : (o : Options) (h : State) (e : PortEntry) (q : HubPort) (seen : Option Seen) (new : BoundaryClock) (frames : List (List ℕ)) (made : EventOutcome) (roles : RolesView) (orders : List RoleOrder)
    → IsMade o h e q seen new frames made roles orders → effects_with made orders (map (sent_by e.input.number) frames) ≡ effects_of o h (event (history_input e.input) seen)
unfolding effects_of
effects-are o h e q seen new frames made roles orders is =
    let ev : Event = event (history_input e.input) seen in
    let entry = entry-is h q seen e is.there is.held is.reading in
    let between = between-is o h e seen entry in
    let after = after-is o h e seen entry in
    let quiet = quiet-with o h e.input.number e.input.tick e.input.what seen (core_after o h ev) (roles_after o h ev) (followers_between o h ev) in
    let S : Core → Core → List Moved = λ mid new. moves_from 1 (states_of h.core.ports) (states_of mid.ports) (states_of new.ports) in
    same-effects _ _ _ _ _ _ _ _ _ _ _ _
    (is.yields.fate ∙ sym (fate-is o h e seen entry))
    (is.yields.states ∙ sym (ap (λ (c : Core). S c (core_after o h ev)) between ∙ ap (λ (c : Core). S (core_ported o e h.core) c) after))
    (is.yields.parent ∙ sym (ap (λ (c : Core). changed_parent h.core.master.parent c.master.parent) after))
    (is.went.orders_are ∙ sym (ap (λ (c : Core). orders_now c h.roles) after))
    (is.yields.measure ∙ sym (measure-is e.input seen (core_after o h ev).ports ∙ ap (λ (c : Core). measure_of e.input.number c.ports) after))
    (sends-known o e (core_at e h.core) q e.input.number frames is.there is.number is.yields.frames ∙ sym (frames-are o h e seen entry))
    ∙ same-quiet (effects_of o h ev) quiet.told quiet.asked quiet.answers

-- the entry is the history's next
pub entry-made : (s : Scenario) (entries : List Entry) (e : PortEntry) (q : HubPort) (seen : Option Seen) (new : BoundaryClock) (frames : List (List ℕ)) (made : EventOutcome) (roles : RolesView) (orders : List RoleOrder)
    (entry : Entry) → IsMade s.options (state_of s entries) e q seen new frames made roles orders → entry.input ≡ history_input e.input → entry.moment ≡ new.moment → entry.seen ≡ seen
    → entry.effects ≡ effects_with made orders (map (sent_by e.input.number) frames) → entry ≡ entry_after s entries (history_input e.input) seen
unfolding entry_after
entry-made s entries e q seen new frames made roles orders entry is input moment seen_is effects =
    let h = state_of s entries in
    let o = s.options in
    let after = after-is o h e seen (entry-is h q seen e is.there is.held is.reading) in
    let moment_is = moment ∙ is.yields.clock.core.moment ∙ sym (ap (λ (c : Core). c.moment) after) in
    let told = effects ∙ effects-are o h e q seen new frames made roles orders is in
    let with : Input → ℕ → Option Seen → Effects → Entry = λ i m x f. let y : Entry = record { input = i; moment = m; seen = x; effects = f } in y in
    ap (λ (i : Input). with i entry.moment entry.seen entry.effects) input
    ∙ ap (λ (m : ℕ). with (history_input e.input) m entry.seen entry.effects) moment_is
    ∙ ap (λ (x : Option Seen). with (history_input e.input) (core_after o h (event (history_input e.input) seen)).moment x entry.effects) seen_is
    ∙ ap (λ (f : Effects). with (history_input e.input) (core_after o h (event (history_input e.input) seen)).moment seen f) told

-- ---- the machine after it

-- what an entry leaves of a machine as it was
pub record IsSameMachine (m new : HubParts) : Type 0 where
  pub clocks : new.port_clocks.items ≡ m.port_clocks.items
  pub sound : IsSound new.core
  pub ports : new.core.ports.len ≡ m.core.ports.len
  pub table : IsSameTable m.roles new.roles
  pub places : m.core.ports.len ≤ length new.states.items + new.states.spare
  pub drafts : length m.drafts.items + m.drafts.spare ≤ length new.drafts.items + new.drafts.spare

-- one entry more is one step more
state-next : (s : Scenario) (entries : List Entry) (e : PortEntry) (seen : Option Seen) → state_of s (entry_after s entries (history_input e.input) seen ∷ entries) ≡ step s.options (state_of s entries) (event (history_input e.input) seen)
unfolding state_of entry_after
state-next s entries e seen = refl

step-core : (o : Options) (h : State) (e : Event) → (step o h e).core ≡ core_after o h e
unfolding step
step-core o h e = refl

-- the ports keep their clocks
pub clocks-decided : (s : Scenario) (entries : List Entry) (e : PortEntry) (q : HubPort) (seen : Option Seen) → port_at (state_of s entries).core.ports e.input.number ≡ Some q
    → e.held ≡ held_of q.port.conf.clock (state_of s entries).roles.orders → e.reading ≡ value_of seen → clocks_by s ≡ clocks_of (core_decided s.options e (state_of s entries).core).ports
clocks-decided s entries e q seen there held reading =
    let h = state_of s entries in
    clocks-ports s (entry_after s entries (history_input e.input) seen ∷ entries) ∙ ap (λ (x : State). clocks_of x.core.ports) (state-next s entries e seen)
    ∙ ap (λ (c : Core). clocks_of c.ports) (step-core s.options h (event (history_input e.input) seen) ∙ after-is s.options h e seen (entry-is h q seen e there held reading))

-- a port sends at most two frames
pub frames-few : (o : Options) (c : Core) (measured : Option Measure) (e : PortEntry) (q : HubPort) (new : BoundaryClock) (frames : List (List ℕ)) (made : EventOutcome)
    → port_at c.ports e.input.number ≡ Some q → EventYields o e c measured new [] frames made → length frames ≤ 2
frames-few o c measured e q new frames made there is =
    let few = few-frames o e (core_at e c) q there in
    let same = ap (λ (fs : List (List ℕ)). length fs) is.frames ∙ length-map (frames_at o e (core_at e c)) _ in
    omega (arith, few, same)

-- the clock and the roles are those of the next step
record IsStepped (o : Options) (new : HubParts) (h : State) : Type 0 where
  core : ClockRepresents o new.core h.core h.measured
  roles : RolesRepresent new.roles h.roles

stepped : (o : Options) (h : State) (e : PortEntry) (q : HubPort) (seen : Option Seen) (new : HubParts) (frames : List (List ℕ)) (made : EventOutcome) (orders : List RoleOrder)
    → IsMade o h e q seen new.core frames made new.roles orders → IsStepped o new (step o h (event (history_input e.input) seen))
unfolding step
stepped o h e q seen new frames made orders is =
    let ev : Event = event (history_input e.input) seen in
    let after = after-is o h e seen (entry-is h q seen e is.there is.held is.reading) in
    let measure = measure-is e.input seen (core_after o h ev).ports ∙ ap (λ (c : Core). measure_of e.input.number c.ports) after ∙ sym is.yields.measure in
    let C : Core → Type 0 = λ c. ClockRepresents o new.core c (last_measure made.measure h.measured) in
    let M : Option (Measure × Held) → Type 0 = λ m. ClockRepresents o new.core (core_after o h ev) (last_measure m h.measured) in
    let R : Core → Type 0 = λ c. RolesRepresent new.roles (after_roles c h.roles) in
    record { core = subst M (sym measure) (subst C (sym after) is.yields.clock); roles = subst R (sym after) is.went.roles }

-- the followers after the generation that an entry of a port begins
abbrev pub followers_by : Options → PortEntry → State → List Follower
followers_by o e h = after_notices o (core_decided o e h.core) h.roles (after_roles (core_decided o e h.core) h.roles) h.followers

-- an input of a port tells its own follower nothing
turned-with : (o : Options) (c : Core) (r : Roles) (number tick : ℕ) (what : PortHappening) (fs : List Follower) → after_turn o c r (input_with number tick what) fs ≡ fs
unfolding after_turn
turned-with o c r number tick (Frame_arrives octets) fs = refl
turned-with o c r number tick (Timer_fires timer) fs = refl
turned-with o c r number tick Goes_down fs = refl
turned-with o c r number tick Comes_up fs = refl
turned-with o c r number tick (Reports gener action outcome) fs = refl

-- so the followers of the next step are these
followers-stepped : (o : Options) (h : State) (e : PortEntry) (q : HubPort) (seen : Option Seen) → port_at h.core.ports e.input.number ≡ Some q → e.held ≡ held_of q.port.conf.clock h.roles.orders → e.reading ≡ value_of seen
    → (step o h (event (history_input e.input) seen)).followers ≡ followers_by o e h
unfolding step
followers-stepped o h e q seen there held reading =
    let ev : Event = event (history_input e.input) seen in
    let after = after-is o h e seen (entry-is h q seen e there held reading) in
    turned-with o (core_after o h ev) (roles_after o h ev) e.input.number e.input.tick e.input.what (followers_between o h ev)
    ∙ ap (λ (c : Core). after_notices o c h.roles (after_roles c h.roles) h.followers) after

pub machine-next : (s : Scenario) (entries : List Entry) (e : PortEntry) (q : HubPort) (seen : Option Seen) (m new : HubParts) (frames : List (List ℕ)) (made : EventOutcome) (orders : List RoleOrder)
    → PartsRepresent s m (state_of s entries) → IsMade s.options (state_of s entries) e q seen new.core frames made new.roles orders → IsSameMachine m new
    → NoticesRepresent s.options new.notices (followers_by s.options e (state_of s entries))
    → PartsRepresent s new (state_of s (entry_after s entries (history_input e.input) seen ∷ entries))
machine-next s entries e q seen m new frames made orders was is same notices =
    let h = state_of s entries in
    let went = stepped s.options h e q seen new frames made orders is in
    let P : State → Type 0 = λ g. PartsRepresent s new g in
    let ports = same.ports ∙ was.ports in
    let count = was.ports in
    let places = same.places in
    subst P (sym (state-next s entries e seen)) (record {
      clocks = same.clocks ∙ was.clocks;
      core = went.core;
      sound = same.sound;
      ports = ports;
      roles = went.roles;
      rows = same.table.rows ∙ was.rows;
      openings = same.table.openings ∙ was.openings;
      stamps = same.table.clocks ∙ was.stamps;
      places = omega (arith, places, count);
      notices = record { terms = notices.terms; followers = subst (λ (fs : List Follower). FollowersRepresent s.options new.notices.followers fs) (sym (followers-stepped s.options h e q seen is.there is.held is.reading)) notices.followers };
      drafts = let before = was.drafts in let more = same.drafts in omega (arith, before, more);
    })
