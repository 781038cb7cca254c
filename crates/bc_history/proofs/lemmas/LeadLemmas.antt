-- What a follower was told to copy is a clock of the scenario, and an order gave its clock to it, to copy that one.
use Rattle.std.proofs.Common.{◌≡◌, ◌<◌, ◌≤◌, ◌+◌, ℕ, suc, Bool, true, false, cond, eqb, get_or, refl, sym, ap, ◌∙◌, subst, arith, List, [], ◌∷◌, ◌++◌, length, reverse, Option, Some, None}
use Rattle.std.specs.List.{zip}
use Rattle.std.specs.Prelude.{Contains, find, IsSomeAnd, nat_le, option_map, slice_get}
use Rattle.std.proofs.lemmas.Bool.{eqb-true, false≢true}
use Rattle.std.proofs.lemmas.List.Elements.{Contains-append_right}
use Rattle.std.proofs.lemmas.List.FromFn.{get_or-map-range_with_len}
use Rattle.std.proofs.lemmas.Option.{same_Some, slice_get-get_or, slice_get_within}
use Rattle.ptp_base.specs.declared.identity.PortId.{PortId}
use Rattle.ptp_base.specs.declared.port_conf.PortConf.{PortConf}
use Rattle.ptp_base.specs.declared.port_state.PortState.{PortState}
use Rattle.ptp_profile.specs.declared.roles.Edge.{Edge}
use Rattle.ptp_profile.specs.declared.roles.Edge.TheVariants.{Port, Follow}
use Rattle.ptp_profile.specs.declared.roles.Lead.{Lead}
use Rattle.ptp_profile.specs.declared.roles.Notice.{Notice}
use Rattle.ptp_profile.specs.declared.roles.RoleOrder.{RoleOrder}
use Rattle.ptp_profile.specs.Port.PortStates.{is_slave}
use Rattle.ptp_profile.specs.Roles.Edges.{ctrl_by, edge_at, edge_by, edges_of, lead_by, port_on, slave_clock, stamp_of}
use Rattle.bc_history.specs.declared.entry.Entry.{Entry}
use Rattle.bc_history.specs.declared.entry.Input.{Input}
use Rattle.bc_history.specs.declared.entry.Input.TheVariants.{Frame, Timed, Down, Up, Report, Turn, Sampled, Query}
use Rattle.bc_history.specs.declared.entry.Who.TheVariants.{Follower as A_follower}
use Rattle.bc_history.specs.declared.scenario.Scenario.{Scenario}
use Rattle.bc_history.specs.Phases.HubPort.{HubPort}
use Rattle.bc_history.specs.Phases.Inputs.{event_of, holds}
use Rattle.bc_history.specs.Phases.NoticePhase.{after_subscription, after_taking, is_subscription_due, lead_of, notice_for, with_notice}
use Rattle.bc_history.specs.Phases.OpeningState.{follower_count, open_follower}
use Rattle.bc_history.specs.Phases.RolePhase.{after_roles, begins_generation, clocks_of, edges_now, orders_now, states_of}
use Rattle.bc_history.specs.Phases.State.{Core, Follower, Roles, State, Subscription, TickLead}
use Rattle.bc_history.specs.Phases.Step.{core_after, roles_after, state_of, step}
use Rattle.bc_history.specs.Run.Actors.{actor_of, is_by, is_same_actor}
use Rattle.bc_history.specs.Run.FollowerEntries.{IsLeadOf, leading_by, led_with}
use Rattle.bc_history.specs.Run.History.{Continues}
use Rattle.bc_history.specs.Run.NextInputs.{IsNext}
use Rattle.bc_history.specs.Scenario.ScenarioRules.{IsScenario}
use Rattle.bc_history.proofs.lemmas.CoreInvariantLemmas.{option_map-some}
use Rattle.bc_history.proofs.lemmas.FollowerPhaseLemmas.{follower-before, follower-opening, follower_between, followers-length, leading-state_of, own_turn}
use Rattle.bc_history.proofs.lemmas.PortIdentityLemmas.{port-state_of}
use Rattle.bc_history.proofs.lemmas.RolePhaseLemmas.{edges-state_of}
use Rattle.bc_history.proofs.lemmas.StampLemmas.{All-at, ctrl-edge, stamp_of-ordered}

-- ---- the clock that is copied

-- the clock of the port in SLAVE is that of a port
slave_clock-port : (ports : List HubPort) (source : ℕ) → slave_clock (states_of ports) (clocks_of ports) ≡ Some source
    → (i : ℕ) × (g : HubPort) × (slice_get ports i ≡ Some g) × (g.port.conf.clock ≡ source)
slave_clock-port [] source is = absurd (cc)
slave_clock-port (h ∷ hs) source is = by (is_slave h.port.state) (slave_clock-port hs source) is
  where
    by : (b : Bool)
        → (slave_clock (states_of hs) (clocks_of hs) ≡ Some source → (i : ℕ) × (g : HubPort) × (slice_get hs i ≡ Some g) × (g.port.conf.clock ≡ source))
        → option_map (λ (p : PortState × ℕ). p.1) (cond b (Some (h.port.state, h.port.conf.clock)) (find (λ (p : PortState × ℕ). is_slave p.0) (zip (states_of hs) (clocks_of hs)))) ≡ Some source
        → (i : ℕ) × (g : HubPort) × (slice_get (h ∷ hs) i ≡ Some g) × (g.port.conf.clock ≡ source)
    by true rest is = (0, h, refl, same_Some _ source is)
    by false rest is = let found = rest is in (suc found.0, found.1, found.2, found.3)

-- a clock of a port is one of the scenario
source-within : (s : Scenario) → IsScenario s → (entries : List Entry) (source : ℕ)
    → slave_clock (states_of (state_of s entries).core.ports) (clocks_of (state_of s entries).core.ports) ≡ Some source
    → source < length s.clocks
source-within s is entries source found =
    let port = slave_clock-port (state_of s entries).core.ports source found in
    let conf = (port-state_of s entries port.0 port.1 port.2).conf in
    let within : port.1.port.conf.clock < length s.clocks =
    All-at (λ (p : PortConf). p.clock < length s.clocks) s.ports port.0 port.1.port.conf is.placed conf in
    subst (λ (c : ℕ). c < length s.clocks) port.3 within

-- an edge that copies a clock copies that of the port in SLAVE
follow-source : (parent : PortId) (port : Option ℕ) (slave : Option ℕ) (source : ℕ) → edge_by parent port slave ≡ Some (Follow source)
    → slave ≡ Some source
follow-source parent (Some p) slave source is = absurd (cc)
follow-source parent None (Some c) source is = cc
follow-source parent None None source is = absurd (cc)

-- the edge of a clock that is there
edge_at-of : (clocks c : ℕ) (parent : PortId) (states : List PortState) (port_clocks : List ℕ) → c < clocks
    → edge_at (edges_of clocks parent states port_clocks) c ≡ edge_by parent (port_on c states port_clocks) (slave_clock states port_clocks)
edge_at-of clocks c parent states port_clocks within =
    get_or-map-range_with_len (λ (clock : ℕ). edge_by parent (port_on clock states port_clocks) (slave_clock states port_clocks)) 0 clocks c c None
    within (omega arith)

-- ---- what a follower is told is ordered

-- a lead is by an edge that copies its source
record IsLeadBy (now : ℕ) (drives : Option Edge) (l : Lead) : Type 0 where
  edge : drives ≡ Some (Follow l.source)
  gener : l.gener ≡ now

-- so it is where an edge gives one
lead_by-some : (gener : ℕ) (edge : Option Edge) (l : Lead) → lead_by gener edge ≡ Some l → IsLeadBy gener edge l
lead_by-some gener None l is = absurd (cc)
lead_by-some gener (Some (Port port parent)) l is = absurd (cc)
lead_by-some gener (Some (Follow source)) l is =
    let same = same_Some (record { gener = gener; source = source }) l is in
    subst (IsLeadBy gener (Some (Follow source))) same (record { edge = refl; gener = refl })

-- what the edge and the last order of a clock give is a lead of its follower
lead-ordered : (s : Scenario) → IsScenario s → (entries : List Entry) (c : ℕ) (l : Lead) → c < length s.clocks
    → lead_by (stamp_of c (state_of s entries).roles.orders).gener (edge_at (state_of s entries).roles.edges c) ≡ Some l
    → IsLeadOf s (state_of s entries).roles.orders c l
lead-ordered s is entries c l within given =
    let r = (state_of s entries).roles in
    let core = (state_of s entries).core in
    let orders = r.orders in
    let by = lead_by-some (stamp_of c orders).gener (edge_at r.edges c) l given in
    let ctrl : (stamp_of c orders).ctrl ≡ 128 + l.source = ctrl-edge s is entries c within ∙ ap ctrl_by by.edge in
    let ordered = stamp_of-ordered c orders (λ none. absurd (omega (arith, none, ctrl))) in
    let edge =
    sym (edge_at-of (length s.clocks) c core.master.parent (states_of core.ports) (clocks_of core.ports) within)
    ∙ (ap (λ (edges : List (Option Edge)). edge_at edges c) (sym (edges-state_of s entries)) ∙ by.edge) in
    let slave = follow-source core.master.parent (port_on c (states_of core.ports) (clocks_of core.ports))
    (slave_clock (states_of core.ports) (clocks_of core.ports)) l.source edge in
    record {
      source = source-within s is entries l.source slave;
      ordered =
          subst (λ (g : ℕ). Contains orders (record { clock = c; gener = g; ctrl = 128 + l.source })) (sym by.gener)
          (subst (λ (n : ℕ). Contains orders (record { clock = c; gener = (stamp_of c orders).gener; ctrl = n })) ctrl ordered);
    }

-- ---- orders stay

-- more orders leave a lead
IsLeadOf-more : (s : Scenario) (later orders : List RoleOrder) (c : ℕ) (l : Lead) → IsLeadOf s orders c l
    → IsLeadOf s (later ++ orders) c l
IsLeadOf-more s later orders c l h = record { source = h.source; ordered = Contains-append_right later orders _ h.ordered }

-- so does a generation that begins, or that doesn't
IsLeadOf-after_roles : (s : Scenario) (core : Core) (r : Roles) (c : ℕ) (l : Lead) → IsLeadOf s r.orders c l
    → IsLeadOf s (after_roles core r).orders c l
unfolding after_roles
IsLeadOf-after_roles s core r c l h = by (begins_generation core r)
  where
    by : (b : Bool) → IsLeadOf s (cond b (record {
      gener = r.gener + 1;
      edges = edges_now core r;
      orders = reverse (orders_now core r) ++ r.orders;
    }) r).orders c l
    by true = IsLeadOf-more s (reverse (orders_now core r)) r.orders c l h
    by false = h

-- and so does an entry
IsLeadOf-later : (s : Scenario) (before : List Entry) (e : Entry) (c : ℕ) (l : Lead)
    → IsLeadOf s (state_of s before).roles.orders c l → IsLeadOf s (state_of s (e ∷ before)).roles.orders c l
unfolding state_of step
IsLeadOf-later s before e c l h =
    let state = state_of s before in
    IsLeadOf-after_roles s (core_after s.options state (event_of e)) state.roles c l h

-- ---- what a follower keeps is ordered

-- what a follower was last told, and what it was told by its last entry, are leads of it
record IsLed (s : Scenario) (orders : List RoleOrder) (c : ℕ) (f : Follower) : Type 0 where
  last : (l : Lead) → lead_of f ≡ Some l → IsLeadOf s orders c l
  leading : (l : TickLead) → f.leading ≡ Some l → IsLeadOf s orders c l.lead

-- a notice tells leads of a follower
abbrev IsNoticeOf : Scenario → List RoleOrder → ℕ → Notice → Type 0
IsNoticeOf s orders c notice = (l : Lead) → notice.lead ≡ Some l → IsLeadOf s orders c l

-- a notice
IsLed-notice : (s : Scenario) (orders : List RoleOrder) (c : ℕ) (notice : Notice) (f : Follower) → IsNoticeOf s orders c notice
    → IsLed s orders c f → IsLed s orders c (with_notice notice f)
IsLed-notice s orders c notice f told led = record { last = told; leading = led.leading }

-- a generation that begins with an entry, or that doesn't
IsLed-posted : (s : Scenario) (orders : List RoleOrder) (c : ℕ) (same recent : Bool) (notice : Notice) (f : Follower)
    → IsNoticeOf s orders c notice → IsLed s orders c f → IsLed s orders c (cond same f (cond recent (with_notice notice f) f))
IsLed-posted s orders c true recent notice f told led = led
IsLed-posted s orders c false true notice f told led = IsLed-notice s orders c notice f told led
IsLed-posted s orders c false false notice f told led = led

-- a turn that subscribes, or that doesn't
IsLed-subscribed : (s : Scenario) (orders : List RoleOrder) (c : ℕ) (due : Bool) (notice : Notice) (last : Subscription) (f : Follower)
    → IsNoticeOf s orders c notice → IsLed s orders c f
    → IsLed s orders c (cond due (with_notice notice (record f { subscribed = Some last })) f)
IsLed-subscribed s orders c true notice last f told led = record { last = told; leading = led.leading }
IsLed-subscribed s orders c false notice last f told led = led

-- a turn takes what was last told
IsLed-taken : (s : Scenario) (orders : List RoleOrder) (c tick : ℕ) (f : Follower) → IsLed s orders c f
    → IsLed s orders c (after_taking tick f)
IsLed-taken s orders c tick f led = record {
  last = led.last;
  leading = λ l is.
      let made = option_map-some (λ (lead : Lead). let x : TickLead = record { tick = tick; lead = lead } in x) (lead_of f) l is in
      subst (λ (x : TickLead). IsLeadOf s orders c x.lead) made.2 (led.last made.0 made.1);
}

-- an entry of the follower's own
IsLed-own : (s : Scenario) (orders : List RoleOrder) (core : Core) (r : Roles) (c : ℕ) (input : Input) (f : Follower)
    → IsNoticeOf s orders c (notice_for core r c) → IsLed s orders c f → IsLed s orders c (own_turn s.options core r c input f)
IsLed-own s orders core r c (Turn clock tick) f told led =
    IsLed-taken s orders c tick (after_subscription s.options core.moment tick (notice_for core r c) f)
    (IsLed-subscribed s orders c (is_subscription_due s.options tick f) (notice_for core r c) (record { tick = tick; moment = core.moment })
    f told led)
IsLed-own s orders core r c (Sampled clock tick lead theirs own action outcome) f told led =
    record { last = led.last; leading = λ l is. absurd (cc) }
IsLed-own s orders core r c (Frame port tick octets) f told led = led
IsLed-own s orders core r c (Timed port tick timer) f told led = led
IsLed-own s orders core r c (Down port tick) f told led = led
IsLed-own s orders core r c (Up port tick) f told led = led
IsLed-own s orders core r c (Report port tick gener action outcome) f told led = led
IsLed-own s orders core r c (Query tick text) f told led = led

-- an entry of the follower's own, or another one
IsLed-if : (s : Scenario) (orders : List RoleOrder) (core : Core) (r : Roles) (c : ℕ) (input : Input) (f : Follower) (b : Bool)
    → IsNoticeOf s orders c (notice_for core r c) → IsLed s orders c f → IsLed s orders c (cond b (own_turn s.options core r c input f) f)
IsLed-if s orders core r c input f true told led = IsLed-own s orders core r c input f told led
IsLed-if s orders core r c input f false told led = led

-- ---- along a history

-- a scenario has no more followers than clocks
pub follower_count-clocks : (s : Scenario) → follower_count s ≤ length s.clocks
follower_count-clocks s = by (nat_le 2 (length s.clocks))
  where
    by : (b : Bool) → cond b (length s.clocks) 0 ≤ length s.clocks
    by true = omega arith
    by false = omega arith

-- a notice of a generation tells leads of a follower
notice-ordered : (s : Scenario) → IsScenario s → (before : List Entry) (e : Entry) (c : ℕ) → c < length s.clocks
    → IsNoticeOf s (state_of s (e ∷ before)).roles.orders c
    (notice_for (core_after s.options (state_of s before) (event_of e)) (roles_after s.options (state_of s before) (event_of e)) c)
unfolding state_of step
notice-ordered s is before e c within = λ l given. lead-ordered s is (e ∷ before) c l within given

-- after every history what a follower keeps are leads of it
led-state_of : (s : Scenario) → IsScenario s → (entries : List Entry) (c : ℕ) (g : Follower)
    → slice_get (state_of s entries).followers c ≡ Some g → IsLed s (state_of s entries).roles.orders c g
led-state_of s is [] c g there =
    subst (IsLed s (state_of s []).roles.orders c) (follower-opening s c g there)
    (record { last = λ l none. absurd (cc); leading = λ l none. absurd (cc) })
led-state_of s is (e ∷ before) c g there =
    let o = s.options in
    let h = state_of s before in
    let x = event_of e in
    let old = follower-before s e before c g there in
    let f = old.0 in
    let orders = (state_of s (e ∷ before)).roles.orders in
    let was = led-state_of s is before c f old.1 in
    let kept : IsLed s orders c f = record {
      last = λ l last. IsLeadOf-later s before e c l (was.last l last);
      leading = λ l leads. IsLeadOf-later s before e c l.lead (was.leading l leads);
    } in
    let many = followers-length s before in
    let inside = slice_get_within h.followers c f old.1 in
    let most = follower_count-clocks s in
    let within : c < length s.clocks = omega (arith, many, inside, most) in
    let told = notice-ordered s is before e c within in
    let between = IsLed-posted s orders c (eqb h.roles.gener (roles_after o h x).gener)
    (holds (λ (last : Subscription). nat_le (core_after o h x).moment (last.moment + o.subscribe_duration)) f.subscribed)
    (notice_for (core_after o h x) (roles_after o h x) c) f told kept in
    subst (IsLed s orders c) old.2
    (IsLed-if s orders (core_after o h x) (roles_after o h x) c e.input (follower_between o h x c f)
    (is_same_actor (A_follower c) (actor_of e.input)) told between)

-- ---- whoever was told something is there

-- an option whose value has a fact is there
within-and : {X : Type 0} (xs : List X) (i : ℕ) (P : X → Type 0) (o : Option X) → slice_get xs i ≡ o → IsSomeAnd o P → i < length xs
within-and xs i P None is holds = absurd holds
within-and xs i P (Some x) is holds = slice_get_within xs i x is

-- the follower of an entry that is next is there
next-there : (s : Scenario) (h : State) (c : ℕ) (input : Input) → is_same_actor (A_follower c) (actor_of input) ≡ true
    → IsNext s h input → c < length h.followers
next-there s h c (Turn clock tick) is next =
    subst (λ (k : ℕ). k < length h.followers) (sym (eqb-true c clock is))
    (within-and h.followers clock _ (slice_get h.followers clock) refl next)
next-there s h c (Sampled clock tick lead theirs own action outcome) is next =
    subst (λ (k : ℕ). k < length h.followers) (sym (eqb-true c clock is))
    (within-and h.followers clock _ (slice_get h.followers clock) refl next)
next-there s h c (Frame port tick octets) is next = absurd (false≢true is)
next-there s h c (Timed port tick timer) is next = absurd (false≢true is)
next-there s h c (Down port tick) is next = absurd (false≢true is)
next-there s h c (Up port tick) is next = absurd (false≢true is)
next-there s h c (Report port tick gener action outcome) is next = absurd (false≢true is)
next-there s h c (Query tick text) is next = absurd (false≢true is)

-- so is one whose entries told it something
leading_by-there : (s : Scenario) (entries : List Entry) (c : ℕ) (l : TickLead) → Continues s entries → leading_by c entries ≡ Some l
    → c < follower_count s
leading_by-there s [] c l continues is = absurd (cc)
leading_by-there s (e ∷ before) c l (f, continues) is =
    by (is_by (A_follower c) e) refl (leading_by-there s before c l continues) is
  where
    by : (b : Bool) → is_by (A_follower c) e ≡ b → (leading_by c before ≡ Some l → c < follower_count s)
        → cond b (led_with e) (leading_by c before) ≡ Some l → c < follower_count s
    by true own rest is =
        let inside = next-there s (state_of s before) c e.input own f.due.0 in
        let many = followers-length s before in
        omega (arith, inside, many)
    by false own rest is = rest is

-- what a follower was told to copy is a lead of it
pub leading-ordered : (s : Scenario) → IsScenario s → (entries : List Entry) (c : ℕ) (l : TickLead) → Continues s entries
    → leading_by c entries ≡ Some l → IsLeadOf s (state_of s entries).roles.orders c l.lead
leading-ordered s is entries c l continues leads =
    let fs = (state_of s entries).followers in
    let count = leading_by-there s entries c l continues leads in
    let many = followers-length s entries in
    let within : c < length fs = omega (arith, count, many) in
    let f = get_or fs c open_follower in
    let there : slice_get fs c ≡ Some f = slice_get-get_or fs c open_follower within in
    (led-state_of s is entries c f there).leading l (leading-state_of s entries continues c f there ∙ leads)
