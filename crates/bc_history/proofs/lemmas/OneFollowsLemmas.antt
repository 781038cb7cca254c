-- At most one port follows, after every history.
use Rattle.std.proofs.Common.{◌≡◌, ℕ, suc, ◌+◌, ◌≤◌, Bool, true, false, cond, refl, sym, ap, subst, ◌∙◌, arith, List, [], ◌∷◌, Option, Some, None}
use Rattle.std.specs.Prelude.{count_by, slice_get}
use Rattle.std.proofs.lemmas.Bool.{false≢true, eqb-true}
use Rattle.std.proofs.lemmas.List.Sums.{sum_by-cons}
use Rattle.std.proofs.lemmas.Option.{slice_get-map}
use Rattle.ptp_base.specs.declared.announcement.Announcement.{Announcement}
use Rattle.ptp_base.specs.declared.identity.PortId.{PortId}
use Rattle.ptp_base.specs.declared.port_conf.PortConf.{PortConf}
use Rattle.ptp_base.specs.declared.port_state.PortState.{PortState}
use Rattle.ptp_profile.specs.declared.port_event.PortEvent.{PortEvent}
use Rattle.ptp_profile.specs.declared.port_event.PortEvent.TheVariants.{Decided}
use Rattle.ptp_profile.specs.declared.port_event.Timer.{Timer}
use Rattle.ptp_profile.specs.declared.port_event.Timer.TheVariants.{AnnounceReceipt, Qualification}
use Rattle.ptp_profile.specs.declared.timing.Action.{Action}
use Rattle.ptp_profile.specs.declared.timing.Action.TheVariants.{Unlocked as Unlocked_action, Jump, Locked}
use Rattle.ptp_profile.specs.Best.StateDecision.{is_received_on}
use Rattle.ptp_profile.specs.Port.PortStates.{is_following}
use Rattle.ptp_profile.specs.Roles.Edges.{AtMostOneFollows}
use Rattle.bc_history.specs.declared.entry.Entry.{Entry}
use Rattle.bc_history.specs.declared.entry.Outcome.{Outcome}
use Rattle.bc_history.specs.declared.entry.Outcome.TheVariants.{Unlocked, Changed, Superseded, Spent}
use Rattle.bc_history.specs.declared.port_input.EventContext.{EventContext}
use Rattle.bc_history.specs.declared.port_input.PortEntry.{PortEntry}
use Rattle.bc_history.specs.declared.port_input.PortHappening.{PortHappening}
use Rattle.bc_history.specs.declared.port_input.PortHappening.TheVariants.{Frame, Timed, Down, Up, Report}
use Rattle.bc_history.specs.declared.port_input.PortInput.{PortInput}
use Rattle.bc_history.specs.declared.scenario.Options.{Options}
use Rattle.bc_history.specs.declared.scenario.Scenario.{Scenario}
use Rattle.bc_history.specs.Phases.State.{Core}
use Rattle.bc_history.specs.Phases.HubPort.{HubPort}
use Rattle.bc_history.specs.Phases.Inputs.{at_port, port_at}
use Rattle.bc_history.specs.Phases.OpeningState.{local_announcement, opening}
use Rattle.bc_history.specs.Phases.PortPhase.{after_port, after_input, after_cause, context_of, is_report_counted, happening_event, report_event, timer_event, with_happening}
use Rattle.bc_history.specs.Phases.DecisionPhase.{with_codes, with_code, with_renewal, after_hearing, best_among, best_of, code_with, is_new_parent, master_among}
use Rattle.bc_history.specs.Phases.RolePhase.{states_of}
use Rattle.bc_history.specs.Phases.Step.{state_of}
use Rattle.bc_history.proofs.lemmas.CoreInvariantLemmas.{Each, Each-at_port, Each-map, Each-opening, core_invariant, option_map-some}
use Rattle.bc_history.proofs.lemmas.PortPhaseLemmas.{face, face-after_input, face-with_code, face-with_renewal, happening_alike, renewal_alike}
use Rattle.bc_history.proofs.lemmas.PortStateLemmas.{IsOwnEvent, follows_best, keeps_to_itself, state-after_event}

-- ---- an own event is no decision

-- no event, or one other than a decision
abbrev IsOwn : Option PortEvent → Type 0
IsOwn None = Unit {0}
IsOwn (Some cause) = IsOwnEvent cause

-- that of a timer
own_timer : (timer : Timer) → IsOwn (timer_event timer)
own_timer AnnounceReceipt = λ code e. cc
own_timer Qualification = λ code e. cc
own_timer _ = tt

-- that of a report
own_report : (action : Action) (outcome : Outcome) → IsOwn (report_event action outcome)
own_report (Locked freq) (Changed number) = λ code e. cc
own_report (Jump step freq) (Changed number) = λ code e. cc
own_report Unlocked_action (Changed number) = tt
own_report action Unlocked = λ code e. cc
own_report action (Spent at) = λ code e. cc
own_report action (Superseded newer at) = tt

-- an event that counts or not
own_if : (b : Bool) (event : Option PortEvent) → IsOwn event → IsOwn (cond b event None)
own_if true event own = own
own_if false event own = tt

-- all that happens to a port
own_happening : (k : EventContext) (tick : ℕ) (what : PortHappening) (h : HubPort) → IsOwn (happening_event k tick what h)
own_happening k tick (Frame octets) h = tt
own_happening k tick (Timed timer) h = own_if _ (timer_event timer) (own_timer timer)
own_happening k tick Down h = λ code e. cc
own_happening k tick Up h = λ code e. cc
own_happening k tick (Report gener action outcome) h =
    own_if (is_report_counted k h gener) (report_event action outcome) (own_report action outcome)

-- ---- one port

-- the port follows a master
follows : HubPort → Bool
follows h = is_following h.port.state

-- an own event lets no port follow that didn't
follows-after_cause : (k : EventContext) (event : Option PortEvent) (h : HubPort) → IsOwn event
    → is_following (after_cause k event h).port.state ≡ true → is_following h.port.state ≡ true
follows-after_cause k None h own f = f
follows-after_cause k (Some cause) h own f =
    keeps_to_itself h.port.state cause false own
    (ap is_following (sym (state-after_event k.moment k.steps cause false h.port)) ∙ f)

-- a port that follows after its input did so before
follows-after_input : (o : Options) (k : EventContext) (p : PortInput) (h : HubPort) → follows (after_input o k p h) ≡ true
    → follows h ≡ true
unfolding follows
follows-after_input o k p h f =
    let taken = with_happening o k p.tick p.what h in
    ap is_following (sym (happening_alike o k p.tick p.what h).state)
    ∙ follows-after_cause k (happening_event k p.tick p.what h) taken (own_happening k p.tick p.what h) f

-- so did one after a renewal
follows-with_renewal : (m : ℕ) (h : HubPort) → follows (with_renewal m h) ≡ true → follows h ≡ true
unfolding follows
follows-with_renewal m h f = ap is_following (sym (renewal_alike m h).state) ∙ f

-- a port that follows after a decision is the one that the best announcement was received on
follows-with_code : (own : Announcement) (m : ℕ) (best : Option Announcement) (parent : PortId) (steps : ℕ) (h : HubPort)
    → follows (with_code own m best parent steps h) ≡ true → is_received_on h.port.id.port best ≡ true
unfolding follows
follows-with_code own m best parent steps h f =
    let is_new = is_new_parent best parent in
    follows_best own best h.port.id.port (best_of m h) is_new h.port.state
    (ap is_following (sym (state-after_event m steps (Decided (code_with own m best h)) is_new h.port)) ∙ f)

-- ---- all ports

-- the ports have their numbers, and those that follow have one number
record IsOrderly (ports : List HubPort) : Type 0 where
  numbered : Each (λ p (h : HubPort). h.port.id.port ≡ p) ports
  one : (p q : ℕ) (g h : HubPort) → port_at ports p ≡ Some g → port_at ports q ≡ Some h → follows g ≡ true → follows h ≡ true
      → p ≡ q

-- before the first entry every port listens
opening-idle : (s : Scenario) → Each (λ p (h : HubPort). follows h ≡ false) (opening s).core.ports
unfolding follows
opening-idle s = Each-opening s (λ p h. is_following h.port.state ≡ false) (λ i conf is. refl)

-- so nobody follows
IsOrderly-opening : (s : Scenario) → IsOrderly (opening s).core.ports
IsOrderly-opening s = record {
  numbered = Each-opening s (λ p h. h.port.id.port ≡ p) (λ i conf is. refl);
  one = λ p q g h at_p at_q f also. absurd (false≢true (sym (opening-idle s p g at_p) ∙ f));
}

-- a port of the number before, which followed where the port after follows
abbrev FollowedBefore : List HubPort → ℕ → HubPort → Type 0
FollowedBefore ports p h =
    (g : HubPort) × (port_at ports p ≡ Some g) × (face h.port ≡ face g.port) × (follows h ≡ true → follows g ≡ true)

-- ports that came of orderly ones so are orderly
IsOrderly-later : (before after : List HubPort) → Each (FollowedBefore before) after → IsOrderly before → IsOrderly after
IsOrderly-later before after came o = record {
  numbered = λ p h there. let g = came p h there in ap (λ (f : PortId × PortConf). f.0.port) g.2 ∙ o.numbered p g.0 g.1;
  one = λ p q g h at_p at_q f also.
      let a = came p g at_p in
      let b = came q h at_q in
      o.one p q a.0 b.0 a.1 b.1 (a.3 f) (b.3 also);
}

-- a change of one port that lets it follow only where it followed
IsOrderly-at_port : (change : HubPort → HubPort) (number : ℕ) (ports : List HubPort)
    → ((h : HubPort) → face (change h).port ≡ face h.port) → ((h : HubPort) → follows (change h) ≡ true → follows h ≡ true)
    → IsOrderly ports → IsOrderly (at_port change number ports)
IsOrderly-at_port change number ports same less o =
    IsOrderly-later ports (at_port change number ports)
    (Each-at_port (λ p h. port_at ports p ≡ Some h) (FollowedBefore ports) change number ports
    (λ h there. (h, there, same h, less h)) (λ p h other there. (h, there, refl, λ f. f)) (λ p h there. there)) o

-- the port of an entry takes its input
IsOrderly-after_port : (o : Options) (e : PortEntry) (c : Core) → IsOrderly c.ports → IsOrderly (after_port o e c).ports
unfolding after_port
IsOrderly-after_port o e c =
    let k = context_of e c in
    IsOrderly-at_port (after_input o k e.input) e.input.number c.ports (face-after_input o k e.input)
    (follows-after_input o k e.input)

-- a kept Announce was heard
IsOrderly-after_hearing : (number : ℕ) (c : Core) → IsOrderly c.ports → IsOrderly (after_hearing number c).ports
unfolding after_hearing
IsOrderly-after_hearing number c =
    IsOrderly-at_port (with_renewal c.moment) number c.ports (face-with_renewal c.moment) (follows-with_renewal c.moment)

-- two numbers that an announcement was received on are one
one_received : (best : Option Announcement) (p q : ℕ) → is_received_on p best ≡ true → is_received_on q best ≡ true → p ≡ q
one_received None p q at_p at_q = absurd (false≢true at_p)
one_received (Some a) p q at_p at_q = sym (eqb-true a.receiver.port p at_p) ∙ eqb-true a.receiver.port q at_q

-- a port after its code has its number, and where it follows the best announcement was received on it
abbrev IsCoded : Option Announcement → ℕ → HubPort → Type 0
IsCoded best p h = (h.port.id.port ≡ p) × (follows h ≡ true → is_received_on p best ≡ true)

-- after its code a port is so
coded : (own : Announcement) (m : ℕ) (best : Option Announcement) (parent : PortId) (steps p : ℕ) (h : HubPort)
    → h.port.id.port ≡ p → IsCoded best p (with_code own m best parent steps h)
coded own m best parent steps p h number = (
  ap (λ (f : PortId × PortConf). f.0.port) (face-with_code own m best parent steps h) ∙ number,
  λ f. subst (λ q. is_received_on q best ≡ true) number (follows-with_code own m best parent steps h f),
)

-- each port has its code
IsOrderly-with_codes : (own : Announcement) (best : Option Announcement) (c : Core) → IsOrderly c.ports
    → IsOrderly (with_codes own best c).ports
unfolding with_codes
IsOrderly-with_codes own best c o =
    let steps = (master_among own c.moment best c.master c.ports).steps in
    let each =
    Each-map (λ p (h : HubPort). h.port.id.port ≡ p) (IsCoded best) (with_code own c.moment best c.master.parent steps)
    c.ports (coded own c.moment best c.master.parent steps) o.numbered in
    record {
      numbered = λ p h there. (each p h there).0;
      one = λ p q g h at_p at_q f also. one_received best p q ((each p g at_p).1 f) ((each q h at_q).1 also);
    }

-- after every history
IsOrderly-state_of : (s : Scenario) (entries : List Entry) → IsOrderly (state_of s entries).core.ports
IsOrderly-state_of s entries =
    core_invariant s (λ (c : Core). IsOrderly c.ports) (IsOrderly-opening s) (λ tick c o. o) (record {
      port = IsOrderly-after_port s.options;
      decisions = record {
        codes = λ c. IsOrderly-with_codes (local_announcement s.options) (best_among c.moment c.ports) c;
        hearing = IsOrderly-after_hearing;
      };
    }) entries

-- ---- counts

-- what a test adds to a count
one_of : Bool → ℕ
one_of b = cond b 1 0

-- a count element by element
count_by-cons : {X : Type 0} (test : X → Bool) (x : X) (xs : List X) → count_by test (x ∷ xs) ≡ one_of (test x) + count_by test xs
unfolding one_of
count_by-cons test x xs = sum_by-cons (λ y. cond (test y) 1 0) x xs

-- where no element passes a test, none is counted
pub count_by-none : {X : Type 0} (test : X → Bool) (xs : List X) → ((i : ℕ) (x : X) → slice_get xs i ≡ Some x → test x ≡ false)
    → count_by test xs ≡ 0
unfolding one_of
count_by-none test [] none = refl
count_by-none test (x ∷ xs) none =
    let rest = count_by-none test xs (λ i. none (suc i)) in
    let here = ap one_of (none 0 x refl) in
    omega (arith, rest, here, count_by-cons test x xs)

-- a test that doesn't hold fails
not_true : (b : Bool) → (b ≡ true → ⊥) → b ≡ false
not_true true not = absurd (not refl)
not_true false not = refl

-- where those that pass are at one index, at most one is counted
pub count_by-one : {X : Type 0} (test : X → Bool) (xs : List X)
    → ((i j : ℕ) (x y : X) → slice_get xs i ≡ Some x → slice_get xs j ≡ Some y → test x ≡ true → test y ≡ true → i ≡ j)
    → count_by test xs ≤ 1
unfolding one_of
count_by-one test [] one = omega arith
count_by-one test (x ∷ xs) one =
    by (test x) refl (count_by-one test xs (λ i j y z at_i at_j f also. omega (arith, one (suc i) (suc j) y z at_i at_j f also)))
  where
    by : (b : Bool) → test x ≡ b → count_by test xs ≤ 1 → count_by test (x ∷ xs) ≤ 1
    by true passes rest =
        let none =
        count_by-none test xs (λ i y at. not_true (test y) (λ f. absurd (omega (arith, one 0 (suc i) x y refl at passes f)))) in
        omega (arith, none, ap one_of passes, count_by-cons test x xs)
    by false fails rest = omega (arith, rest, ap one_of fails, count_by-cons test x xs)

-- ---- the states of the ports

-- a state is one of a port
pub state_there : (ports : List HubPort) (i : ℕ) (s : PortState) → slice_get (states_of ports) i ≡ Some s
    → (h : HubPort) × (slice_get ports i ≡ Some h) × (h.port.state ≡ s)
state_there ports i s is =
    option_map-some (λ (h : HubPort). h.port.state) (slice_get ports i) s
    (sym (slice_get-map (λ (h : HubPort). h.port.state) ports i) ∙ is)

-- at most one port follows
pub one_follows : (s : Scenario) (entries : List Entry) → AtMostOneFollows (states_of (state_of s entries).core.ports)
unfolding follows
one_follows s entries =
    let ports = (state_of s entries).core.ports in
    let o = IsOrderly-state_of s entries in
    count_by-one is_following (states_of ports) (λ i j a b at_i at_j f also.
    let g = state_there ports i a at_i in
    let h = state_there ports j b at_j in
    let same : suc i ≡ suc j = o.one (suc i) (suc j) g.0 h.0 g.1 h.1 (ap is_following g.2 ∙ f) (ap is_following h.2 ∙ also) in
    omega (arith, same))

-- before the first entry nobody follows
pub none_follow_first : (s : Scenario) → count_by is_following (states_of (opening s).core.ports) ≡ 0
unfolding follows
none_follow_first s =
    let ports = (opening s).core.ports in
    count_by-none is_following (states_of ports) (λ i a is.
    let h = state_there ports i a is in
    sym (ap is_following h.2) ∙ opening-idle s (suc i) h.0 h.1)
