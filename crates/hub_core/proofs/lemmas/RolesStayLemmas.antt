-- Where no port moved and the parent stays, the roles stay.
use Rattle.std.proofs.Common.{◌≡◌, ◌∙◌, ℕ, ◌+◌, Bool, true, false, cond, List, [], ◌∷◌, ◌++◌, length, reverse, refl, sym, ap, subst, arith, eqb, Option, Some, None}
use Rattle.std.specs.Prelude.{not}
use Rattle.std.proofs.lemmas.Bool.{eqb-true, and_parts}
use Rattle.std.proofs.lemmas.List.{length-map}
use Rattle.ptp_base.specs.declared.identity.PortId.{PortId}
use Rattle.ptp_base.specs.declared.port_state.PortState.{PortState}
use Rattle.ptp_base.specs.declared.port_state.PortState.TheVariants.{Initializing, Faulty, Disabled, Listening, PreMaster, Master, Passive, Uncalibrated, Slave}
use Rattle.ptp_profile.specs.Best.PortIdentity.{is_same_port}
use Rattle.ptp_profile.specs.Port.PortStates.{state_number}
use Rattle.ptp_profile.specs.declared.roles.Edge.{Edge}
use Rattle.ptp_profile.specs.Roles.Edges.{are_same_edges, edges_of, orders_of}
use Rattle.ptp_profile.proofs.lemmas.EdgeLemmas.{are_same_edges-iff}
use Rattle.bc_history.specs.declared.entry.Entry.{Entry}
use Rattle.bc_history.specs.declared.entry.Moved.{Moved}
use Rattle.bc_history.specs.declared.entry.Seen.{Seen}
use Rattle.bc_history.specs.declared.port_input.PortEntry.{PortEntry}
use Rattle.bc_history.specs.declared.scenario.Options.{Options}
use Rattle.bc_history.specs.declared.scenario.Scenario.{Scenario}
use Rattle.bc_history.specs.Phases.EntryEffects.{changed_parent, moves_from, moves_of_port}
use Rattle.bc_history.specs.Phases.PortPhase.{after_input, after_port, context_of}
use Rattle.bc_history.specs.Phases.RolePhase.{after_roles, clocks_of, edges_now, orders_now, states_of}
use Rattle.bc_history.specs.Phases.State.{Core, Roles}
use Rattle.bc_history.specs.Phases.HubPort.{HubPort}
use Rattle.bc_history.specs.Phases.Step.{state_of}
use Rattle.bc_history.proofs.lemmas.CoreInvariantLemmas.{length-at_port}
use Rattle.bc_history.proofs.lemmas.RolePhaseLemmas.{edges_in-length, edges-state_of}
use Rattle.bc_ports.specs.declared.event.EventOutcome.{EventOutcome}
use Rattle.bc_ports.specs.ClockYield.{core_at, core_decided, core_ported}
use Rattle.bc_roles.specs.RolesView.{AdvanceYields, RolesRepresent, RolesView}
use Rattle.hub_core.specs.StatesTold.{IsTold}

-- ---- states

-- the state that a number is of
state_by : ℕ → PortState
state_by n =
    cond (eqb n 1) Initializing (cond (eqb n 2) Faulty (cond (eqb n 3) Disabled (cond (eqb n 4) Listening
    (cond (eqb n 5) PreMaster (cond (eqb n 6) Master (cond (eqb n 7) Passive (cond (eqb n 8) Uncalibrated Slave)))))))

state_by-number : (s : PortState) → state_by (state_number s) ≡ s
unfolding state_by
state_by-number Initializing = refl
state_by-number Faulty = refl
state_by-number Disabled = refl
state_by-number Listening = refl
state_by-number PreMaster = refl
state_by-number Master = refl
state_by-number Passive = refl
state_by-number Uncalibrated = refl
state_by-number Slave = refl

-- no move of a port is told only where its state stays
still : (b : Bool) (p : ℕ) (old new : PortState) (moved : Moved) → eqb (state_number old) (state_number new) ≡ b → cond b [] (moved ∷ []) ≡ [] → new ≡ old
still true p old new moved is none = sym (state_by-number new) ∙ (ap state_by (sym (eqb-true _ _ is)) ∙ state_by-number old)
still false p old new moved is none = cc

still-port : (p : ℕ) (old new : PortState) → moves_of_port p old new ≡ [] → new ≡ old
still-port p old new none = still (eqb (state_number old) (state_number new)) p old new (record { port = p; old = old; new = new }) refl none

-- nothing stands in front of nothing
first-none : (xs ys : List Moved) → xs ++ ys ≡ [] → xs ≡ []
first-none [] ys none = refl
first-none (x ∷ xs) ys none = cc

rest-none : (xs ys : List Moved) → xs ++ ys ≡ [] → ys ≡ []
rest-none [] ys none = none
rest-none (x ∷ xs) ys none = cc

still-from : (p : ℕ) (olds mids news : List PortState) → length mids ≡ length olds → length news ≡ length olds → moves_from p olds mids news ≡ [] → news ≡ olds
still-from p [] mids [] a b none = refl
still-from p [] mids (new ∷ news) a b none = absurd (omega (arith, b))
still-from p (old ∷ olds) [] news a b none = absurd (omega (arith, a))
still-from p (old ∷ olds) (mid ∷ mids) [] a b none = absurd (omega (arith, b))
still-from p (old ∷ olds) (mid ∷ mids) (new ∷ news) a b none =
    let own = moves_of_port p old mid in
    let decided = moves_of_port p mid new in
    let rest = moves_from (p + 1) olds mids news in
    let both = first-none (own ++ decided) rest none in
    let first = still-port p old mid (first-none own decided both) in
    let second = still-port p mid new (rest-none own decided both) in
    let is : new ≡ old = second ∙ first in
    rw (is, still-from (p + 1) olds mids news (omega (arith, a)) (omega (arith, b)) (rest-none (own ++ decided) rest none)) refl

-- ---- the parent

same_port : (p q : PortId) → is_same_port p q ≡ true → p ≡ q
same_port p q h =
    let both = and_parts _ _ h in
    let clock = eqb-true _ _ both.0 in
    let port = eqb-true _ _ both.1 in
    λ i. record { clock = record { id = clock i }; port = port i }

stays-by : (b : Bool) (old new : PortId) → is_same_port old new ≡ b → cond b None (Some new) ≡ None → new ≡ old
stays-by true old new is none = sym (same_port old new is)
stays-by false old new is none = cc

parent-stays : (old new : PortId) → changed_parent old new ≡ None → new ≡ old
parent-stays old new none = stays-by (is_same_port old new) old new refl none

-- ---- the edges

-- what an event told leaves states, clocks and parent as they were
record IsStill (old new : Core) : Type 0 where
  states : states_of new.ports ≡ states_of old.ports
  clocks : clocks_of new.ports ≡ clocks_of old.ports
  parent : new.master.parent ≡ old.master.parent

still-told : (old new : Core) (told : EventOutcome) → IsTold old new told → told.states ≡ [] → told.parent ≡ None → IsStill old new
still-told old new told is states parent =
    let state : HubPort → PortState = λ h. h.port.state in
    let clock : HubPort → ℕ = λ h. h.port.conf.clock in
    let olds = length-map old.ports state in
    let news = length-map new.ports state in
    let same = sym (length-map new.ports clock) ∙ (ap (λ (cs : List ℕ). length cs) is.clocks ∙ length-map old.ports clock) in
    record {
      states = still-from 1 (states_of old.ports) is.between (states_of new.ports) (is.long ∙ sym olds) (news ∙ (same ∙ sym olds)) (sym is.states ∙ states);
      clocks = is.clocks;
      parent = parent-stays old.master.parent new.master.parent (sym is.parent ∙ parent);
    }

edges-stay : (s : Scenario) (entries : List Entry) (new : Core) → IsStill (state_of s entries).core new → edges_now new (state_of s entries).roles ≡ (state_of s entries).roles.edges
edges-stay s entries new is =
    let h = state_of s entries in
    let n = length s.clocks in
    let many = ap (λ (es : List (Option Edge)). length es) (edges-state_of s entries) ∙ edges_in-length n h.core in
    ap (λ (k : ℕ). edges_of k new.master.parent (states_of new.ports) (clocks_of new.ports)) many
    ∙ ap (λ (p : PortId). edges_of n p (states_of new.ports) (clocks_of new.ports)) is.parent
    ∙ ap (λ (x : List PortState). edges_of n h.core.master.parent x (clocks_of new.ports)) is.states
    ∙ ap (λ (x : List ℕ). edges_of n h.core.master.parent (states_of h.core.ports) x) is.clocks
    ∙ sym (edges-state_of s entries)

-- ---- the roles

abbrev begun : Core → Roles → Roles
begun c r = record { gener = r.gener + 1; edges = edges_now c r; orders = reverse (orders_now c r) ++ r.orders }

roles-stay : (c : Core) (r : Roles) → are_same_edges r.edges (edges_now c r) ≡ true → after_roles c r ≡ r
unfolding after_roles
roles-stay c r same = ap (λ (b : Bool). cond (not b) (begun c r) r) same

no-orders : (c : Core) (r : Roles) → are_same_edges r.edges (edges_now c r) ≡ true → orders_now c r ≡ []
no-orders c r same = ap (λ (b : Bool). cond (not b) (orders_of (r.gener + 1) r.edges (edges_now c r)) []) same

-- where nothing was told of states and parent, the roles are as they were, and nothing is ordered
pub advances-nowhere : (s : Scenario) (entries : List Entry) (c : Core) (told : EventOutcome) (v : RolesView) → IsTold (state_of s entries).core c told → told.states ≡ [] → told.parent ≡ None
    → RolesRepresent v (state_of s entries).roles → AdvanceYields c (state_of s entries).roles v []
advances-nowhere s entries c told v is states parent represents =
    let r = (state_of s entries).roles in
    let edges = edges-stay s entries c (still-told (state_of s entries).core c told is states parent) in
    let same : are_same_edges r.edges (edges_now c r) ≡ true = (are_same_edges-iff r.edges (edges_now c r)).1 (sym edges) in
    record { roles = subst (RolesRepresent v) (sym (roles-stay c r same)) represents; orders_are = sym (no-orders c r same) }

-- ---- what is told

ported-length : (o : Options) (e : PortEntry) (c : Core) → length (after_port o e c).ports ≡ length c.ports
unfolding after_port
ported-length o e c = length-at_port (after_input o (context_of e c) e.input) e.input.number c.ports

-- what ports made of an entry is told so
pub told-of : (s : Scenario) (entries : List Entry) (e : PortEntry) (seen : Option Seen) (told : EventOutcome) → clocks_of (core_decided s.options e (state_of s entries).core).ports ≡ clocks_of (state_of s entries).core.ports
    → told.states ≡ moves_from 1 (states_of (state_of s entries).core.ports) (states_of (core_ported s.options e (state_of s entries).core).ports) (states_of (core_decided s.options e (state_of s entries).core).ports)
    → told.parent ≡ changed_parent (state_of s entries).core.master.parent (core_decided s.options e (state_of s entries).core).master.parent
    → IsTold (state_of s entries).core (core_decided s.options e (state_of s entries).core) told
told-of s entries e seen told clocks states parent =
    let c = (state_of s entries).core in
    let state : HubPort → PortState = λ h. h.port.state in
    record {
      between = states_of (core_ported s.options e c).ports;
      long = length-map (core_ported s.options e c).ports state ∙ ported-length s.options e (core_at e c);
      clocks = clocks;
      states = states;
      parent = parent;
    }
