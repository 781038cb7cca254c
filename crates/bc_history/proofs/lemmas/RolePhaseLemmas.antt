-- Along a history the edges are those of the ports, and the controllers that orders leave are a forest.
use Rattle.std.proofs.Common.{◌≡◌, ◌<◌, ◌≤◌, ℕ, zero, suc, ◌+◌, ◌-◌, Bool, true, false, cond, refl, sym, ap, ◌∙◌, subst, arith, inl, inr, List, [], ◌∷◌, ◌++◌, length, replicate, reverse, take, Option, None}
use Rattle.std.specs.Prelude.{not}
use Rattle.std.proofs.Math.Seq.{take-append-add, take-nil}
use Rattle.std.proofs.lemmas.Bool.{cases_lt}
use Rattle.std.proofs.lemmas.List.{length-map, reverse-append, reverse-reverse, take-append-le}
use Rattle.std.proofs.lemmas.List.FromFn.{length-map-range_with_len}
use Rattle.std.proofs.lemmas.List.Sums.{fold-append}
use Rattle.ptp_base.specs.declared.limits.TheConstants.{PORTS_MAX}
use Rattle.ptp_profile.specs.declared.roles.Edge.{Edge}
use Rattle.ptp_profile.specs.declared.roles.RoleOrder.{RoleOrder}
use Rattle.ptp_profile.specs.Roles.Forest.{IsForest, ctrls_after, ctrls_by}
use Rattle.ptp_profile.specs.Roles.Edges.{are_same_edges, ctrls_of, edge_by, edges_of, orders_of, port_on, slave_clock}
use Rattle.ptp_profile.proofs.lemmas.EdgeLemmas.{are_same_edges-iff}
use Rattle.ptp_profile.proofs.lemmas.ForestLemmas.{IsForest-edges}
use Rattle.ptp_profile.proofs.lemmas.OrderLemmas.{IsForest-orders, after-orders}
use Rattle.ptp_profile.proofs.lemmas.PortLemmas.{edges_of-nobody}
use Rattle.bc_history.specs.declared.entry.Entry.{Entry}
use Rattle.bc_history.specs.declared.scenario.Scenario.{Scenario}
use Rattle.bc_history.specs.Phases.Inputs.{event_of}
use Rattle.bc_history.specs.Phases.OpeningState.{opening}
use Rattle.bc_history.specs.Phases.RolePhase.{after_roles, clocks_of, edges_now, orders_now, states_of}
use Rattle.bc_history.specs.Scenario.ScenarioRules.{IsScenario}
use Rattle.bc_history.specs.Phases.State.{Core, Roles}
use Rattle.bc_history.specs.Phases.HubPort.{HubPort}
use Rattle.bc_history.specs.Phases.Step.{core_after, state_of, step}
use Rattle.bc_history.proofs.lemmas.OneFollowsLemmas.{none_follow_first}
use Rattle.bc_history.proofs.lemmas.PortIdentityLemmas.{ports-length}

-- ---- edges

-- the edges of so many clocks by the ports and the parent
abbrev pub edges_in : ℕ → Core → List (Option Edge)
edges_in clocks c = edges_of clocks c.master.parent (states_of c.ports) (clocks_of c.ports)

-- one for each clock
pub edges_in-length : (clocks : ℕ) (c : Core) → length (edges_in clocks c) ≡ clocks
edges_in-length clocks c =
    let states = states_of c.ports in
    let port_clocks = clocks_of c.ports in
    let edge = λ (clock : ℕ). edge_by c.master.parent (port_on clock states port_clocks) (slave_clock states port_clocks) in
    length-map-range_with_len edge 0 clocks

-- roles that begin a generation have its edges, and the others are those of the ports already
edges-by : (c : Core) (r : Roles) (b : Bool) → are_same_edges r.edges (edges_now c r) ≡ b
    → (cond (not b) (record {
      gener = r.gener + 1;
      edges = edges_now c r;
      orders = reverse (orders_now c r) ++ r.orders;
    }) r).edges ≡ edges_now c r
edges-by c r true same = (are_same_edges-iff r.edges (edges_now c r)).0 same
edges-by c r false same = refl

-- the roles after an entry have the edges of the ports and the parent then
pub after_roles-edges : (clocks : ℕ) (c : Core) (r : Roles) → length r.edges ≡ clocks
    → (after_roles c r).edges ≡ edges_in clocks c
unfolding after_roles
after_roles-edges clocks c r many = edges-by c r (are_same_edges r.edges (edges_now c r)) refl ∙ ap (λ n. edges_in n c) many

-- after every history the edges are those of the ports
pub edges-state_of : (s : Scenario) (entries : List Entry)
    → (state_of s entries).roles.edges ≡ edges_in (length s.clocks) (state_of s entries).core
unfolding state_of step
edges-state_of s [] =
    let c = (opening s).core in
    sym (edges_of-nobody (length s.clocks) c.master.parent (states_of c.ports) (clocks_of c.ports) (none_follow_first s))
edges-state_of s (e ∷ before) =
    let h = state_of s before in
    let clocks = length s.clocks in
    let many = ap (λ (edges : List (Option Edge)). length edges) (edges-state_of s before) ∙ edges_in-length clocks h.core in
    after_roles-edges clocks (core_after s.options h (event_of e)) h.roles many

-- ---- controllers

-- the orders so far lead to the edges' controllers, and after any number of them the controllers are a forest
record LeavesForests (clocks : ℕ) (r : Roles) : Type 0 where
  ctrls : ctrls_after (replicate clocks 0) (reverse r.orders) ≡ ctrls_of r.edges
  forests : (k : ℕ) → IsForest (ctrls_after (replicate clocks 0) (take k (reverse r.orders)))

-- without an edge nobody controls a clock
ctrls_of-none : (clocks : ℕ) → ctrls_of (replicate clocks None) ≡ replicate clocks 0
ctrls_of-none zero = refl
ctrls_of-none (suc n) = ap (λ (ctrls : List ℕ). 0 ∷ ctrls) (ctrls_of-none n)

-- orders behind others
ctrls_after-append : (ctrls : List ℕ) (former later : List RoleOrder)
    → ctrls_after ctrls (former ++ later) ≡ ctrls_after (ctrls_after ctrls former) later
ctrls_after-append ctrls former later = fold-append ctrls_by ctrls former later

-- any number of the orders of a generation behind those before it
forests-append : (ctrls : List ℕ) (former later : List RoleOrder) → ((k : ℕ) → IsForest (ctrls_after ctrls (take k former)))
    → ((k : ℕ) → IsForest (ctrls_after (ctrls_after ctrls former) (take k later))) → (k : ℕ)
    → IsForest (ctrls_after ctrls (take k (former ++ later)))
forests-append ctrls former later first then k =
    elim (cases_lt k (length former)) [
      | inl lt ↦ rw (take-append-le k former later (omega arith)) (first k)
      | inr le ↦
          let j = k - length former in
          let same : k ≡ length former + j = omega arith in
          let taken = ap (λ n. take n (former ++ later)) same ∙ take-append-add former later j in
          rw taken (rw (ctrls_after-append ctrls former (take j later)) (then j))
    ]

-- one more generation
LeavesForests-more : (clocks gener : ℕ) (news : List (Option Edge)) (r : Roles) → LeavesForests clocks r
    → length r.edges ≡ length news → IsForest (ctrls_of r.edges) → IsForest (ctrls_of news)
    → LeavesForests clocks (record { gener = gener; edges = news; orders = reverse (orders_of gener r.edges news) ++ r.orders })
LeavesForests-more clocks gener news r leaves many old new =
    let later = orders_of gener r.edges news in
    let former = reverse r.orders in
    let turned = reverse-append (reverse later) r.orders ∙ ap (λ (xs : List RoleOrder). former ++ xs) (reverse-reverse later) in
    let none : List ℕ = replicate clocks 0 in
    record {
      ctrls = rw (turned, ctrls_after-append none former later, leaves.ctrls) (after-orders gener r.edges news many);
      forests = λ k. rw turned (forests-append none former later leaves.forests
          (λ j. rw leaves.ctrls (IsForest-orders gener j r.edges news many old new)) k);
    }

-- a generation that begins, or that doesn't
LeavesForests-by : (clocks : ℕ) (c : Core) (r : Roles) (b : Bool) → LeavesForests clocks r
    → length r.edges ≡ length (edges_now c r) → IsForest (ctrls_of r.edges) → IsForest (ctrls_of (edges_now c r))
    → LeavesForests clocks (cond (not b) (record {
      gener = r.gener + 1;
      edges = edges_now c r;
      orders = reverse (cond (not b) (orders_of (r.gener + 1) r.edges (edges_now c r)) []) ++ r.orders;
    }) r)
LeavesForests-by clocks c r true leaves many old new = leaves
LeavesForests-by clocks c r false leaves many old new =
    LeavesForests-more clocks (r.gener + 1) (edges_now c r) r leaves many old new

-- the roles after an entry
LeavesForests-after_roles : (clocks : ℕ) (c : Core) (r : Roles) → LeavesForests clocks r
    → length r.edges ≡ length (edges_now c r) → IsForest (ctrls_of r.edges) → IsForest (ctrls_of (edges_now c r))
    → LeavesForests clocks (after_roles c r)
unfolding after_roles
LeavesForests-after_roles clocks c r leaves many old new =
    LeavesForests-by clocks c r (are_same_edges r.edges (edges_now c r)) leaves many old new

-- a scenario has at most 32 ports, so their numbers are no controllers that copy
few_states : (s : Scenario) → IsScenario s → (entries : List Entry) → length (states_of (state_of s entries).core.ports) < 128
few_states s is entries =
    let few : length s.ports ≤ PORTS_MAX = is.port_count.1 in
    omega (
      arith,
      few,
      length-map (state_of s entries).core.ports (λ (h : HubPort). h.port.state),
      ports-length s entries,
    )

-- the controllers of the edges are a forest
edges-forest : (s : Scenario) → IsScenario s → (entries : List Entry) → IsForest (ctrls_of (state_of s entries).roles.edges)
edges-forest s is entries =
    let c = (state_of s entries).core in
    rw (edges-state_of s entries)
    (IsForest-edges (length s.clocks) c.master.parent (states_of c.ports) (clocks_of c.ports) (few_states s is entries))

-- the opening has no orders and no edges
LeavesForests-opening : (s : Scenario) → IsScenario s → LeavesForests (length s.clocks) (opening s).roles
unfolding state_of
LeavesForests-opening s is =
    record {
      ctrls = sym (ctrls_of-none (length s.clocks));
      forests = λ k. rw (take-nil {A = RoleOrder} k) (subst IsForest (ctrls_of-none (length s.clocks)) (edges-forest s is []));
    }

-- after every history
LeavesForests-state_of : (s : Scenario) → IsScenario s → (entries : List Entry)
    → LeavesForests (length s.clocks) (state_of s entries).roles
unfolding state_of step
LeavesForests-state_of s is [] = LeavesForests-opening s is
LeavesForests-state_of s is (e ∷ before) =
    let h = state_of s before in
    let c = core_after s.options h (event_of e) in
    let many = sym (edges_in-length (length h.roles.edges) c) in
    let few = few_states s is (e ∷ before) in
    let now = IsForest-edges (length h.roles.edges) c.master.parent (states_of c.ports) (clocks_of c.ports) few in
    LeavesForests-after_roles (length s.clocks) c h.roles (LeavesForests-state_of s is before) many (edges-forest s is before) now

-- after any number of all orders of a history the controllers are a forest
pub controllers-forest : (s : Scenario) → IsScenario s → (entries : List Entry) (k : ℕ)
    → IsForest (ctrls_after (replicate (length s.clocks) 0) (take k (reverse (state_of s entries).roles.orders)))
controllers-forest s is entries = (LeavesForests-state_of s is entries).forests

-- after a history the controllers that all its orders leave are those of the edges
pub ctrls-state_of : (s : Scenario) → IsScenario s → (entries : List Entry)
    → ctrls_after (replicate (length s.clocks) 0) (reverse (state_of s entries).roles.orders) ≡ ctrls_of (state_of s entries).roles.edges
ctrls-state_of s is entries = (LeavesForests-state_of s is entries).ctrls
