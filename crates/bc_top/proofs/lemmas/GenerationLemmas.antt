-- Each generation that begins has an order, so the newest order of a history is of the present generation.
use Rattle.std.proofs.Common.{◌≡◌, ℕ, ◌+◌, Bool, true, false, cond, refl, sym, ap, ◌∙◌, arith, List, [], ◌∷◌, ◌++◌, length, reverse, Option, None, Some}
use Rattle.std.specs.Prelude.{not, ◌&&◌}
use Rattle.std.proofs.lemmas.List.FromFn.{length-map-range_with_len}
use Rattle.ptp_profile.specs.declared.roles.Edge.{Edge}
use Rattle.ptp_profile.specs.declared.roles.RoleOrder.{RoleOrder}
use Rattle.ptp_profile.specs.Roles.Edges.{are_same_edges, is_same_edge, edge_by, grant, grants_from, orders_of, port_on, revoke, revokes_from, slave_clock}
use Rattle.bc_history.specs.declared.entry.Entry.{Entry}
use Rattle.bc_history.specs.declared.scenario.Scenario.{Scenario}
use Rattle.bc_history.specs.Phases.EntryEffects.{effects_of, entry_after}
use Rattle.bc_history.specs.Phases.Inputs.{event_of}
use Rattle.bc_history.specs.Phases.RolePhase.{after_roles, clocks_of, edges_now, orders_now, states_of}
use Rattle.bc_history.specs.Phases.State.{Core, Roles}
use Rattle.bc_history.specs.Phases.Step.{core_after, state_of, step}
use Rattle.bc_history.specs.Run.History.{Continues, Follows}

-- the generation of the first of some orders, or the former one where there is none
abbrev pub generation_or : ℕ → List RoleOrder → ℕ
generation_or former [] = former
generation_or former (order ∷ orders) = order.gener

-- the generation of the newest orders of entries, of which the newest is first
abbrev pub generation_by : List Entry → ℕ
generation_by [] = 0
generation_by (e ∷ before) = generation_or (generation_by before) e.effects.orders

-- orders of one generation
abbrev AreOf : ℕ → List RoleOrder → Type 0
AreOf g [] = Unit {0}
AreOf g (order ∷ orders) = (order.gener ≡ g) × AreOf g orders

revokes-of : (g clock : ℕ) (olds news : List (Option Edge)) → AreOf g (revokes_from g clock olds news)
revokes-of g clock [] news = tt
revokes-of g clock (old ∷ olds) [] = tt
revokes-of g clock (old ∷ olds) (new ∷ news) = by (is_same_edge old new) old (revokes-of g (clock + 1) olds news)
  where
    by : (b : Bool) (edge : Option Edge) → AreOf g (revokes_from g (clock + 1) olds news)
        → AreOf g (cond b [] (revoke g clock edge) ++ revokes_from g (clock + 1) olds news)
    by true edge rest = rest
    by false None rest = rest
    by false (Some edge) rest = (refl, rest)

-- orders of a generation, and an order of it behind them
behind : (g former : ℕ) (orders : List RoleOrder) (order : RoleOrder) (rest : List RoleOrder) → AreOf g orders → order.gener ≡ g
    → generation_or former (orders ++ order ∷ rest) ≡ g
behind g former [] order rest of last = last
behind g former (first ∷ orders) order rest (same, of) last = same

-- edges that differ have an order
differs : (g former clock : ℕ) (olds news : List (Option Edge)) → length olds ≡ length news → are_same_edges olds news ≡ false
    → generation_or former (revokes_from g clock olds news ++ grants_from g clock olds news) ≡ g
differs g former clock [] [] many is = absurd cc
differs g former clock [] (new ∷ news) many is = absurd (omega (arith, many))
differs g former clock (old ∷ olds) [] many is = absurd (omega (arith, many))
differs g former clock (old ∷ olds) (new ∷ news) many is =
    by (is_same_edge old new) old new refl is (λ rest. differs g former (clock + 1) olds news (omega (arith, many)) rest)
  where
    revoked : List RoleOrder
    revoked = revokes_from g (clock + 1) olds news

    granted : List RoleOrder
    granted = grants_from g (clock + 1) olds news

    by : (b : Bool) (a c : Option Edge) → is_same_edge a c ≡ b → (b && are_same_edges olds news) ≡ false
        → (are_same_edges olds news ≡ false → generation_or former (revoked ++ granted) ≡ g)
        → generation_or former ((cond b [] (revoke g clock a) ++ revoked) ++ (cond b [] (grant g clock c) ++ granted)) ≡ g
    by true a c same other rest = rest other
    by false (Some a) c same other rest = refl
    by false None (Some c) same other rest = behind g former revoked _ granted (revokes-of g (clock + 1) olds news) refl
    by false None None same other rest = absurd cc

-- an edge for each clock
edges-length : (c : Core) (r : Roles) → length r.edges ≡ length (edges_now c r)
edges-length c r =
    let states = states_of c.ports in
    let port_clocks = clocks_of c.ports in
    let edge = λ (clock : ℕ). edge_by c.master.parent (port_on clock states port_clocks) (slave_clock states port_clocks) in
    sym (length-map-range_with_len edge 0 (length r.edges))

-- the generation after an entry is that of its orders, or the former one where it has none
generation-after : (c : Core) (r : Roles) → generation_or r.gener (orders_now c r) ≡ (after_roles c r).gener
unfolding after_roles
generation-after c r = by (are_same_edges r.edges (edges_now c r)) refl
  where
    by : (b : Bool) → are_same_edges r.edges (edges_now c r) ≡ b
        → generation_or r.gener (cond (not b) (orders_of (r.gener + 1) r.edges (edges_now c r)) [])
        ≡ (cond (not b) (record {
          gener = r.gener + 1;
          edges = edges_now c r;
          orders = reverse (orders_now c r) ++ r.orders;
        }) r).gener
    by true is = refl
    by false is = differs (r.gener + 1) r.gener 0 r.edges (edges_now c r) (edges-length c r) is

-- the orders that an entry tells
told : (s : Scenario) (before : List Entry) (e : Entry) → Follows s before e
    → e.effects.orders ≡ orders_now (core_after s.options (state_of s before) (event_of e)) (state_of s before).roles
unfolding entry_after effects_of
told s before e f = ap (λ (x : Entry). x.effects.orders) f.made

-- the newest order of a history is of the present generation
pub generation-state_of : (s : Scenario) (entries : List Entry) → Continues s entries
    → generation_by entries ≡ (state_of s entries).roles.gener
unfolding state_of step
generation-state_of s [] continues = refl
generation-state_of s (e ∷ before) (f, continues) =
    let h = state_of s before in
    ap (λ (g : ℕ). generation_or g e.effects.orders) (generation-state_of s before continues)
    ∙ (ap (generation_or h.roles.gener) (told s before e f) ∙ generation-after (core_after s.options h (event_of e)) h.roles)
