-- The orders of a generation may be given one after another.
use Rattle.std.proofs.Common.{◌≡◌, ℕ, suc, ◌+◌, ◌<◌, ◌≤◌, Bool, true, false, cond, eqb, inl, inr, refl, sym, ap, ◌∙◌, subst, List, [], ◌∷◌, ◌++◌, length, take, Option, Some, None, arith, eq-eqb}
use Rattle.std.specs.Prelude.{All, filter}
use Rattle.std.proofs.lemmas.Bool.Decides.{eqb_tells}
use Rattle.std.proofs.lemmas.List.{map-set, length-set, get_or-set_same, get_or-set_other}
use Rattle.std.proofs.lemmas.List.Elements.{All-nil, All-cons, All-head, All-set, All-tail, All-append}
use Rattle.ptp_base.specs.declared.limits.TheConstants.{ENTRIES_MAX}
use Rattle.ptp_profile.specs.declared.roles.Edge.{Edge}
use Rattle.ptp_profile.specs.declared.roles.RoleOrder.{RoleOrder}
use Rattle.ptp_profile.specs.declared.roles.Stamp.{Stamp}
use Rattle.ptp_profile.specs.Roles.Forest.{IsForest, ctrls_after, ctrls_by}
use Rattle.ptp_profile.specs.Roles.SeatLogs.{MayFollow, IsController}
use Rattle.ptp_profile.specs.Roles.Edges.{ctrl_of, edge_at, grant, grants_from, is_same_edge, no_stamp, orders_of, revoke, revokes_from}
use Rattle.ptp_profile.proofs.lemmas.GenerationLemmas.{filter-orders}
use Rattle.bc_roles.specs.NextGeneration.{HasHolder}
use Rattle.bc_roles.specs.OrderRules.{AreAllowed}
use Rattle.bc_roles.specs.Stamps.{ctrls_in, stamp_at, stamp_by, with_stamp, with_stamps}

-- ---- single orders
-- an order of the generation, to a clock that is there, for nobody or for a controller that may hold it
pub record IsOrder (clocks gener : ℕ) (order : RoleOrder) : Type 0 where
  pub there : order.clock < clocks
  pub ctrl : IsController clocks order.ctrl
  pub gener_is : order.gener ≡ gener

revoke_step : (b : Bool) (clocks gener n : ℕ) (edge : Option Edge) (orders : List RoleOrder) → n < clocks
    → All (IsOrder clocks gener) orders
    → All (IsOrder clocks gener) (cond b [] (revoke gener n edge) ++ orders)
revoke_step true clocks gener n edge orders lt later = later
revoke_step false clocks gener n None orders lt later = later
revoke_step false clocks gener n (Some edge) orders lt later =
    All-cons (IsOrder clocks gener) (record { clock = n; gener = gener; ctrl = 0 }) orders
    (record { there = lt; ctrl = inl (omega arith); gener_is = refl }) later

are-revokes : (clocks gener n : ℕ) (olds news : List (Option Edge)) → n + length olds ≤ clocks
    → All (IsOrder clocks gener) (revokes_from gener n olds news)
are-revokes clocks gener n [] news within = All-nil (IsOrder clocks gener)
are-revokes clocks gener n (old ∷ olds) [] within = All-nil (IsOrder clocks gener)
are-revokes clocks gener n (old ∷ olds) (new ∷ news) within =
    revoke_step (is_same_edge old new) clocks gener n old (revokes_from gener (n + 1) olds news) (omega arith)
    (are-revokes clocks gener (n + 1) olds news (omega arith))

grant_step : (b : Bool) (clocks gener n : ℕ) (edge : Option Edge) (orders : List RoleOrder) → n < clocks → HasHolder clocks edge
    → All (IsOrder clocks gener) orders → All (IsOrder clocks gener) (cond b [] (grant gener n edge) ++ orders)
grant_step true clocks gener n edge orders lt holder later = later
grant_step false clocks gener n None orders lt holder later = later
grant_step false clocks gener n (Some edge) orders lt holder later =
    All-cons (IsOrder clocks gener) (record { clock = n; gener = gener; ctrl = ctrl_of edge }) orders
    (record { there = lt; ctrl = holder.1; gener_is = refl }) later

are-grants : (clocks gener n : ℕ) (olds news : List (Option Edge)) → n + length olds ≤ clocks → All (HasHolder clocks) news
    → All (IsOrder clocks gener) (grants_from gener n olds news)
are-grants clocks gener n [] news within holders = All-nil (IsOrder clocks gener)
are-grants clocks gener n (old ∷ olds) [] within holders = All-nil (IsOrder clocks gener)
are-grants clocks gener n (old ∷ olds) (new ∷ news) within holders =
    grant_step (is_same_edge old new) clocks gener n new (grants_from gener (n + 1) olds news) (omega arith)
    (All-head (HasHolder clocks) new news holders)
    (are-grants clocks gener (n + 1) olds news (omega arith) (All-tail (HasHolder clocks) new news holders))

-- the orders of a generation
pub are-orders : (clocks gener : ℕ) (olds news : List (Option Edge)) → length olds ≡ clocks → All (HasHolder clocks) news
    → All (IsOrder clocks gener) (orders_of gener olds news)
are-orders clocks gener olds news same holders =
    All-append (IsOrder clocks gener) (revokes_from gener 0 olds news) (grants_from gener 0 olds news)
    (are-revokes clocks gener 0 olds news (omega arith)) (are-grants clocks gener 0 olds news (omega arith) holders)

-- ---- the orders of one clock
abbrev pub on : ℕ → RoleOrder → Bool
on clock order = eqb order.clock clock

-- an order may follow the stamp of its clock
pub record Follows (stamp : Stamp) (order : RoleOrder) : Type 0 where
  pub follows : MayFollow stamp order.gener
  pub free : order.ctrl ≡ 0 → stamp.gener < order.gener

-- orders may follow one after another
abbrev pub Follow : Stamp → List RoleOrder → Type 0
Follow stamp [] = Unit {0}
Follow stamp (order ∷ orders) = Follows stamp order × Follow (stamp_by order) orders

follow_either : (b : Bool) (clocks gener clock : ℕ) (old new : Option Edge) (stamp : Stamp) → stamp.gener ≤ gener
    → HasHolder clocks new
    → Follow stamp (cond b [] (revoke (gener + 1) clock old ++ grant (gener + 1) clock new))
follow_either true clocks gener clock old new stamp within holder = tt
follow_either false clocks gener clock None None stamp within holder = tt
follow_either false clocks gener clock None (Some new) stamp within holder =
    (record { follows = (omega arith, λ some. omega arith); free = λ none. omega arith }, tt)
follow_either false clocks gener clock (Some old) None stamp within holder =
    (record { follows = (omega arith, λ some. omega arith); free = λ none. omega arith }, tt)
follow_either false clocks gener clock (Some old) (Some new) stamp within holder = (
  record { follows = (omega arith, λ some. omega arith); free = λ none. omega arith },
  (record { follows = (omega arith, λ some. absurd (some refl)); free = λ none. absurd (holder.0 none) }, tt),
)

-- so do those of each clock
abbrev pub AllFollow : List Stamp → List RoleOrder → Type 0
AllFollow stamps orders = (c : ℕ) → c < length stamps → Follow (stamp_at stamps c) (filter (on c) orders)

pub all-follow : (clocks gener : ℕ) (olds news : List (Option Edge)) (stamps : List Stamp) → length olds ≡ length news
    → length news ≡ length stamps
    → All (HasHolder clocks) news → All (λ stamp. stamp.gener ≤ gener) stamps
    → AllFollow stamps (orders_of (gener + 1) olds news)
all-follow clocks gener olds news stamps same long holders within c lt =
    subst (λ (orders : List RoleOrder). Follow (stamp_at stamps c) orders) (sym (filter-orders (gener + 1) c olds news same))
    (follow_either (is_same_edge (edge_at olds c) (edge_at news c)) clocks gener c (edge_at olds c) (edge_at news c)
    (stamp_at stamps c)
    (within c no_stamp lt) (holders c None (omega arith)))

-- ---- one order after another
follow-own : (order : RoleOrder) (orders : List RoleOrder) (stamps : List Stamp) → AllFollow stamps (order ∷ orders)
    → order.clock < length stamps → Follow (stamp_at stamps order.clock) (order ∷ filter (on order.clock) orders)
follow-own order orders stamps follow there =
    subst (λ (b : Bool). Follow (stamp_at stamps order.clock)
    (cond b (order ∷ filter (on order.clock) orders) (filter (on order.clock) orders)))
    (eq-eqb order.clock order.clock refl) (follow order.clock there)

follow-given : (order : RoleOrder) (orders : List RoleOrder) (stamps : List Stamp) → AllFollow stamps (order ∷ orders)
    → order.clock < length stamps → AllFollow (with_stamp stamps order) orders
follow-given order orders stamps follow there c lt =
    let long : length (with_stamp stamps order) ≡ length stamps = length-set stamps order.clock (stamp_by order) in
    let within : c < length stamps = omega arith in
    elim (eqb_tells order.clock c) [
      | inl t ↦
          subst (λ (k : ℕ). Follow (stamp_at (with_stamp stamps order) k) (filter (on k) orders)) t.1
          (subst (λ (stamp : Stamp). Follow stamp (filter (on order.clock) orders))
          (sym (get_or-set_same stamps order.clock (stamp_by order) no_stamp there))
          (follow-own order orders stamps follow there).1)
      | inr f ↦
          subst (λ (stamp : Stamp). Follow stamp (filter (on c) orders))
          (sym (get_or-set_other stamps order.clock c (stamp_by order) no_stamp (λ is. f.1 (sym is))))
          (subst (λ (b : Bool). Follow (stamp_at stamps c) (cond b (order ∷ filter (on c) orders) (filter (on c) orders)))
          f.0 (follow c within))
    ]

-- the controllers after an order
ctrls-given : (stamps : List Stamp) (order : RoleOrder) → ctrls_in (with_stamp stamps order) ≡ ctrls_by (ctrls_in stamps) order
ctrls-given stamps order = map-set (λ (stamp : Stamp). stamp.ctrl) stamps order.clock (stamp_by order)

pub ctrls-after : (stamps : List Stamp) (orders : List RoleOrder)
    → ctrls_in (with_stamps stamps orders) ≡ ctrls_after (ctrls_in stamps) orders
ctrls-after stamps [] = refl
ctrls-after stamps (order ∷ orders) =
    ctrls-after (with_stamp stamps order) orders ∙ ap (λ (ctrls : List ℕ). ctrls_after ctrls orders) (ctrls-given stamps order)

pub length-given : (stamps : List Stamp) (orders : List RoleOrder) → length (with_stamps stamps orders) ≡ length stamps
length-given stamps [] = refl
length-given stamps (order ∷ orders) =
    length-given (with_stamp stamps order) orders ∙ length-set stamps order.clock (stamp_by order)

-- no stamp is newer than the generation
pub within-given : (clocks gener : ℕ) (stamps : List Stamp) (orders : List RoleOrder) → All (IsOrder clocks gener) orders
    → All (λ stamp. stamp.gener ≤ gener) stamps → All (λ stamp. stamp.gener ≤ gener) (with_stamps stamps orders)
within-given clocks gener stamps [] are within = within
within-given clocks gener stamps (order ∷ orders) are within =
    let is : IsOrder clocks gener order = All-head (IsOrder clocks gener) order orders are in
    let same : order.gener ≡ gener = is.gener_is in
    within-given clocks gener (with_stamp stamps order) orders (All-tail (IsOrder clocks gener) order orders are)
    (All-set (λ (stamp : Stamp). stamp.gener ≤ gener) stamps order.clock (stamp_by order) (omega arith) within)

-- orders that lead from forest to forest may be given
pub all-allowed : (gener : ℕ) (stamps : List Stamp) (orders : List RoleOrder) → 1 ≤ gener → gener ≤ ENTRIES_MAX
    → All (IsOrder (length stamps) gener) orders
    → ((k : ℕ) → IsForest (ctrls_after (ctrls_in stamps) (take k orders))) → AllFollow stamps orders → AreAllowed stamps orders
all-allowed gener stamps [] first last are forests follow = tt
all-allowed gener stamps (order ∷ orders) first last are forests follow =
    let is : IsOrder (length stamps) gener order = All-head (IsOrder (length stamps) gener) order orders are in
    let same : order.gener ≡ gener = is.gener_is in
    let own : Follow (stamp_at stamps order.clock) (order ∷ filter (on order.clock) orders) =
    follow-own order orders stamps follow is.there in
    let long : length (with_stamp stamps order) ≡ length stamps = length-set stamps order.clock (stamp_by order) in (
      record {
        there = is.there;
        ctrl = is.ctrl;
        first = omega arith;
        gener = omega arith;
        follows = own.0.follows;
        free = own.0.free;
        forest = forests 1;
      },
      all-allowed gener (with_stamp stamps order) orders first last
          (subst (λ (n : ℕ). All (IsOrder n gener) orders) (sym long)
          (All-tail (IsOrder (length stamps) gener) order orders are))
          (λ k. subst (λ (ctrls : List ℕ). IsForest (ctrls_after ctrls (take k orders))) (sym (ctrls-given stamps order))
          (forests (suc k)))
          (follow-given order orders stamps follow is.there),
    )
