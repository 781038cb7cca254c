-- What is kept of the roles, from one generation to the next.
use Rattle.std.proofs.Common.{◌≡◌, ℕ, zero, suc, ◌+◌, ◌*◌, ◌<◌, ◌≤◌, refl, sym, ap, ◌∙◌, subst, Bool, true, false, cond, List, [], ◌∷◌, length, replicate, take, fold, Option, None, arith}
use Rattle.std.specs.Prelude.{slice_index}
use Rattle.std.proofs.lemmas.List.{length-replicate, length-set}
use Rattle.std.proofs.lemmas.List.Elements.{All-replicate}
use Rattle.model_clock.specs.declared.state.ClockState.{ClockState}
use Rattle.ptp_base.specs.declared.limits.TheConstants.{CLOCKS_MAX, ENTRIES_MAX}
use Rattle.ptp_profile.specs.declared.roles.Edge.{Edge}
use Rattle.ptp_profile.specs.declared.roles.RoleOrder.{RoleOrder}
use Rattle.ptp_profile.specs.declared.roles.Stamp.{Stamp}
use Rattle.ptp_profile.specs.declared.seats.LogEntry.{LogEntry}
use Rattle.ptp_profile.specs.Roles.Forest.{IsForest, ctrls_after}
use Rattle.ptp_profile.specs.Roles.SeatLogs.{log_at, order_entry, with_order, with_orders}
use Rattle.ptp_profile.specs.Roles.Edges.{are_same_edges, ctrls_of, no_stamp}
use Rattle.ptp_profile.proofs.lemmas.ForestLemmas.{IsForest-from_driven}
use Rattle.ptp_profile.proofs.lemmas.OrderLemmas.{after-orders, IsForest-orders}
use Rattle.role_gen.specs.Generation.{Generation, no_generation}
use Rattle.discipline_seat.specs.SeatsView.{seats_at_opening, Seats}
use Rattle.bc_roles.specs.NextGeneration.{after_generation, orders_to, AreEdges, GenerationYields}
use Rattle.bc_roles.specs.OrderRules.{with_given, AreAllowed}
use Rattle.bc_roles.specs.RolesInvariant.{IsRoles, SeatsAgree}
use Rattle.bc_roles.specs.RolesView.{no_roles, roles_view, IsSameTable, RolesView}
use Rattle.bc_roles.specs.Stamps.{ctrls_in, with_stamps}
use Rattle.bc_roles.proofs.lemmas.SeatsAgreeLemmas.{SeatsAgree-opened}
use Rattle.bc_roles.proofs.lemmas.OrderRuleLemmas.{all-allowed, all-follow, are-orders, ctrls-after, length-given, within-given}

-- ---- the opening
nobody-holds : (n c : ℕ) → slice_index (ctrls_of (replicate n None)) c ≡ 0
nobody-holds zero c = refl
nobody-holds (suc n) zero = refl
nobody-holds (suc n) (suc c) = nobody-holds n c

nobody-copies : (n : ℕ) → IsForest (ctrls_of (replicate n None))
nobody-copies n =
    IsForest-from_driven (ctrls_of (replicate n None))
    (λ c d copies. let none : slice_index (ctrls_of (replicate n None)) d ≡ 0 = nobody-holds n d in omega arith)

ctrls-opened : (n : ℕ) → ctrls_in (replicate n no_stamp) ≡ ctrls_of (replicate n None)
ctrls-opened zero = refl
ctrls-opened (suc n) = ap (λ (ctrls : List ℕ). 0 ∷ ctrls) (ctrls-opened n)

roles-opened : (rows : ℕ) (clocks : List ClockState) (next : List (Option Edge)) (drafts : List RoleOrder)
    → length clocks ≤ CLOCKS_MAX
    → length next ≡ length clocks → length drafts ≡ 2 * length clocks → IsRoles (no_roles rows clocks) next drafts
roles-opened rows clocks next drafts few places pairs =
    let stamps : length (replicate (length clocks) no_stamp) ≡ length clocks =
    length-replicate {A = Stamp} (length clocks) no_stamp in
    let edges : length (replicate {A = Option Edge} (length clocks) None) ≡ length clocks =
    length-replicate {A = Option Edge} (length clocks) None in
    record {
      few = omega arith;
      edges = omega arith;
      places = omega arith;
      pairs = omega arith;
      ctrls = ctrls-opened (length clocks);
      forest = nobody-copies (length clocks);
      within = All-replicate (λ (stamp : Stamp). stamp.gener ≤ 0) (length clocks) no_stamp (omega arith);
      agree = SeatsAgree-opened rows clocks;
    }

pub IsRoles-opened : (generation : Generation) (stamps : List Stamp) (seats : Seats) (rows : ℕ) (clocks : List ClockState)
    (next : List (Option Edge)) (drafts : List RoleOrder)
    → generation ≡ no_generation (length clocks) → stamps ≡ replicate (length clocks) no_stamp
    → seats ≡ seats_at_opening rows clocks → length clocks ≤ CLOCKS_MAX
    → length next ≡ length clocks → length drafts ≡ 2 * length clocks → IsRoles (roles_view generation stamps seats) next drafts
IsRoles-opened generation stamps seats rows clocks next drafts g s t few places pairs =
    let is : roles_view generation stamps seats ≡ no_roles rows clocks = cc in
    subst (λ (v : RolesView). IsRoles v next drafts) (sym is) (roles-opened rows clocks next drafts few places pairs)

-- ---- a generation begins
-- its orders may be given
pub allowed-begun : (v : RolesView) (next news : List (Option Edge)) (drafts : List RoleOrder) → IsRoles v next drafts
    → AreEdges (length v.stamps) news → v.generation.gener < ENTRIES_MAX → AreAllowed v.stamps (orders_to v news)
allowed-begun v next news drafts h e below =
    let same : length v.generation.edges ≡ length news = h.edges ∙ sym e.long in
    all-allowed (v.generation.gener + 1) v.stamps (orders_to v news) (omega arith) (omega arith)
    (are-orders (length v.stamps) (v.generation.gener + 1) v.generation.edges news h.edges e.holders)
    (λ k. subst (λ (ctrls : List ℕ). IsForest (ctrls_after ctrls (take k (orders_to v news)))) (sym h.ctrls)
    (IsForest-orders (v.generation.gener + 1) k v.generation.edges news same h.forest e.forest))
    (all-follow (length v.stamps) v.generation.gener v.generation.edges news v.stamps same e.long e.holders h.within)

-- the places for edges and orders have other contents
IsRoles-stays : (v : RolesView) (next news : List (Option Edge)) (drafts others : List RoleOrder) → IsRoles v next drafts
    → length news ≡ length next
    → length others ≡ length drafts → IsRoles v news others
IsRoles-stays v next news drafts others h same long = record {
  few = h.few;
  edges = h.edges;
  places = same ∙ h.places;
  pairs = long ∙ h.pairs;
  ctrls = h.ctrls;
  forest = h.forest;
  within = h.within;
  agree = h.agree;
}

-- the seats are others, which the stamps are tied to
pub IsRoles-seats : (v : RolesView) (seats : Seats) (next : List (Option Edge)) (drafts : List RoleOrder)
    → IsRoles v next drafts
    → SeatsAgree v.stamps seats → IsRoles (record v { seats = seats }) next drafts
IsRoles-seats v seats next drafts h agree = record {
  few = h.few;
  edges = h.edges;
  places = h.places;
  pairs = h.pairs;
  ctrls = h.ctrls;
  forest = h.forest;
  within = h.within;
  agree = agree;
}

IsRoles-begun : (v : RolesView) (next news : List (Option Edge)) (drafts others : List RoleOrder) → IsRoles v next drafts
    → AreEdges (length v.stamps) news → length others ≡ length drafts → SeatsAgree (after_generation v news).stamps (after_generation v news).seats
    → IsRoles (after_generation v news) news others
IsRoles-begun v next news drafts others h e pairs agree =
    let same : length v.generation.edges ≡ length news = h.edges ∙ sym e.long in
    let long : length (with_stamps v.stamps (orders_to v news)) ≡ length v.stamps = length-given v.stamps (orders_to v news) in
    let few : length v.stamps ≤ CLOCKS_MAX = h.few in
    let two : length drafts ≡ 2 * length v.stamps = h.pairs in
    record {
      few = omega arith;
      edges = e.long ∙ sym long;
      places = e.long ∙ sym long;
      pairs = omega arith;
      ctrls = ctrls-after v.stamps (orders_to v news) ∙ ap (λ (ctrls : List ℕ). ctrls_after ctrls (orders_to v news)) h.ctrls
          ∙ after-orders (v.generation.gener + 1) v.generation.edges news same;
      forest = e.forest;
      within = within-given (length v.stamps) (v.generation.gener + 1) v.stamps (orders_to v news)
          (are-orders (length v.stamps) (v.generation.gener + 1) v.generation.edges news h.edges e.holders)
          (λ k d lt. let low = h.within k d lt in omega arith);
      agree = agree;
    }

roles_if : (b : Bool) (v : RolesView) (next news : List (Option Edge)) (drafts others : List RoleOrder) → IsRoles v next drafts
    → AreEdges (length v.stamps) news → length others ≡ length drafts
    → SeatsAgree (cond b v (after_generation v news)).stamps (cond b v (after_generation v news)).seats
    → IsRoles (cond b v (after_generation v news)) news others
roles_if true v next news drafts others h e pairs agree =
    IsRoles-stays v next news drafts others h (e.long ∙ sym h.places) pairs
roles_if false v next news drafts others h e pairs agree = IsRoles-begun v next news drafts others h e pairs agree

-- what always holds of the roles goes on to hold
pub GoesOn-roles : (v new : RolesView) (next news : List (Option Edge)) (drafts others told : List RoleOrder)
    → GenerationYields v news new told → IsRoles v next drafts
    → AreEdges (length v.stamps) news → length others ≡ length drafts → SeatsAgree new.stamps new.seats
    → IsRoles new news others
GoesOn-roles v new next news drafts others told g h e pairs agree =
    subst (λ (w : RolesView). IsRoles w news others) (sym g.new_is)
    (roles_if (are_same_edges v.generation.edges news) v next news drafts others h e pairs
    (subst (λ (w : RolesView). SeatsAgree w.stamps w.seats) g.new_is agree))

-- ---- the seats
pub logs-given : (seats : Seats) (orders : List RoleOrder) → (fold with_given seats orders).logs ≡ with_orders seats.logs orders
logs-given seats [] = refl
logs-given seats (order ∷ orders) = logs-given (with_given seats order) orders

length-ordered : (logs : List (List LogEntry)) (orders : List RoleOrder) → length (with_orders logs orders) ≡ length logs
length-ordered logs [] = refl
length-ordered logs (order ∷ orders) =
    length-ordered (with_order logs order) orders ∙ length-set logs order.clock (order_entry order ∷ log_at logs order.clock)

rows-given : (seats : Seats) (orders : List RoleOrder) → (fold with_given seats orders).rows ≡ seats.rows
rows-given seats [] = refl
rows-given seats (order ∷ orders) = rows-given (with_given seats order) orders

openings-given : (seats : Seats) (orders : List RoleOrder) → (fold with_given seats orders).openings ≡ seats.openings
openings-given seats [] = refl
openings-given seats (order ∷ orders) = openings-given (with_given seats order) orders

logs_if : (b : Bool) (v : RolesView) (news : List (Option Edge))
    → (cond b v (after_generation v news)).seats.logs ≡ with_orders v.seats.logs (cond b [] (orders_to v news))
logs_if true v news = refl
logs_if false v news = logs-given v.seats (orders_to v news)

-- the logs have the orders that were told
pub GoesOn-logs : (v new : RolesView) (news : List (Option Edge)) (told : List RoleOrder) → GenerationYields v news new told
    → new.seats.logs ≡ with_orders v.seats.logs told
GoesOn-logs v new news told g =
    ap (λ (w : RolesView). w.seats.logs) g.new_is ∙ logs_if (are_same_edges v.generation.edges news) v news
    ∙ ap (λ (orders : List RoleOrder). with_orders v.seats.logs orders) (sym g.told_is)

same_if : (b : Bool) (v : RolesView) (news : List (Option Edge)) → IsSameTable v (cond b v (after_generation v news))
same_if true v news = record { rows = refl; openings = refl; clocks = refl; logs = refl }
same_if false v news = record {
  rows = rows-given v.seats (orders_to v news);
  openings = openings-given v.seats (orders_to v news);
  clocks = length-given v.stamps (orders_to v news);
  logs = ap length (logs-given v.seats (orders_to v news)) ∙ length-ordered v.seats.logs (orders_to v news);
}

-- the table stays as it is
pub GoesOn-same : (v new : RolesView) (news : List (Option Edge)) (told : List RoleOrder) → GenerationYields v news new told
    → IsSameTable v new
GoesOn-same v new news told g =
    subst (λ (w : RolesView). IsSameTable v w) (sym g.new_is) (same_if (are_same_edges v.generation.edges news) v news)
