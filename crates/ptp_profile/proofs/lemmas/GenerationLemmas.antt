-- The orders of one clock in a generation, and how many orders there are.
use Rattle.std.proofs.Common.{◌≡◌, ◌≢◌, ℕ, zero, suc, ◌+◌, ◌*◌, ◌<◌, ◌≤◌, Bool, true, false, cond, eqb, List, [], ◌∷◌, ◌++◌, length, get_or, Option, Some, None, refl, sym, ap, ◌∙◌, arith, eq-eqb, ne_eqb, length-append}
use Rattle.std.specs.Prelude.{filter}
use Rattle.std.proofs.lemmas.List.{append-nil}
use Rattle.std.proofs.lemmas.List.Elements.{filter-append}
use Rattle.ptp_profile.specs.declared.roles.Edge.{Edge}
use Rattle.ptp_profile.specs.declared.roles.RoleOrder.{RoleOrder}
use Rattle.ptp_profile.specs.Roles.Edges.{is_same_edge, edge_at, revoke, grant, revokes_from, grants_from, revokes, grants, orders_of}

-- what the old and the new edge of each clock make, in rising clocks
abbrev Maker : Type 0
Maker = ℕ → Option Edge → Option Edge → List RoleOrder

abbrev made : Maker → ℕ → List (Option Edge) → List (Option Edge) → List RoleOrder
made f n [] news = []
made f n (old ∷ olds) [] = []
made f n (old ∷ olds) (new ∷ news) = f n old new ++ made f (n + 1) olds news

abbrev revoke_of : ℕ → Maker
revoke_of gener clock old new = cond (is_same_edge old new) [] (revoke gener clock old)

abbrev grant_of : ℕ → Maker
grant_of gener clock old new = cond (is_same_edge old new) [] (grant gener clock new)

revokes-made : (gener n : ℕ) (olds news : List (Option Edge)) → revokes_from gener n olds news ≡ made (revoke_of gener) n olds news
revokes-made gener n [] news = refl
revokes-made gener n (old ∷ olds) [] = refl
revokes-made gener n (old ∷ olds) (new ∷ news) = ap (λ (os : List RoleOrder). revoke_of gener n old new ++ os) (revokes-made gener (n + 1) olds news)

grants-made : (gener n : ℕ) (olds news : List (Option Edge)) → grants_from gener n olds news ≡ made (grant_of gener) n olds news
grants-made gener n [] news = refl
grants-made gener n (old ∷ olds) [] = refl
grants-made gener n (old ∷ olds) (new ∷ news) = ap (λ (os : List RoleOrder). grant_of gener n old new ++ os) (grants-made gener (n + 1) olds news)

-- ---- the orders of one clock
abbrev on : ℕ → RoleOrder → Bool
on clock order = eqb order.clock clock

-- what is made of a clock is for that clock, and of no edges nothing is made
record IsOwn (f : Maker) : Type 0 where
  filtered : (c d : ℕ) (old new : Option Edge) → filter (on d) (f c old new) ≡ cond (eqb c d) (f c old new) []
  nothing : (c : ℕ) → f c None None ≡ []

none_either : (b : Bool) → [] ≡ cond {A = List RoleOrder} b [] []
none_either true = refl
none_either false = refl

revoke_filtered : (b : Bool) (gener c d : ℕ) (old : Option Edge)
    → filter (on d) (cond b [] (revoke gener c old)) ≡ cond (eqb c d) (cond b [] (revoke gener c old)) []
revoke_filtered true gener c d old = none_either (eqb c d)
revoke_filtered false gener c d None = none_either (eqb c d)
revoke_filtered false gener c d (Some edge) = refl

grant_filtered : (b : Bool) (gener c d : ℕ) (new : Option Edge)
    → filter (on d) (cond b [] (grant gener c new)) ≡ cond (eqb c d) (cond b [] (grant gener c new)) []
grant_filtered true gener c d new = none_either (eqb c d)
grant_filtered false gener c d None = none_either (eqb c d)
grant_filtered false gener c d (Some edge) = refl

IsOwn-revokes : (gener : ℕ) → IsOwn (revoke_of gener)
IsOwn-revokes gener = record { filtered = λ c d old new. revoke_filtered (is_same_edge old new) gener c d old; nothing = λ c. refl }

IsOwn-grants : (gener : ℕ) → IsOwn (grant_of gener)
IsOwn-grants gener = record { filtered = λ c d old new. grant_filtered (is_same_edge old new) gener c d new; nothing = λ c. refl }

before_made : (f : Maker) → IsOwn f → (n clock : ℕ) (olds news : List (Option Edge)) → clock < n → filter (on clock) (made f n olds news) ≡ []
before_made f own n clock [] news before = refl
before_made f own n clock (old ∷ olds) [] before = refl
before_made f own n clock (old ∷ olds) (new ∷ news) before =
    let apart : n ≢ clock = omega (arith, before) in
    let first : filter (on clock) (f n old new) ≡ [] = own.filtered n clock old new ∙ (rw (ne_eqb n clock apart) refl) in
    let rest = before_made f own (n + 1) clock olds news (omega (arith, before)) in
    filter-append (on clock) (f n old new) (made f (n + 1) olds news) ∙ (rw first rest)

made_at : (f : Maker) → IsOwn f → (n i clock : ℕ) (olds news : List (Option Edge)) → length olds ≡ length news → n + i ≡ clock
    → filter (on clock) (made f n olds news) ≡ f clock (get_or olds i None) (get_or news i None)
made_at f own n i clock [] [] same at = sym (own.nothing clock)
made_at f own n i clock [] (new ∷ news) same at = absurd (omega (arith, same))
made_at f own n i clock (old ∷ olds) [] same at = absurd (omega (arith, same))
made_at f own n zero clock (old ∷ olds) (new ∷ news) same at =
    let here : n ≡ clock = omega (arith, at) in
    let first : filter (on clock) (f n old new) ≡ f clock old new = own.filtered n clock old new
    ∙ (rw (eq-eqb n clock here) (ap (λ (c : ℕ). f c old new) here)) in
    let rest : filter (on clock) (made f (n + 1) olds news) ≡ [] = before_made f own (n + 1) clock olds news (omega (arith, here)) in
    filter-append (on clock) (f n old new) (made f (n + 1) olds news) ∙ (rw first (rw rest (append-nil (f clock old new))))
made_at f own n (suc i) clock (old ∷ olds) (new ∷ news) same at =
    let apart : n ≢ clock = omega (arith, at) in
    let first : filter (on clock) (f n old new) ≡ [] = own.filtered n clock old new ∙ (rw (ne_eqb n clock apart) refl) in
    let rest = made_at f own (n + 1) i clock olds news (omega (arith, same)) (omega (arith, at)) in
    filter-append (on clock) (f n old new) (made f (n + 1) olds news) ∙ (rw first rest)

joined : (b : Bool) (xs ys : List RoleOrder) → cond b [] xs ++ cond b [] ys ≡ cond b [] (xs ++ ys)
joined true xs ys = refl
joined false xs ys = refl

pub filter-orders : (gener clock : ℕ) (olds news : List (Option Edge)) → length olds ≡ length news
    → filter (on clock) (orders_of gener olds news) ≡ cond (is_same_edge (edge_at olds clock) (edge_at news clock)) []
    (revoke gener clock (edge_at olds clock) ++ grant gener clock (edge_at news clock))
filter-orders gener clock olds news same =
    let old = edge_at olds clock in
    let new = edge_at news clock in
    let first : filter (on clock) (revokes gener olds news) ≡ revoke_of gener clock old new =
    ap (filter (on clock)) (revokes-made gener 0 olds news) ∙ made_at (revoke_of gener) (IsOwn-revokes gener) 0 clock clock olds news same
    (omega arith) in
    let second : filter (on clock) (grants gener olds news) ≡ grant_of gener clock old new =
    ap (filter (on clock)) (grants-made gener 0 olds news) ∙ made_at (grant_of gener) (IsOwn-grants gener) 0 clock clock olds news same
    (omega arith) in
    filter-append (on clock) (revokes gener olds news) (grants gener olds news)
    ∙ ap (λ (os : List RoleOrder). os ++ filter (on clock) (grants gener olds news)) first
    ∙ ap (λ (os : List RoleOrder). revoke_of gener clock old new ++ os) second
    ∙ joined (is_same_edge old new) (revoke gener clock old) (grant gener clock new)

-- ---- how many there are
length-made : (f : Maker) → ((c : ℕ) (old new : Option Edge) → length (f c old new) ≤ 1) → (n : ℕ) (olds news : List (Option Edge))
    → length (made f n olds news) ≤ length olds
length-made f few n [] news = omega arith
length-made f few n (old ∷ olds) [] = omega arith
length-made f few n (old ∷ olds) (new ∷ news) =
    let rest = length-made f few (n + 1) olds news in
    let one = few n old new in
    omega (arith, rest, one, length-append (f n old new) (made f (n + 1) olds news))

revoke_few : (b : Bool) (gener c : ℕ) (old : Option Edge) → length (cond b [] (revoke gener c old)) ≤ 1
revoke_few true gener c old = omega arith
revoke_few false gener c None = omega arith
revoke_few false gener c (Some edge) = omega arith

grant_few : (b : Bool) (gener c : ℕ) (new : Option Edge) → length (cond b [] (grant gener c new)) ≤ 1
grant_few true gener c new = omega arith
grant_few false gener c None = omega arith
grant_few false gener c (Some edge) = omega arith

pub length-orders : (gener : ℕ) (olds news : List (Option Edge)) → length (orders_of gener olds news) ≤ 2 * length olds
length-orders gener olds news =
    let taken = length-made (revoke_of gener) (λ c old new. revoke_few (is_same_edge old new) gener c old) 0 olds news in
    let given = length-made (grant_of gener) (λ c old new. grant_few (is_same_edge old new) gener c new) 0 olds news in
    omega (
      arith,
      taken,
      given,
      ap length (revokes-made gener 0 olds news),
      ap length (grants-made gener 0 olds news),
      length-append (revokes gener olds news) (grants gener olds news),
    )
