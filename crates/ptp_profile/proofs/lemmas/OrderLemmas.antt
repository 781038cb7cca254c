-- What orders make of controllers.
use Rattle.std.proofs.Common.{◌≡◌, ℕ, zero, suc, ◌+◌, ◌-◌, ◌⊎◌, Bool, true, false, cond, List, [], ◌∷◌, ◌++◌, length, take, Option, Some, None, refl, sym, ap, ◌∙◌, subst, inl, inr, arith, get_or-set_same, get_or-set_other, length-set, append_assoc}
use Rattle.std.specs.Prelude.{slice_index, slice_set}
use Rattle.std.proofs.lemmas.Bool.{cases_eq, cases_lt}
use Rattle.std.proofs.lemmas.List.{set_past, set_at, get_or_at, length_push, take-append-le}
use Rattle.std.proofs.lemmas.List.Sums.{fold-append}
use Rattle.std.proofs.Math.Seq.{take-append-add}
use Rattle.ptp_profile.specs.declared.roles.Edge.{Edge}
use Rattle.ptp_profile.specs.declared.roles.RoleOrder.{RoleOrder}
use Rattle.ptp_profile.specs.Roles.Edges.{is_same_edge, ctrl_of, ctrl_by, ctrls_of, revoke, grant, revokes_from, grants_from, revokes, grants, orders_of}
use Rattle.ptp_profile.specs.Roles.Forest.{IsForest, IsPart, ctrls_by, ctrls_after}
use Rattle.ptp_profile.proofs.lemmas.EdgeLemmas.{same_edge}
use Rattle.ptp_profile.proofs.lemmas.ForestLemmas.{IsForest-from_part}

-- ---- orders that leave a part
-- the order takes a clock from all, or gives it to whom the whole gives it
abbrev IsOf : List ℕ → RoleOrder → Type 0
IsOf whole order = (order.ctrl ≡ 0) ⊎ (order.ctrl ≡ slice_index whole order.clock)

abbrev AreOf : List ℕ → List RoleOrder → Type 0
AreOf whole [] = Unit {0}
AreOf whole (order ∷ orders) = IsOf whole order × AreOf whole orders

AreOf-take : (whole : List ℕ) (k : ℕ) (orders : List RoleOrder) → AreOf whole orders → AreOf whole (take k orders)
AreOf-take whole zero orders h = tt
AreOf-take whole (suc k) [] h = tt
AreOf-take whole (suc k) (order ∷ orders) (here, later) = (here, AreOf-take whole k orders later)

IsPart-set : (part whole : List ℕ) (n x : ℕ) → IsPart part whole → (x ≡ 0) ⊎ (x ≡ slice_index whole n) → IsPart (slice_set part n x) whole
IsPart-set part whole n x h of = record {
  as_many = length-set part n x ∙ h.as_many;
  each = λ c. elim (cases_lt n (length part)) [
    | inr past ↦ rw (set_past part n x past) (h.each c)
    | inl within ↦ elim (cases_eq c n) [
      | inr other ↦ rw (get_or-set_other part n c x 0 other) (h.each c)
      | inl same ↦ let here = get_or-set_same part n x 0 within in rw same (rw here of)
    ]
  ];
}

IsPart-after : (whole ctrls : List ℕ) (orders : List RoleOrder) → AreOf whole orders → IsPart ctrls whole → IsPart (ctrls_after ctrls orders) whole
IsPart-after whole ctrls [] of h = h
IsPart-after whole ctrls (order ∷ orders) (here, later) h = IsPart-after whole (ctrls_by ctrls order) orders later
    (IsPart-set ctrls whole order.clock order.ctrl h here)

IsPart-same : (whole : List ℕ) → IsPart whole whole
IsPart-same whole = record { as_many = refl; each = λ c. inr refl }

-- ---- revokes and grants
AreOf-revokes : (whole : List ℕ) (gener n : ℕ) (olds news : List (Option Edge)) → AreOf whole (revokes_from gener n olds news)
AreOf-revokes whole gener n [] news = tt
AreOf-revokes whole gener n (old ∷ olds) [] = tt
AreOf-revokes whole gener n (old ∷ olds) (new ∷ news) = revoke_step (is_same_edge old new) old (AreOf-revokes whole gener (n + 1) olds news)
  where
    revoke_step : (b : Bool) (edge : Option Edge) → AreOf whole (revokes_from gener (n + 1) olds news)
        → AreOf whole (cond b [] (revoke gener n edge) ++ revokes_from gener (n + 1) olds news)
    revoke_step true edge later = later
    revoke_step false None later = later
    revoke_step false (Some edge) later = (inl refl, later)

AreOf-grants : (pre : List ℕ) (gener n : ℕ) (olds news : List (Option Edge)) → length pre ≡ n
    → AreOf (pre ++ ctrls_of news) (grants_from gener n olds news)
AreOf-grants pre gener n [] news at = tt
AreOf-grants pre gener n (old ∷ olds) [] at = tt
AreOf-grants pre gener n (old ∷ olds) (new ∷ news) at =
    grant_step (is_same_edge old new) new
    (let longer : length (pre ++ ctrl_by new ∷ []) ≡ n + 1 = length_push pre (ctrl_by new) ∙ ap (λ k. k + 1) at in
    subst (λ (whole : List ℕ). AreOf whole (grants_from gener (n + 1) olds news)) (append_assoc pre (ctrl_by new ∷ []) (ctrls_of news))
    (AreOf-grants (pre ++ ctrl_by new ∷ []) gener (n + 1) olds news longer))
  where
    grant_step : (b : Bool) (edge : Option Edge) → AreOf (pre ++ ctrl_by edge ∷ ctrls_of news) (grants_from gener (n + 1) olds news)
        → AreOf (pre ++ ctrl_by edge ∷ ctrls_of news) (cond b [] (grant gener n edge) ++ grants_from gener (n + 1) olds news)
    grant_step true edge later = later
    grant_step false None later = later
    grant_step false (Some edge) later = (inr (sym (get_or_at pre (ctrl_of edge) (ctrls_of news) 0 n at)), later)

-- the same edge names the same controller
ctrl_by-same : (old new : Option Edge) → is_same_edge old new ≡ true → ctrl_by old ≡ ctrl_by new
ctrl_by-same old new h = ap ctrl_by (same_edge old new h)

-- ---- what is left once all revokes are made
abbrev kept : List (Option Edge) → List (Option Edge) → List ℕ
kept [] news = []
kept (old ∷ olds) [] = []
kept (old ∷ olds) (new ∷ news) = cond (is_same_edge old new) (ctrl_by new) 0 ∷ kept olds news

length-kept : (olds news : List (Option Edge)) → length olds ≡ length news → length (kept olds news) ≡ length (ctrls_of news)
length-kept [] [] same = refl
length-kept [] (new ∷ news) same = absurd (omega (arith, same))
length-kept (old ∷ olds) [] same = absurd (omega (arith, same))
length-kept (old ∷ olds) (new ∷ news) same = ap suc (length-kept olds news (omega (arith, same)))

kept-cases : (b : Bool) (x : ℕ) → (cond b x 0 ≡ 0) ⊎ (cond b x 0 ≡ x)
kept-cases true x = inr refl
kept-cases false x = inl refl

kept-each : (olds news : List (Option Edge)) (c : ℕ)
    → (slice_index (kept olds news) c ≡ 0) ⊎ (slice_index (kept olds news) c ≡ slice_index (ctrls_of news) c)
kept-each [] news c = inl refl
kept-each (old ∷ olds) [] c = inl refl
kept-each (old ∷ olds) (new ∷ news) zero = kept-cases (is_same_edge old new) (ctrl_by new)
kept-each (old ∷ olds) (new ∷ news) (suc c) = kept-each olds news c

-- a step along the clocks, of which the first is `pre` long
next_clock : (pre xs ys : List ℕ) (rest : List RoleOrder) (x : ℕ) → ctrls_after ((pre ++ x ∷ []) ++ xs) rest ≡ (pre ++ x ∷ []) ++ ys
    → ctrls_after (pre ++ x ∷ xs) rest ≡ pre ++ x ∷ ys
next_clock pre xs ys rest x h =
    let left = append_assoc pre (x ∷ []) xs in
    let right = append_assoc pre (x ∷ []) ys in
    ap (λ (l : List ℕ). ctrls_after l rest) (sym left) ∙ h ∙ right

revoke_step : (b : Bool) (old new : Option Edge) (gener n : ℕ) (pre xs ys : List ℕ) (rest : List RoleOrder) → length pre ≡ n
    → (b ≡ true → ctrl_by old ≡ ctrl_by new)
    → ((x : ℕ) → ctrls_after (pre ++ x ∷ xs) rest ≡ pre ++ x ∷ ys)
    → ctrls_after (pre ++ ctrl_by old ∷ xs) (cond b [] (revoke gener n old) ++ rest) ≡ pre ++ cond b (ctrl_by new) 0 ∷ ys
revoke_step true old new gener n pre xs ys rest at same later = later (ctrl_by old) ∙ ap (λ (x : ℕ). pre ++ x ∷ ys) (same refl)
revoke_step false None new gener n pre xs ys rest at same later = later 0
revoke_step false (Some edge) new gener n pre xs ys rest at same later =
    ap (λ (l : List ℕ). ctrls_after l rest) (set_at pre (ctrl_of edge) xs 0 n at) ∙ later 0

after-revokes : (pre : List ℕ) (gener n : ℕ) (olds news : List (Option Edge)) → length pre ≡ n → length olds ≡ length news
    → ctrls_after (pre ++ ctrls_of olds) (revokes_from gener n olds news) ≡ pre ++ kept olds news
after-revokes pre gener n [] [] at same = refl
after-revokes pre gener n [] (new ∷ news) at same = absurd (omega (arith, same))
after-revokes pre gener n (old ∷ olds) [] at same = absurd (omega (arith, same))
after-revokes pre gener n (old ∷ olds) (new ∷ news) at same =
    revoke_step (is_same_edge old new) old new gener n pre (ctrls_of olds) (kept olds news) (revokes_from gener (n + 1) olds news) at
    (ctrl_by-same old new)
    (λ x. next_clock pre (ctrls_of olds) (kept olds news) (revokes_from gener (n + 1) olds news) x
    (after-revokes (pre ++ x ∷ []) gener (n + 1) olds news (length_push pre x ∙ ap (λ k. k + 1) at) (omega (arith, same))))

grant_step : (b : Bool) (new : Option Edge) (gener n : ℕ) (pre xs ys : List ℕ) (rest : List RoleOrder) → length pre ≡ n
    → ((x : ℕ) → ctrls_after (pre ++ x ∷ xs) rest ≡ pre ++ x ∷ ys)
    → ctrls_after (pre ++ cond b (ctrl_by new) 0 ∷ xs) (cond b [] (grant gener n new) ++ rest) ≡ pre ++ ctrl_by new ∷ ys
grant_step true new gener n pre xs ys rest at later = later (ctrl_by new)
grant_step false None gener n pre xs ys rest at later = later 0
grant_step false (Some edge) gener n pre xs ys rest at later =
    ap (λ (l : List ℕ). ctrls_after l rest) (set_at pre 0 xs (ctrl_of edge) n at) ∙ later (ctrl_of edge)

after-grants : (pre : List ℕ) (gener n : ℕ) (olds news : List (Option Edge)) → length pre ≡ n → length olds ≡ length news
    → ctrls_after (pre ++ kept olds news) (grants_from gener n olds news) ≡ pre ++ ctrls_of news
after-grants pre gener n [] [] at same = refl
after-grants pre gener n [] (new ∷ news) at same = absurd (omega (arith, same))
after-grants pre gener n (old ∷ olds) [] at same = absurd (omega (arith, same))
after-grants pre gener n (old ∷ olds) (new ∷ news) at same =
    grant_step (is_same_edge old new) new gener n pre (kept olds news) (ctrls_of news) (grants_from gener (n + 1) olds news) at
    (λ x. next_clock pre (kept olds news) (ctrls_of news) (grants_from gener (n + 1) olds news) x
    (after-grants (pre ++ x ∷ []) gener (n + 1) olds news (length_push pre x ∙ ap (λ k. k + 1) at) (omega (arith, same))))

-- ---- the orders of a generation
after-append : (ctrls : List ℕ) (before later : List RoleOrder) → ctrls_after ctrls (before ++ later) ≡ ctrls_after (ctrls_after ctrls before) later
after-append ctrls before later = fold-append ctrls_by ctrls before later

pub after-orders : (gener : ℕ) (olds news : List (Option Edge)) → length olds ≡ length news
    → ctrls_after (ctrls_of olds) (orders_of gener olds news) ≡ ctrls_of news
after-orders gener olds news same =
    after-append (ctrls_of olds) (revokes gener olds news) (grants gener olds news)
    ∙ ap (λ (l : List ℕ). ctrls_after l (grants gener olds news)) (after-revokes [] gener 0 olds news refl same)
    ∙ after-grants [] gener 0 olds news refl same

parts-late : (gener k : ℕ) (olds news : List (Option Edge)) → length olds ≡ length news
    → IsPart (ctrls_after (ctrls_of olds) (revokes gener olds news ++ take k (grants gener olds news))) (ctrls_of news)
parts-late gener k olds news same =
    let first = after-append (ctrls_of olds) (revokes gener olds news) (take k (grants gener olds news)) in
    let then_kept = ap (λ (l : List ℕ). ctrls_after l (take k (grants gener olds news))) (after-revokes [] gener 0 olds news refl same) in
    let part : IsPart (kept olds news) (ctrls_of news) = record { as_many = length-kept olds news same; each = kept-each olds news } in
    let of = AreOf-take (ctrls_of news) k (grants gener olds news) (AreOf-grants [] gener 0 olds news refl) in
    subst (λ (l : List ℕ). IsPart l (ctrls_of news)) (sym (first ∙ then_kept))
    (IsPart-after (ctrls_of news) (kept olds news) (take k (grants gener olds news)) of part)

pub IsPart-orders : (gener k : ℕ) (olds news : List (Option Edge)) → length olds ≡ length news
    → IsPart (ctrls_after (ctrls_of olds) (take k (orders_of gener olds news))) (ctrls_of olds)
    ⊎ IsPart (ctrls_after (ctrls_of olds) (take k (orders_of gener olds news))) (ctrls_of news)
IsPart-orders gener k olds news same =
    let rs = revokes gener olds news in
    let gs = grants gener olds news in
    elim (cases_lt (length rs) k) [
      | inr early ↦
          let taken = take-append-le k rs gs early in
          let of = AreOf-take (ctrls_of olds) k rs (AreOf-revokes (ctrls_of olds) gener 0 olds news) in
          inl (subst (λ (os : List RoleOrder). IsPart (ctrls_after (ctrls_of olds) os) (ctrls_of olds)) (sym taken)
          (IsPart-after (ctrls_of olds) (ctrls_of olds) (take k rs) of (IsPart-same (ctrls_of olds))))
      | inl late ↦
          let m : ℕ = k - length rs in
          let sum : length rs + m ≡ k = omega arith in
          let taken : take k (rs ++ gs) ≡ rs ++ take m gs = ap (λ (j : ℕ). take j (rs ++ gs)) (sym sum) ∙ take-append-add rs gs m in
          inr (subst (λ (os : List RoleOrder). IsPart (ctrls_after (ctrls_of olds) os) (ctrls_of news)) (sym taken)
          (parts-late gener m olds news same))
    ]

pub IsForest-orders : (gener k : ℕ) (olds news : List (Option Edge)) → length olds ≡ length news → IsForest (ctrls_of olds) → IsForest (ctrls_of news)
    → IsForest (ctrls_after (ctrls_of olds) (take k (orders_of gener olds news)))
IsForest-orders gener k olds news same old_forest new_forest =
    elim (IsPart-orders gener k olds news same) [
      | inl part ↦ IsForest-from_part _ (ctrls_of olds) part old_forest
      | inr part ↦ IsForest-from_part _ (ctrls_of news) part new_forest
    ]
