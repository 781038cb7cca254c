-- A pass over foreign masters, one at a time.
use Rattle.std.proofs.Common.{◌≡◌, ℕ, ◌+◌, ◌-◌, ◌<◌, ◌≤◌, Bool, true, false, cond, ◌&&◌, List, [], ◌∷◌, length, map, drop, Option, Some, None, refl, sym, ap, subst, ◌∙◌, arith}
use Rattle.std.specs.Option.{is_some, IfSome}
use Rattle.std.specs.List.{fold, filter_map, cons_option}
use Rattle.std.proofs.lemmas.List.{at_drop_all, length-map}
use Rattle.ptp_base.specs.Least.{lesser}
use Rattle.ptp_base.specs.declared.limits.TheConstants.{STEPS_END}
use Rattle.ptp_base.specs.declared.announcement.Announcement.{Announcement}
use Rattle.ptp_profile.specs.Best.Comparison.{wins}
use Rattle.ptp_profile.specs.Best.ForeignMasters.{better, winner}
use Rattle.foreign_master.specs.declared.foreign_master.ForeignMaster.{ForeignMaster}
use Rattle.foreign_master.specs.ForeignMasterTable.{is_qualified, qualified_of, said_by, befores_of}

-- what the winner, and the oldest, so far and those that are left give
pub winner_more : (w m : ℕ) (p : ForeignMaster) (rest : List ForeignMaster) (old new : Option Announcement) →
    new ≡ fold better old (said_by w m (p ∷ [])) → fold better new (said_by w m rest) ≡ fold better old (said_by w m (p ∷ rest))
winner_more w m p rest old new =
    elim (is_qualified w m p) as (λ b. new ≡ fold better old (map (λ (q : ForeignMaster). q.said) (cond b (p ∷ []) [])) →
    fold better new (said_by w m rest) ≡ fold better old (map (λ (q : ForeignMaster). q.said) (cond b (p ∷ qualified_of w m rest) (qualified_of w m rest)))) [
      | true ↦ λ e. ap (λ o. fold better o (said_by w m rest)) e
      | false ↦ λ e. ap (λ o. fold better o (said_by w m rest)) e
    ]

abbrev before_of : ForeignMaster → Option ℕ
before_of p = p.before

abbrev earlier : Option ℕ → ℕ → Option ℕ
earlier = lesser (λ (m : ℕ). m)

first_moment : (o : Option ℕ) (old new : Option ℕ) (rest : List ℕ) →
    new ≡ fold earlier old (cons_option o []) → fold earlier new rest ≡ fold earlier old (cons_option o rest)
first_moment None old new rest e = ap (λ t. fold earlier t rest) e
first_moment (Some at) old new rest e = ap (λ t. fold earlier t rest) e

pub oldest_more : (w m : ℕ) (p : ForeignMaster) (rest : List ForeignMaster) (old new : Option ℕ) →
    new ≡ fold earlier old (befores_of w m (p ∷ [])) → fold earlier new (befores_of w m rest) ≡ fold earlier old (befores_of w m (p ∷ rest))
oldest_more w m p rest old new =
    elim (is_qualified w m p) as (λ b. new ≡ fold earlier old (filter_map before_of (cond b (p ∷ []) [])) →
    fold earlier new (befores_of w m rest) ≡ fold earlier old (filter_map before_of (cond b (p ∷ qualified_of w m rest) (qualified_of w m rest)))) [
      | true ↦ λ e. first_moment p.before old new (befores_of w m rest) e
      | false ↦ λ e. ap (λ t. fold earlier t (befores_of w m rest)) e
    ]

-- ---- how many comparisons: one for each but the first
abbrev pub one_if : Bool → ℕ
one_if b = cond b 1 0

some_better : (o : Option Announcement) (a : Announcement) → is_some (better o a) ≡ true
some_better None a = refl
some_better (Some b) a = elim (wins a b) as (λ t. is_some (cond {A = Option Announcement} t (Some a) (Some b)) ≡ true) [ true ↦ refl | false ↦ refl ]

-- steps before and after one foreign master more
pub counted_more : (w m : ℕ) (p : ForeignMaster) (rest : List ForeignMaster) (old new : Option Announcement) (s t total : ℕ) →
    new ≡ fold better old (said_by w m (p ∷ [])) → t ≡ s + one_if (is_qualified w m p && is_some old) →
    s + one_if (is_some old) + length (qualified_of w m (p ∷ rest)) ≡ total →
    t + one_if (is_some new) + length (qualified_of w m rest) ≡ total
counted_more w m p rest old new s t total =
    elim (is_qualified w m p) as (λ b. new ≡ fold better old (map (λ (q : ForeignMaster). q.said) (cond b (p ∷ []) [])) → t ≡ s + one_if (b && is_some old) →
    s + one_if (is_some old) + length (cond {A = List ForeignMaster} b (p ∷ qualified_of w m rest) (qualified_of w m rest)) ≡ total →
    t + one_if (is_some new) + length (qualified_of w m rest) ≡ total) [
      | true ↦ λ e f g.
          let one : one_if (is_some new) ≡ 1 = ap (λ o. one_if (is_some o)) e ∙ ap one_if (some_better old p.said) in
          omega (arith, f, g, one)
      | false ↦ λ e f g.
          let same : one_if (is_some new) ≡ one_if (is_some old) = ap (λ o. one_if (is_some o)) e in
          omega (arith, f, g, same)
    ]

some_fold : (a : Announcement) (all : List Announcement) → is_some (fold better (Some a) all) ≡ true
some_fold a [] = refl
some_fold a (x ∷ all) = elim (wins x a) as (λ t. is_some (fold better (cond t (Some x) (Some a)) all) ≡ true) [ true ↦ some_fold x all | false ↦ some_fold a all ]

pub counted_all : (all : List Announcement) (s t : ℕ) → t + one_if (is_some (winner all)) ≡ s + length all → t ≡ s + (length all - 1)
counted_all [] s t e = omega (arith, e)
counted_all (x ∷ all) s t e =
    let one : one_if (is_some (winner (x ∷ all))) ≡ 1 = ap one_if (some_fold x all) in
    omega (arith, e, one)

-- ---- what wins is of fewer than STEPS_END steps, as all are
abbrev pub HasFewSteps : Announcement → Type 0
HasFewSteps a = a.steps < STEPS_END

near_better : (o : Option Announcement) (a : Announcement) → IfSome o HasFewSteps → a.steps < STEPS_END → IfSome (better o a) HasFewSteps
near_better None a near few = few
near_better (Some b) a near few = elim (wins a b) as (λ t. IfSome (cond t (Some a) (Some b)) HasFewSteps) [ true ↦ few | false ↦ near ]

pub near_more : (w m : ℕ) (p : ForeignMaster) (old new : Option Announcement) →
    new ≡ fold better old (said_by w m (p ∷ [])) → IfSome old HasFewSteps → p.said.steps < STEPS_END → IfSome new HasFewSteps
near_more w m p old new e near few =
    subst (λ (o : Option Announcement). IfSome o HasFewSteps) (sym e)
    (elim (is_qualified w m p) as (λ b. IfSome (fold better old (map (λ (q : ForeignMaster). q.said) (cond b (p ∷ []) []))) HasFewSteps) [
      | true ↦ near_better old p.said near few
      | false ↦ near
    ])

-- behind the last one
pub pass_counted : (w m : ℕ) (xs : List ForeignMaster) (i : ℕ) (best : Option Announcement) (s t : ℕ) → length xs ≤ i →
    fold better best (said_by w m (drop i xs)) ≡ winner (said_by w m xs) →
    t + one_if (is_some best) + length (qualified_of w m (drop i xs)) ≡ s + length (qualified_of w m xs) → t ≡ s + (length (qualified_of w m xs) - 1)
pass_counted w m xs i best s t l won counted =
    let is : best ≡ winner (said_by w m xs) = sym (at_drop_all (λ (left : List ForeignMaster). fold better best (said_by w m left)) xs i l) ∙ won in
    let none : length (qualified_of w m (drop i xs)) ≡ 0 = at_drop_all (λ (left : List ForeignMaster). length (qualified_of w m left)) xs i l in
    let same : one_if (is_some best) ≡ one_if (is_some (winner (said_by w m xs))) = ap (λ o. one_if (is_some o)) is in
    let long : length (said_by w m xs) ≡ length (qualified_of w m xs) = length-map (qualified_of w m xs) (λ (p : ForeignMaster). p.said) in
    let all = counted_all (said_by w m xs) s t (omega (arith, counted, none, same, long)) in
    omega (arith, all, long)
