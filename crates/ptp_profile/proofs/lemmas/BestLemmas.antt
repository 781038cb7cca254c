-- In a coherent set the comparison is one order by grandmaster, steps, sender and receiver.
use Rattle.std.proofs.Common.{◌≡◌, ◌≢◌, ℕ, ◌+◌, ◌<◌, ◌≤◌, Bool, true, false, cond, eqb, ltb, List, [], ◌∷◌, Some, None, refl, sym, ap, subst, ◌∙◌, arith, ⊎_elim}
use Rattle.std.specs.Cmp.{IsTotalOrder}
use Rattle.std.specs.Ordering.{nat_cmp, ordering_then, is_lt, is_gt, ordering_reverse, MatchOrdering}
use Rattle.std.specs.declared.cmp.Ordering.{Ordering}
use Rattle.std.specs.declared.cmp.Ordering.TheVariants.{Less, Equal, Greater}
use Rattle.std.specs.List.{fold, AllByRecursion, Contains, All}
use Rattle.std.proofs.lemmas.Cmp.{on_total, then_total, nat_cmp_total, tied_itself, upto, ranked}
use Rattle.std.proofs.lemmas.Bool.{cases_Bool, cases_order, lt-ltb, le-ltb, ne_eqb, eqb-true, eqb-false, cond-true, cond-false}
use Rattle.std.proofs.lemmas.Option.{same_Some}
use Rattle.std.proofs.lemmas.List.Elements.{All-contains_itself, recursion_from_All, All-from_recursion, All-contains}
use Rattle.ptp_base.specs.declared.announcement.Announcement.{Announcement}
use Rattle.ptp_base.specs.declared.announcement.Quality.{Quality}
use Rattle.ptp_base.specs.declared.identity.ClockId.{ClockId}
use Rattle.ptp_base.specs.declared.identity.PortId.{PortId}
use Rattle.ptp_profile.specs.Best.PortIdentity.{port_cmp}
use Rattle.ptp_profile.specs.declared.comparison.Order.{Order}
use Rattle.ptp_profile.specs.declared.comparison.Order.TheVariants.{ABetter, BBetter}
use Rattle.ptp_profile.specs.Best.Comparison.{quality_cmp, master_cmp, lower_is_better, a_is_nearer, b_is_nearer, lower_is_nearer, ends_cmp, is_a_winner, wins}
use Rattle.ptp_profile.specs.Best.ForeignMasters.{better, winner}
use Rattle.ptp_profile.specs.Best.BestLaws.{IsCoherent, BestWins, BestIsMember, NoBestOfNone}

pub port_cmp_total : IsTotalOrder port_cmp
port_cmp_total = then_total (on_total (λ (p : PortId). p.clock.id) nat_cmp_total) (on_total (λ (p : PortId). p.port) nat_cmp_total)

pub quality_cmp_total : IsTotalOrder quality_cmp
quality_cmp_total =
    then_total (on_total (λ (q : Quality). q.priority1) nat_cmp_total)
    (then_total (on_total (λ (q : Quality). q.class) nat_cmp_total)
    (then_total (on_total (λ (q : Quality). q.accuracy) nat_cmp_total)
    (then_total (on_total (λ (q : Quality). q.variance) nat_cmp_total)
    (on_total (λ (q : Quality). q.priority2) nat_cmp_total))))

-- by steps, and then by the ends
abbrev pub path_cmp : Announcement → Announcement → Ordering
path_cmp a b = ordering_then (nat_cmp a.steps b.steps) (ends_cmp a b)

-- by grandmaster, and then by path
abbrev pub rank_cmp : Announcement → Announcement → Ordering
rank_cmp a b = ordering_then (master_cmp a b) (path_cmp a b)

master_cmp_total : IsTotalOrder master_cmp
master_cmp_total =
    then_total (on_total (λ (a : Announcement). a.quality) quality_cmp_total)
    (on_total (λ (a : Announcement). a.grandmaster.id) nat_cmp_total)

ends_cmp_total : IsTotalOrder ends_cmp
ends_cmp_total =
    then_total (on_total (λ (a : Announcement). a.sender) port_cmp_total)
    (on_total (λ (a : Announcement). a.receiver.port) nat_cmp_total)

pub rank_cmp_total : IsTotalOrder rank_cmp
rank_cmp_total = then_total master_cmp_total (then_total (on_total (λ (a : Announcement). a.steps) nat_cmp_total) ends_cmp_total)

-- ---- what an answer of a comparison says
nat_cmp_less : (m n : ℕ) → m < n → nat_cmp m n ≡ Less
nat_cmp_less m n l = ap (λ b. cond b Less (cond (eqb m n) Equal Greater)) (lt-ltb m n l)

nat_cmp_greater : (m n : ℕ) → n < m → nat_cmp m n ≡ Greater
nat_cmp_greater m n l =
    let le : n ≤ m = omega arith in
    let ne : m ≡ n → ⊥ = λ e. omega arith in
    ap (λ b. cond b Less (cond (eqb m n) Equal Greater)) (le-ltb m n le) ∙ ap (λ b. cond b Equal Greater) (ne_eqb m n ne)

pub nat_cmp_same : (m n : ℕ) → nat_cmp m n ≡ Equal → m ≡ n
nat_cmp_same m n e = subst (λ o. MatchOrdering o (m < n) (m ≡ n) (n < m)) e (ranked m n (nat_cmp m n) refl)

nat_cmp_itself : (m : ℕ) → nat_cmp m m ≡ Equal
nat_cmp_itself m = tied_itself nat_cmp_total m

pub both_equal : (x y : Ordering) → ordering_then x y ≡ Equal → (x ≡ Equal) × (y ≡ Equal)
both_equal Less y e = cc
both_equal Equal y e = (refl, e)
both_equal Greater y e = cc

pub port_from_parts : (p q : PortId) → p.clock.id ≡ q.clock.id → p.port ≡ q.port → p ≡ q
port_from_parts p q clocks ports =
    ap (λ (id : ℕ). let made : PortId = record { clock = record { id = id }; port = p.port } in made) clocks
    ∙ ap (λ (n : ℕ). let made : PortId = record { clock = q.clock; port = n } in made) ports

pub same_port : (p q : PortId) → port_cmp p q ≡ Equal → p ≡ q
same_port p q e =
    let parts = both_equal (nat_cmp p.clock.id q.clock.id) (nat_cmp p.port q.port) e in
    let clocks = nat_cmp_same p.clock.id q.clock.id parts.0 in
    let ports = nat_cmp_same p.port q.port parts.1 in
    port_from_parts p q clocks ports

-- ports of different clocks differ
ports_differ : (p q : PortId) → p.clock ≢ q.clock → port_cmp p q ≢ Equal
ports_differ p q ne e = ne (ap (λ (r : PortId). r.clock) (same_port p q e))

-- ---- one grandmaster
lt_path : (l : Bool) (o : Ordering) → o ≢ Equal → is_a_winner (cond l ABetter (a_is_nearer o)) ≡ true
lt_path true o ne = refl
lt_path false Less ne = refl
lt_path false Equal ne = absurd (ne refl)
lt_path false Greater ne = refl

gt_path : (l : Bool) (o : Ordering) → is_a_winner (cond l BBetter (b_is_nearer o)) ≡ false
gt_path true o = refl
gt_path false Less = refl
gt_path false Equal = refl
gt_path false Greater = refl

nearer_is_lt : (o : Ordering) → is_a_winner (lower_is_nearer o) ≡ is_lt o
nearer_is_lt Less = refl
nearer_is_lt Equal = refl
nearer_is_lt Greater = refl

-- the cases of a path, over plain numbers
abbrev steps_order : ℕ → ℕ → Ordering → Ordering → Ordering → Order
steps_order m n of_b of_a ends =
    cond (ltb (m + 1) n) ABetter
    (cond (ltb (n + 1) m) BBetter
    (cond (ltb m n) (a_is_nearer of_b)
    (cond (ltb n m) (b_is_nearer of_a) (lower_is_nearer ends))))

steps_wins : (m n : ℕ) (of_b of_a ends : Ordering) →
    of_b ≢ Equal → is_a_winner (steps_order m n of_b of_a ends) ≡ is_lt (ordering_then (nat_cmp m n) ends)
steps_wins m n of_b of_a ends ne =
    ⊎_elim
    (λ (same : m ≡ n).
    let up : n ≤ m + 1 = omega arith in
    let down : m ≤ n + 1 = omega arith in
    let ge : n ≤ m = omega arith in
    let le : m ≤ n = omega arith in
    ap is_a_winner (cond-false (ltb (m + 1) n) _ _ (le-ltb (m + 1) n up)
    ∙ cond-false (ltb (n + 1) m) _ _ (le-ltb (n + 1) m down)
    ∙ cond-false (ltb m n) _ _ (le-ltb m n ge)
    ∙ cond-false (ltb n m) _ _ (le-ltb n m le))
    ∙ nearer_is_lt ends
    ∙ ap (λ o. is_lt (ordering_then o ends)) (sym (ap (nat_cmp m) (sym same) ∙ nat_cmp_itself m)))
    (⊎_elim
    (λ (less : m < n).
    let down : m ≤ n + 1 = omega arith in
    ap (λ x. is_a_winner (cond (ltb (m + 1) n) ABetter x)) (cond-false (ltb (n + 1) m) _ _ (le-ltb (n + 1) m down)
    ∙ cond-true (ltb m n) _ _ (lt-ltb m n less))
    ∙ lt_path (ltb (m + 1) n) of_b ne
    ∙ ap (λ o. is_lt (ordering_then o ends)) (sym (nat_cmp_less m n less)))
    (λ (more : n < m).
    let up : n ≤ m + 1 = omega arith in
    let ge : n ≤ m = omega arith in
    ap is_a_winner (cond-false (ltb (m + 1) n) _ _ (le-ltb (m + 1) n up))
    ∙ ap (λ x. is_a_winner (cond (ltb (n + 1) m) BBetter x)) (cond-false (ltb m n) _ _ (le-ltb m n ge) ∙ cond-true (ltb n m) _ _ (lt-ltb n m more))
    ∙ gt_path (ltb (n + 1) m) of_a
    ∙ ap (λ o. is_lt (ordering_then o ends)) (sym (nat_cmp_greater m n more))))
    (cases_order m n)

-- ---- different grandmasters
better_is_lt : (o rest : Ordering) → o ≢ Equal → is_a_winner (lower_is_better o) ≡ is_lt (ordering_then o rest)
better_is_lt Less rest ne = refl
better_is_lt Equal rest ne = absurd (ne refl)
better_is_lt Greater rest ne = refl

same_clock : (c d : ClockId) → c.id ≡ d.id → c ≡ d
same_clock c d e = ap (λ (id : ℕ). let made : ClockId = record { id = id } in made) e

-- where equal grandmasters have equal quality and b's sender is not of its receiver's clock, to win is to rank before
pub wins_is_before : (a b : Announcement) →
    (a.grandmaster ≡ b.grandmaster → a.quality ≡ b.quality) → b.sender.clock ≢ b.receiver.clock → wins a b ≡ is_lt (rank_cmp a b)
wins_is_before a b one ne =
    ⊎_elim
    (λ (same : eqb a.grandmaster.id b.grandmaster.id ≡ true).
    let ids = eqb-true a.grandmaster.id b.grandmaster.id same in
    let qualities = one (same_clock a.grandmaster b.grandmaster ids) in
    let masters : master_cmp a b ≡ Equal =
    ap (λ (q : Quality). ordering_then (quality_cmp a.quality q) (nat_cmp a.grandmaster.id b.grandmaster.id)) (sym qualities)
    ∙ ap (λ o. ordering_then o (nat_cmp a.grandmaster.id b.grandmaster.id)) (tied_itself quality_cmp_total a.quality)
    ∙ ap (nat_cmp a.grandmaster.id) (sym ids)
    ∙ nat_cmp_itself a.grandmaster.id in
    ap is_a_winner (cond-true (eqb a.grandmaster.id b.grandmaster.id) _ _ same)
    ∙ steps_wins a.steps b.steps (port_cmp b.receiver b.sender) (port_cmp a.receiver a.sender) (ends_cmp a b)
    (ports_differ b.receiver b.sender (λ e. ne (sym e)))
    ∙ ap (λ o. is_lt (ordering_then o (path_cmp a b))) (sym masters))
    (λ (other : eqb a.grandmaster.id b.grandmaster.id ≡ false).
    let differ : master_cmp a b ≢ Equal = λ e.
    let ids = (both_equal (quality_cmp a.quality b.quality) (nat_cmp a.grandmaster.id b.grandmaster.id) e).1 in
    eqb-false a.grandmaster.id b.grandmaster.id other (nat_cmp_same a.grandmaster.id b.grandmaster.id ids) in
    ap is_a_winner (cond-false (eqb a.grandmaster.id b.grandmaster.id) _ _ other) ∙ better_is_lt (master_cmp a b) (path_cmp a b) differ)
    (cases_Bool (eqb a.grandmaster.id b.grandmaster.id))

-- ---- the winner of a pass
not_before : (x y : Announcement) → is_lt (rank_cmp x y) ≡ false → is_gt (rank_cmp y x) ≡ false
not_before x y e = ap is_gt (rank_cmp_total.antisymm y x) ∙ reversed (rank_cmp x y) e
  where
    reversed : (o : Ordering) → is_lt o ≡ false → is_gt (ordering_reverse o) ≡ false
    reversed Less e = e
    reversed Equal e = refl
    reversed Greater e = refl

before_is_not_after : (o : Ordering) → is_lt o ≡ true → is_gt o ≡ false
before_is_not_after Less e = refl
before_is_not_after Equal e = refl
before_is_not_after Greater e = sym e

-- on members to win is to rank before
abbrev RanksBefore : List Announcement → Type 0
RanksBefore all = (x y : Announcement) → Contains all x → Contains all y → wins x y ≡ is_lt (rank_cmp x y)

coherent_ranks : (all : List Announcement) → IsCoherent all → RanksBefore all
coherent_ranks all h x y in_x in_y = wins_is_before x y (h.one_quality x y in_x in_y) (h.from_others y y in_y in_y)

-- b is a member, and nobody ranks before it
record IsLeast (all xs : List Announcement) (first b : Announcement) : Type 0 where
  member : Contains all b
  upto_first : is_gt (rank_cmp b first) ≡ false
  upto_rest : AllByRecursion (λ a. is_gt (rank_cmp b a) ≡ false) xs

least : (all : List Announcement) → RanksBefore all → (xs : List Announcement) (first b : Announcement) →
    Contains all first → AllByRecursion (Contains all) xs → fold better (Some first) xs ≡ Some b → IsLeast all xs first b
least all ranks [] first b here members e =
    let same = same_Some first b e in
    record {
      member = subst (Contains all) same here;
      upto_first = subst (λ (x : Announcement). is_gt (rank_cmp x first) ≡ false) same (ap is_gt (tied_itself rank_cmp_total first));
      upto_rest = tt;
    }
least all ranks (x ∷ xs) first b here members e =
    ⊎_elim
    (λ (yes : wins x first ≡ true).
    let rest = least all ranks xs x b members.0 members.1 (ap (λ t. fold better (cond t (Some x) (Some first)) xs) (sym yes) ∙ e) in
    let before = before_is_not_after (rank_cmp x first) (sym (ranks x first members.0 here) ∙ yes) in
    record {
      member = rest.member;
      upto_first = upto rank_cmp_total b x first rest.upto_first before;
      upto_rest = (rest.upto_first, rest.upto_rest);
    })
    (λ (no : wins x first ≡ false).
    let rest = least all ranks xs first b here members.1 (ap (λ t. fold better (cond t (Some x) (Some first)) xs) (sym no) ∙ e) in
    let before = not_before x first (sym (ranks x first members.0 here) ∙ no) in
    record {
      member = rest.member;
      upto_first = rest.upto_first;
      upto_rest = (upto rank_cmp_total b first x rest.upto_first before, rest.upto_rest);
    })
    (cases_Bool (wins x first))

-- every member ranks after the best, or ties with it
best_upto : (all : List Announcement) (b : Announcement) → RanksBefore all → winner all ≡ Some b → All (λ a. is_gt (rank_cmp b a) ≡ false) all
best_upto [] b ranks e = absurd cc
best_upto (x ∷ xs) b ranks e =
    let members = recursion_from_All (Contains (x ∷ xs)) (x ∷ xs) (All-contains_itself (x ∷ xs)) in
    let found = least (x ∷ xs) ranks xs x b members.0 members.1 e in
    All-from_recursion (λ a. is_gt (rank_cmp b a) ≡ false) (x ∷ xs) (found.upto_first, found.upto_rest)

less_or_equal : (o : Ordering) → is_gt o ≡ false → (o ≡ Equal → ⊥) → is_lt o ≡ true
less_or_equal Less e ne = refl
less_or_equal Equal e ne = absurd (ne refl)
less_or_equal Greater e ne = sym e

-- members that tie are one
one_from_tie : (all : List Announcement) (a b : Announcement) → IsCoherent all → Contains all a → Contains all b → rank_cmp a b ≡ Equal → a ≡ b
one_from_tie all a b h in_a in_b e =
    let path = (both_equal (master_cmp a b) (path_cmp a b) e).1 in
    let ends = (both_equal (nat_cmp a.steps b.steps) (ends_cmp a b) path).1 in
    let parts = both_equal (port_cmp a.sender b.sender) (nat_cmp a.receiver.port b.receiver.port) ends in
    let senders = same_port a.sender b.sender parts.0 in
    let numbers = nat_cmp_same a.receiver.port b.receiver.port parts.1 in
    let receivers : a.receiver ≡ b.receiver =
    port_from_parts a.receiver b.receiver (ap (λ (c : ClockId). c.id) (h.one_receiver a b in_a in_b)) numbers in
    h.told_apart a b in_a in_b senders receivers

-- ---- the best is a member
passed_member : (all xs : List Announcement) (first b : Announcement) →
    Contains all first → AllByRecursion (Contains all) xs → fold better (Some first) xs ≡ Some b → Contains all b
passed_member all [] first b here members e = subst (Contains all) (same_Some first b e) here
passed_member all (x ∷ xs) first b here members e =
    ⊎_elim
    (λ (yes : wins x first ≡ true). passed_member all xs x b members.0 members.1 (ap (λ t. fold better (cond t (Some x) (Some first)) xs) (sym yes) ∙ e))
    (λ (no : wins x first ≡ false). passed_member all xs first b here members.1 (ap (λ t. fold better (cond t (Some x) (Some first)) xs) (sym no) ∙ e))
    (cases_Bool (wins x first))

pub best_is_member : BestIsMember
best_is_member [] b e = absurd cc
best_is_member (x ∷ xs) b e =
    let members = recursion_from_All (Contains (x ∷ xs)) (x ∷ xs) (All-contains_itself (x ∷ xs)) in
    passed_member (x ∷ xs) xs x b members.0 members.1 e

pub best_wins : BestWins
best_wins all b a h e in_a other =
    let in_b = best_is_member all b e in
    let ranks = coherent_ranks all h in
    let upto_a = All-contains (λ (x : Announcement). is_gt (rank_cmp b x) ≡ false) all a (best_upto all b ranks e) in_a in
    ranks b a in_b in_a ∙ less_or_equal (rank_cmp b a) upto_a (λ tie. other (sym (one_from_tie all b a h in_b in_a tie)))

-- ---- there is one where there is a member
passed_some : (xs : List Announcement) (first : Announcement) → fold better (Some first) xs ≡ None → ⊥
passed_some [] first e = cc
passed_some (x ∷ xs) first e =
    ⊎_elim
    (λ (yes : wins x first ≡ true). passed_some xs x (ap (λ t. fold better (cond t (Some x) (Some first)) xs) (sym yes) ∙ e))
    (λ (no : wins x first ≡ false). passed_some xs first (ap (λ t. fold better (cond t (Some x) (Some first)) xs) (sym no) ∙ e))
    (cases_Bool (wins x first))

pub no_best_of_none : NoBestOfNone
no_best_of_none [] = ((λ e. refl), (λ e. refl))
no_best_of_none (x ∷ xs) = ((λ e. absurd (passed_some xs x e)), (λ e. absurd (omega arith)))
