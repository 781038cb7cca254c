-- Foreign masters in rising sender identity, after one more, one less, or another in the place of one.
use Rattle.std.proofs.Common.{◌≡◌, ℕ, ◌+◌, ◌<◌, true, false, not, cond, List, [], ◌∷◌, length, get_or, set, refl, sym, ap, subst, ◌∙◌, arith, zero, suc}
use Rattle.std.specs.Ordering.{is_lt, is_eq, ordering_reverse}
use Rattle.std.specs.declared.cmp.Ordering.TheVariants.{Less, Equal, Greater}
use Rattle.std.specs.List.{insert, remove, position_or_len, AllPairs, AllByRecursion}
use Rattle.std.specs.List.Sorted.{IsStrictlySortedBy}
use Rattle.std.proofs.lemmas.Bool.{both_ways}
use Rattle.std.proofs.lemmas.List.{length-map, get_or-map}
use Rattle.std.proofs.Math.Seq.{map-set_same}
use Rattle.std.proofs.lemmas.Map.Keys.{Less-from_sorted}
use Rattle.ptp_base.specs.declared.identity.PortId.{PortId}
use Rattle.ptp_profile.specs.Best.PortIdentity.{is_same_port, port_cmp}
use Rattle.foreign_master.specs.declared.foreign_master.ForeignMaster.{ForeignMaster}
use Rattle.foreign_master.specs.ForeignMasterTable.{is_of, is_above, senders_of, AreRising}
use Rattle.foreign_master.proofs.lemmas.PortOrderLemmas.{port_cmp_total, ties_is, all_below, is_same_port-symm, less_from}

-- no two foreign masters are of one sender
abbrev pub AreApart : List ForeignMaster → Type 0
AreApart masters =
    AllPairs (λ (p q : ForeignMaster). is_same_port p.said.sender q.said.sender ≡ false) masters

pub apart_from_rising : (xs : List ForeignMaster) → AreRising xs → AreApart xs
apart_from_rising xs up i j d lt m =
    let s = d.said.sender in
    let at : (k : ℕ) → k < length xs → get_or (senders_of xs) k s ≡ (get_or xs k d).said.sender = λ k l. get_or-map (λ (p : ForeignMaster). p.said.sender) xs k d s l in
    let less = Less-from_sorted port_cmp (senders_of xs) i j s up lt (subst (λ n. j < n) (sym (length-map xs (λ (p : ForeignMaster). p.said.sender))) m) in
    sym (ties_is (get_or xs i d).said.sender (get_or xs j d).said.sender) ∙ ap is_eq (subst (λ (q : PortId). port_cmp (get_or xs i d).said.sender q ≡ Less) (at j m) (subst (λ (p : PortId). port_cmp p (get_or (senders_of xs) j s) ≡ Less) (at i (omega (arith, lt, m))) less))

-- ---- another of the same sender
pub rising-set : (xs : List ForeignMaster) (i : ℕ) (y d : ForeignMaster) → y.said.sender ≡ (get_or xs i d).said.sender → AreRising xs → AreRising (set xs i y)
rising-set xs i y d same up = subst (IsStrictlySortedBy port_cmp) (sym (map-set_same (λ (p : ForeignMaster). p.said.sender) xs i y d same)) up

-- ---- one less
all_removed : (P : PortId → Type 0) (xs : List ForeignMaster) (j : ℕ) → AllByRecursion P (senders_of xs) → AllByRecursion P (senders_of (remove xs j))
all_removed P [] zero all = tt
all_removed P [] (suc j) all = tt
all_removed P (x ∷ xs) zero all = all.1
all_removed P (x ∷ xs) (suc j) all = (all.0, all_removed P xs j all.1)

pub rising-remove : (xs : List ForeignMaster) (j : ℕ) → AreRising xs → AreRising (remove xs j)
unfolding IsStrictlySortedBy
rising-remove [] zero up = tt
rising-remove [] (suc j) up = tt
rising-remove (x ∷ xs) zero up = up.1
rising-remove (x ∷ xs) (suc j) up = (all_removed (λ y. port_cmp x.said.sender y ≡ Less) xs j up.0, rising-remove xs j up.1)

-- ---- one more
all_inserted : (P : PortId → Type 0) (xs : List ForeignMaster) (n : ℕ) (y : ForeignMaster) → P y.said.sender → AllByRecursion P (senders_of xs) → AllByRecursion P (senders_of (insert xs n y))
all_inserted P [] zero y one all = (one, tt)
all_inserted P [] (suc n) y one all = (one, tt)
all_inserted P (x ∷ xs) zero y one all = (one, all)
all_inserted P (x ∷ xs) (suc n) y one all = (all.0, all_inserted P xs n y one all.1)

-- a sender that is not below another one, and is not it, is above
above_from : (s t : PortId) → is_lt (port_cmp s t) ≡ false → is_same_port t s ≡ false → port_cmp t s ≡ Less
above_from s t not_below other =
    elim (port_cmp s t) as (λ o. port_cmp s t ≡ o → is_lt o ≡ false → port_cmp t s ≡ Less) [
      | Less ↦ λ e no. absurd (both_ways _ no refl)
      | Equal ↦ λ e no. absurd (both_ways (is_same_port s t) (is_same_port-symm s t ∙ other) (sym (ties_is s t) ∙ ap is_eq e))
      | Greater ↦ λ e no. port_cmp_total.antisymm t s ∙ ap ordering_reverse e
    ] refl not_below

pub rising-insert : (xs : List ForeignMaster) (y : ForeignMaster) → AllByRecursion (λ (p : ForeignMaster). is_of y.said.sender p ≡ false) xs → AreRising xs → AreRising (insert xs (position_or_len (is_above y.said.sender) xs) y)
unfolding IsStrictlySortedBy
rising-insert [] y new up = (tt, tt)
rising-insert (x ∷ xs) y new up =
    elim (is_above y.said.sender x) as (λ b. is_above y.said.sender x ≡ b → AreRising (insert (x ∷ xs) (cond (not b) (1 + position_or_len (is_above y.said.sender) xs) 0) y)) [
      | true ↦ λ below. let lt = less_from (port_cmp y.said.sender x.said.sender) below in ((lt, all_below y.said.sender x.said.sender (senders_of xs) lt up.0), up)
      | false ↦ λ not_below.
          let n = position_or_len (is_above y.said.sender) xs in
          let one_more : suc n ≡ 1 + n = omega arith in
          subst (λ (k : ℕ). AreRising (insert (x ∷ xs) k y)) one_more (
            all_inserted (λ s. port_cmp x.said.sender s ≡ Less) xs n y (above_from y.said.sender x.said.sender not_below new.0) up.0,
            rising-insert xs y new.1 up.1,
          )
    ] refl
