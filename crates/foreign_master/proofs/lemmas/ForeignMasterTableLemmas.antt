-- What a foreign master says of the kept Announces, after one more.
use Rattle.std.proofs.Common.{◌≡◌, ℕ, ◌+◌, ◌≤◌, Bool, true, false, cond, ◌&&◌, leb, ltb, List, [], ◌∷◌, Option, Some, None, refl, ap, subst, ◌∙◌, arith}
use Rattle.std.specs.List.{find}
use Rattle.std.proofs.lemmas.Bool.{le-ltb, ltb-false, le-leb, leb-false}
use Rattle.std.proofs.lemmas.Bool.Decides.{nat_tests}
use Rattle.std.proofs.lemmas.List.Sums.{sum_by-cons}
use Rattle.std.proofs.lemmas.List.Elements.{All-head, All-tail}
use Rattle.std.proofs.lemmas.Option.{same_Some}
use Rattle.ptp_base.specs.declared.identity.PortId.{PortId}
use Rattle.ptp_profile.specs.declared.foreign_master.KeptAnnounce.{KeptAnnounce}
use Rattle.ptp_profile.specs.Best.ForeignMasters.{is_from, is_in_window, count_from}
use Rattle.foreign_master.specs.declared.foreign_master.ForeignMaster.{ForeignMaster}
use Rattle.foreign_master.specs.ForeignMasterTable.{is_present, IsReached, IsMasterOf, MasterRepresents, next_master}

-- one more of another sender
pub count_from-other : (w m : ℕ) (s : PortId) (h : KeptAnnounce) (kept : List KeptAnnounce) → is_from s h ≡ false → count_from w m s (h ∷ kept) ≡ count_from w m s kept
count_from-other w m s h kept other =
    let e : count_from w m s (h ∷ kept) ≡ cond {A = ℕ} (is_from s h && is_in_window w m h) 1 0 + count_from w m s kept = sum_by-cons _ h kept in
    let z : cond {A = ℕ} (is_from s h && is_in_window w m h) 1 0 ≡ 0 = rw other refl in
    omega (arith, e, z)

-- one more of the sender
tested : (x y z : Bool) → x ≡ true → z ≡ true → cond {A = ℕ} (x && (y && z)) 1 0 ≡ cond {A = ℕ} y 1 0
tested x true z p q = rw (p, q) refl
tested x false z p q = rw p refl

pub count_from-same : (w m : ℕ) (s : PortId) (h : KeptAnnounce) (kept : List KeptAnnounce) → is_from s h ≡ true → h.at ≤ m → count_from w m s (h ∷ kept) ≡ cond {A = ℕ} (ltb m (h.at + w)) 1 0 + count_from w m s kept
count_from-same w m s h kept same reached =
    let e : count_from w m s (h ∷ kept) ≡ cond {A = ℕ} (is_from s h && is_in_window w m h) 1 0 + count_from w m s kept = sum_by-cons _ h kept in
    e ∙ ap (λ x. x + count_from w m s kept) (tested _ (ltb m (h.at + w)) (leb h.at m) same (le-leb h.at m reached))

pub MasterRepresents-other : (w m : ℕ) (s : PortId) (h : KeptAnnounce) (kept : List KeptAnnounce) (o : Option ForeignMaster) → is_from s h ≡ false → MasterRepresents w m kept s o → MasterRepresents w m (h ∷ kept) s o
MasterRepresents-other w m s h kept None other t = count_from-other w m s h kept other ∙ t
MasterRepresents-other w m s h kept (Some p) other t = record {
  present = ap (leb 1) (count_from-other w m s h kept other) ∙ t.present;
  qualified = ap (leb 2) (count_from-other w m s h kept other) ∙ t.qualified;
  latest = ap (λ b. cond b (Some h) (find (is_from s) kept)) other ∙ t.latest;
}

-- a sender that left the window needs no foreign master
pub MasterRepresents-left : (w m at : ℕ) (s : PortId) (kept : List KeptAnnounce) (p : ForeignMaster) → at ≤ m → is_present w at p ≡ false → IsMasterOf w m kept s p → count_from w m s kept ≡ 0
MasterRepresents-left w m at s kept p later left t =
    let past : p.last + w ≤ at = ltb-false at (p.last + w) left in
    let none : leb 1 (count_from w m s kept) ≡ false = t.present ∙ le-ltb m (p.last + w) (omega arith) in
    let few = leb-false 1 (count_from w m s kept) none in
    omega arith

present_more : (m at w last n : ℕ) → leb 1 n ≡ ltb m (last + w) → last ≤ at → leb 1 (cond {A = ℕ} (ltb m (at + w)) 1 0 + n) ≡ ltb m (at + w)
present_more m at w last n e le = grind (arith, nat_tests)

qualified_more : (m at w last n : ℕ) → leb 1 n ≡ ltb m (last + w) → last ≤ at → leb 2 (cond {A = ℕ} (ltb m (at + w)) 1 0 + n) ≡ ltb m (last + w)
qualified_more m at w last n e le = grind (arith, nat_tests)

present_first : (m at w n : ℕ) → n ≡ 0 → leb 1 (cond {A = ℕ} (ltb m (at + w)) 1 0 + n) ≡ ltb m (at + w)
present_first m at w n e = grind (arith, nat_tests)

qualified_first : (m at w n : ℕ) → n ≡ 0 → leb 2 (cond {A = ℕ} (ltb m (at + w)) 1 0 + n) ≡ false
qualified_first m at w n e = grind (arith, nat_tests)

-- its last moment is one of the kept Announces'
found_reached : (at : ℕ) (s : PortId) (x : KeptAnnounce) (kept : List KeptAnnounce) → IsReached at kept → find (is_from s) kept ≡ Some x → x.at ≤ at
found_reached at s x [] reached e = cc
found_reached at s x (h ∷ kept) reached e =
    elim (is_from s h) as (λ b. cond b (Some h) (find (is_from s) kept) ≡ Some x → x.at ≤ at) [
      | true ↦ λ q. subst (λ (y : KeptAnnounce). y.at ≤ at) (same_Some _ _ q) (All-head (λ (y : KeptAnnounce). y.at ≤ at) h kept reached)
      | false ↦ λ q. found_reached at s x kept (All-tail (λ (y : KeptAnnounce). y.at ≤ at) h kept reached) q
    ] e

pub last-le : (w m at : ℕ) (s : PortId) (kept : List KeptAnnounce) (p : ForeignMaster) → IsReached at kept → IsMasterOf w m kept s p → p.last ≤ at
last-le w m at s kept p reached t = found_reached at s _ kept reached t.latest

pub MasterRepresents-more : (w m : ℕ) (s : PortId) (h : KeptAnnounce) (kept : List KeptAnnounce) (o : Option ForeignMaster) → is_from s h ≡ true → h.at ≤ m → IsReached h.at kept → MasterRepresents w m kept s o → IsMasterOf w m (h ∷ kept) s (next_master h o)
MasterRepresents-more w m s h kept None same later reached t = record {
  present = ap (leb 1) (count_from-same w m s h kept same later) ∙ present_first m h.at w _ t;
  qualified = ap (leb 2) (count_from-same w m s h kept same later) ∙ qualified_first m h.at w _ t;
  latest = ap (λ b. cond b (Some h) (find (is_from s) kept)) same;
}
MasterRepresents-more w m s h kept (Some p) same later reached t =
    let le = last-le w m h.at s kept p reached t in
    record {
      present = ap (leb 1) (count_from-same w m s h kept same later) ∙ present_more m h.at w p.last _ t.present le;
      qualified = ap (leb 2) (count_from-same w m s h kept same later) ∙ qualified_more m h.at w p.last _ t.present le;
      latest = ap (λ b. cond b (Some h) (find (is_from s) kept)) same;
    }
