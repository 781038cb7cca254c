-- What the kept pass, or a new one, answers of the kept Announces.
use Rattle.std.proofs.Common.{◌≡◌, ℕ, ◌-◌, ◌≤◌, ◌+◌, true, false, List, [], ◌∷◌, length, map, sym, ap, subst, ◌∙◌, arith, ◌⊎◌, ⊎_elim, inl, inr, eqb}
use Rattle.std.proofs.lemmas.Bool.{eqb-true}
use Rattle.std.proofs.lemmas.List.{length-map}
use Rattle.std.proofs.lemmas.List.Elements.{All-head, All-cons}
use Rattle.ptp_base.specs.declared.limits.TheConstants.{SENDERS_MAX}
use Rattle.ptp_profile.specs.declared.foreign_master.KeptAnnounce.{KeptAnnounce}
use Rattle.ptp_profile.specs.Best.ForeignMasters.{qualified, winner, erbest}
use Rattle.foreign_master.specs.declared.foreign_master.ForeignMaster.{ForeignMaster}
use Rattle.foreign_master.specs.declared.pass.Pass.{Pass}
use Rattle.foreign_master.specs.ForeignMasterTable.{is_within, qualified_of, AreRising, IsReached, MastersRepresent}
use Rattle.foreign_master.specs.RecordsView.{RecordsView, RecordsRepresent, IsPassOver, last_moment}
use Rattle.foreign_master.specs.SettledRecords.{is_settled}
use Rattle.foreign_master.proofs.lemmas.QualifiedLemmas.{said_is_qualified}
use Rattle.foreign_master.proofs.lemmas.SettledLemmas.{stays, none_settled, few_qualified, or_parts}

last_reached : (at : ℕ) (kept : List KeptAnnounce) → IsReached at kept → last_moment kept ≤ at
last_reached at [] reached = omega arith
last_reached at (h ∷ kept) reached = All-head (λ (g : KeptAnnounce). g.at ≤ at) h kept reached

heard_reached : (at : ℕ) (r : RecordsView) (kept : List KeptAnnounce) → RecordsRepresent r kept → IsReached at kept → r.heard ≤ at
heard_reached at r kept keeps reached = subst (λ n. n ≤ at) (sym keeps.heard) (last_reached at kept reached)

-- a pass gives the best at its moment
pub best_passed : (r : RecordsView) (at : ℕ) (kept : List KeptAnnounce) (xs : List ForeignMaster) (pass : Pass) →
    RecordsRepresent r kept → IsReached at kept → AreRising xs → xs ≡ r.masters → IsPassOver r.window at xs pass → pass.winner ≡ erbest r.window at kept
best_passed r at kept xs pass keeps reached up same found =
    found.winner ∙ ap winner (said_is_qualified r.window at xs kept up (subst (λ (l : List ForeignMaster). MastersRepresent r.window l kept) (sym same) keeps.masters) reached)

-- and the kept one does while its oldest is within the window
pub best_kept : (r : RecordsView) (at : ℕ) (kept : List KeptAnnounce) (xs : List ForeignMaster) (pass : Pass) →
    RecordsRepresent r kept → IsReached at kept → AreRising xs → xs ≡ r.masters → IsPassOver r.window r.heard r.masters pass →
    is_within r.window at pass.oldest ≡ true → pass.winner ≡ erbest r.window at kept
best_kept r at kept xs pass keeps reached up same found within =
    let rising = subst AreRising same up in
    let stay = stays r.window r.heard at r.masters (heard_reached at r kept keeps reached) (ap (is_within r.window at) (sym found.oldest) ∙ within) in
    found.winner ∙ sym (ap (λ (l : List ForeignMaster). winner (map (λ (p : ForeignMaster). p.said) l)) stay)
    ∙ ap winner (said_is_qualified r.window at r.masters kept rising keeps.masters reached)

-- ---- how many qualify
long : (w m : ℕ) (xs : List ForeignMaster) (kept : List KeptAnnounce) → AreRising xs → MastersRepresent w xs kept → IsReached m kept → length (qualified w m kept) ≡ length (qualified_of w m xs)
long w m xs kept up tells reached =
    sym (ap length (said_is_qualified w m xs kept up tells reached)) ∙ length-map (qualified_of w m xs) (λ (p : ForeignMaster). p.said)

settled_masters : (r : RecordsView) (at : ℕ) (kept : List KeptAnnounce) → RecordsRepresent r kept → IsReached at kept → AreRising r.masters → is_settled r.window at kept ≡ true →
    (length (qualified_of r.window at r.masters) ≡ 0) ⊎ (length (qualified_of r.window at r.masters) ≡ length (qualified_of r.window r.heard r.masters))
settled_masters r at [] keeps reached up settled = inl (sym (long r.window at r.masters [] up keeps.masters reached))
settled_masters r at (h ∷ kept) keeps reached up settled =
    let now = long r.window at r.masters (h ∷ kept) up keeps.masters reached in
    let then = subst (λ m. length (qualified r.window m (h ∷ kept)) ≡ length (qualified_of r.window r.heard r.masters)) keeps.heard (long r.window r.heard r.masters (h ∷ kept) up keeps.masters keeps.latest) in
    ⊎_elim
    (λ (none : eqb (length (qualified r.window at (h ∷ kept))) 0 ≡ true). inl (sym now ∙ eqb-true _ _ none))
    (λ (same : eqb (length (qualified r.window at (h ∷ kept))) (length (qualified r.window h.at (h ∷ kept))) ≡ true). inr (sym now ∙ eqb-true _ _ same ∙ then))
    (or_parts _ _ settled)

-- a new pass compares nothing where the records are settled
pub nothing_compared : (r : RecordsView) (at s t : ℕ) (kept : List KeptAnnounce) (xs : List ForeignMaster) (pass : Pass) →
    RecordsRepresent r kept → IsReached at kept → AreRising xs → xs ≡ r.masters → IsPassOver r.window r.heard r.masters pass →
    is_within r.window at pass.oldest ≡ false → t ≡ s + (length (qualified_of r.window at xs) - 1) → is_settled r.window at kept ≡ true → t ≡ s
nothing_compared r at s t kept xs pass keeps reached up same found left counted settled =
    let rising = subst AreRising same up in
    let none = none_settled r.window r.heard at r.masters (heard_reached at r kept keeps reached) (ap (is_within r.window at) (sym found.oldest) ∙ left) (settled_masters r at kept keeps reached rising settled) in
    let is : length (qualified_of r.window at xs) ≡ 0 = ap (λ (l : List ForeignMaster). length (qualified_of r.window at l)) same ∙ none in
    omega (arith, counted, is)

pub few_compared : (w at s t : ℕ) (xs : List ForeignMaster) → length xs ≤ SENDERS_MAX → t ≡ s + (length (qualified_of w at xs) - 1) → t ≤ s + 15
few_compared w at s t xs few counted = omega (arith, counted, few_qualified w at xs few)

-- ---- an Announce that is kept
pub represent_more : (w at : ℕ) (h : KeptAnnounce) (r : RecordsView) (kept : List KeptAnnounce) →
    MastersRepresent r.window r.masters (h ∷ kept) → r.heard ≡ h.at → IsReached h.at kept → RecordsRepresent r (h ∷ kept)
represent_more w at h r kept tells heard reached = record {
  masters = tells;
  heard = heard;
  latest = subst (λ m. IsReached m (h ∷ kept)) (sym heard) (All-cons (λ (g : KeptAnnounce). g.at ≤ h.at) h kept (omega arith) reached);
}
