-- The masters go on to tell what counts of the kept Announces.
use Rattle.std.proofs.Common.{◌≡◌, ◌≢◌, ℕ, ◌<◌, ◌≤◌, true, false, List, ◌∷◌, length, get_or, set, Some, None, sym, ap, subst, ◌∙◌, arith, ⊎_elim}
use Rattle.std.specs.List.{insert, remove, position_or_len, find}
use Rattle.std.proofs.lemmas.List.{get_or_default}
use Rattle.std.proofs.lemmas.List.Sums.{passes_at_first}
use Rattle.std.proofs.lemmas.List.Folds.{find-set, find_past}
use Rattle.std.proofs.lemmas.List.Elements.{All-head, All-tail}
use Rattle.std.proofs.lemmas.Bool.{cases_Bool, cases_lt, false_from_ne_true, both_ways}
use Rattle.ptp_base.specs.declared.limits.TheConstants.{SENDERS_MAX}
use Rattle.ptp_base.specs.declared.identity.PortId.{PortId}
use Rattle.ptp_profile.specs.declared.foreign_master.KeptAnnounce.{KeptAnnounce}
use Rattle.ptp_profile.specs.Best.PortIdentity.{is_same_port}
use Rattle.ptp_profile.specs.Best.ForeignMasters.{is_from}
use Rattle.foreign_master.specs.declared.foreign_master.ForeignMaster.{ForeignMaster}
use Rattle.foreign_master.specs.ForeignMasterTable.{is_of, master_of, is_present, next_master, IsReached, MasterRepresents, MastersRepresent}
use Rattle.foreign_master.proofs.lemmas.PortOrderLemmas.{same_from_is_same_port, is_same_port-refl}
use Rattle.foreign_master.proofs.lemmas.RisingLemmas.{AreApart}
use Rattle.foreign_master.proofs.lemmas.ForeignMasterTableLemmas.{MasterRepresents-other, MasterRepresents-left, MasterRepresents-more}
use Rattle.foreign_master.proofs.lemmas.SearchAfterWriteLemmas.{find_only, find_inserted, find_inserted_past, find_removed, find_removed_past}

-- they stand for the kept Announces, each sender has one at most, and they are few
pub record Keeps (w : ℕ) (masters : List ForeignMaster) (kept : List KeptAnnounce) : Type 0 where
  pub few : length masters ≤ SENDERS_MAX
  pub apart : AreApart masters
  pub tells : MastersRepresent w masters kept

-- they do from a moment on
abbrev pub TellFrom : ℕ → ℕ → List ForeignMaster → List KeptAnnounce → Type 0
TellFrom at w masters kept = (sender : PortId) (m : ℕ) → at ≤ m → IsReached m kept → MasterRepresents w m kept sender (master_of sender masters)

same_sender : (p q t : PortId) → is_same_port p t ≡ true → is_same_port q t ≡ true → is_same_port p q ≡ true
same_sender p q t a b = subst (λ (x : PortId). is_same_port p x ≡ true) (sym (same_from_is_same_port q t b)) a

-- the other masters are of other senders
pub others : (xs : List ForeignMaster) (i : ℕ) (d : ForeignMaster) (t : PortId) → AreApart xs → i < length xs → is_of t (get_or xs i d) ≡ true → (k : ℕ) (e : ForeignMaster) → k < length xs → k ≢ i → is_of t (get_or xs k e) ≡ false
others xs i d t apart l here k e m ne =
    false_from_ne_true _ (λ his.
    let own : is_of t (get_or xs k d) ≡ true = subst (λ (p : ForeignMaster). is_of t p ≡ true) (get_or_default xs k e d m) his in
    ⊎_elim
    (λ (lt : k < i). both_ways _ (apart k i d lt l) (same_sender _ _ t own here))
    (λ (le : i ≤ k). both_ways _ (apart i k d (omega arith) m) (same_sender _ _ t here own))
    (cases_lt k i))

pub MastersRepresent-put : (w : ℕ) (xs : List ForeignMaster) (kept : List KeptAnnounce) (h : KeptAnnounce) (i : ℕ) (d : ForeignMaster) → Keeps w xs kept → IsReached h.at kept → i ≡ position_or_len (is_of h.said.sender) xs → i < length xs → MastersRepresent w (set xs i (next_master h (Some (get_or xs i d)))) (h ∷ kept)
MastersRepresent-put w xs kept h i d keeps reached first l t m later =
    let y = next_master h (Some (get_or xs i d)) in
    let here : is_of h.said.sender (get_or xs i d) ≡ true = subst (λ (j : ℕ). is_of h.said.sender (get_or xs j d) ≡ true) (sym first) (passes_at_first (is_of h.said.sender) xs d (subst (λ (j : ℕ). j < length xs) first l)) in
    let own = others xs i d h.said.sender keeps.apart l here in
    let at_most = All-head (λ (g : KeptAnnounce). g.at ≤ m) h kept later in
    let before = All-tail (λ (g : KeptAnnounce). g.at ≤ m) h kept later in
    ⊎_elim
    (λ (same : is_from t h ≡ true).
    let e = same_from_is_same_port _ _ same in
    subst (λ (s : PortId). MasterRepresents w m (h ∷ kept) s (master_of s (set xs i y))) e
    (subst (MasterRepresents w m (h ∷ kept) h.said.sender) (sym (find-set (is_of h.said.sender) xs i y first l (is_same_port-refl h.said.sender)))
    (MasterRepresents-more w m h.said.sender h kept (Some (get_or xs i d)) (is_same_port-refl h.said.sender) at_most reached
    (subst (MasterRepresents w m kept h.said.sender) (find_only (is_of h.said.sender) xs i d l here own) (keeps.tells h.said.sender m before)))))
    (λ (other : is_from t h ≡ false).
    let e = same_from_is_same_port _ _ here in
    let there : is_of t (get_or xs i d) ≡ false = ap (λ (s : PortId). is_same_port s t) e ∙ other in
    subst (MasterRepresents w m (h ∷ kept) t) (sym (find_past (is_of t) xs i y d there other))
    (MasterRepresents-other w m t h kept _ other (keeps.tells t m before)))
    (cases_Bool (is_from t h))

-- one less, that left the window
pub TellFrom-remove : (w at : ℕ) (xs : List ForeignMaster) (kept : List KeptAnnounce) (j : ℕ) (d : ForeignMaster) → Keeps w xs kept → j < length xs → is_present w at (get_or xs j d) ≡ false → TellFrom at w (remove xs j) kept
TellFrom-remove w at xs kept j d keeps l left t m later reached =
    ⊎_elim
    (λ (his : is_of t (get_or xs j d) ≡ true).
    let rest = others xs j d t keeps.apart l his in
    subst (MasterRepresents w m kept t) (sym (find_removed (is_of t) xs j l rest))
    (MasterRepresents-left w m at t kept (get_or xs j d) later left (subst (MasterRepresents w m kept t) (find_only (is_of t) xs j d l his rest) (keeps.tells t m reached))))
    (λ (there : is_of t (get_or xs j d) ≡ false).
    subst (MasterRepresents w m kept t) (sym (find_removed_past (is_of t) xs j d l there)) (keeps.tells t m reached))
    (cases_Bool (is_of t (get_or xs j d)))

-- one more, of a new sender
pub MastersRepresent-insert : (w : ℕ) (xs : List ForeignMaster) (kept : List KeptAnnounce) (h : KeptAnnounce) (n : ℕ) → TellFrom h.at w xs kept → IsReached h.at kept → find (is_of h.said.sender) xs ≡ None → MastersRepresent w (insert xs n (next_master h None)) (h ∷ kept)
MastersRepresent-insert w xs kept h n tells reached none t m later =
    let y = next_master h None in
    let at_most = All-head (λ (g : KeptAnnounce). g.at ≤ m) h kept later in
    let before = All-tail (λ (g : KeptAnnounce). g.at ≤ m) h kept later in
    ⊎_elim
    (λ (same : is_from t h ≡ true).
    let e = same_from_is_same_port _ _ same in
    subst (λ (s : PortId). MasterRepresents w m (h ∷ kept) s (master_of s (insert xs n y))) e
    (subst (MasterRepresents w m (h ∷ kept) h.said.sender) (sym (find_inserted (is_of h.said.sender) xs n y (is_same_port-refl h.said.sender) none))
    (MasterRepresents-more w m h.said.sender h kept None (is_same_port-refl h.said.sender) at_most reached
    (subst (MasterRepresents w m kept h.said.sender) none (tells h.said.sender m at_most before)))))
    (λ (other : is_from t h ≡ false).
    subst (MasterRepresents w m (h ∷ kept) t) (sym (find_inserted_past (is_of t) xs n y other))
    (MasterRepresents-other w m t h kept _ other (tells t m at_most before)))
    (cases_Bool (is_from t h))
