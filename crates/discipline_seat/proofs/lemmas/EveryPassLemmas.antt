-- So many different numbers below a count are all of them.
use Rattle.std.proofs.Common.{◌≡◌, ◌≢◌, ℕ, zero, suc, ◌<◌, ◌≤◌, ◌⊎◌, inl, inr, ⊎_elim, List, [], ◌∷◌, ◌++◌, length, refl, sym, ap, ◌∙◌, subst, arith}
use native.Mathlib.Decide.{ℕ_discrete}
use mathlib.Core.Logic.{dite}
use Rattle.discipline_seat.specs.Rule.SeatView.{AreDistinct, IsAmong}

among_or_not : (m : ℕ) (l : List ℕ) → IsAmong m l ⊎ ¬ (IsAmong m l)
among_or_not m [] = inr (λ h. h)
among_or_not m (x ∷ xs) = dite (ℕ_discrete x m)
    (λ is. inl (inl is))
    (λ other. ⊎_elim (λ h. inl (inr h)) (λ n. inr (λ h. ⊎_elim other n h)) (among_or_not m xs))

-- the list without a number that it has once
record Removed (n : ℕ) (l : List ℕ) : Type 0 where
  rest : List ℕ
  long : length l ≡ suc (length rest)
  among : (m : ℕ) → IsAmong m rest → IsAmong m l
  other : (m : ℕ) → IsAmong m rest → m ≢ n
  distinct : AreDistinct rest

removed : (n : ℕ) (l : List ℕ) → AreDistinct l → IsAmong n l → Removed n l
removed n [] d has = absurd has
removed n (x ∷ xs) d has = dite (ℕ_discrete x n)
    (λ is. record { rest = xs; long = refl; among = λ m h. inr h; other = λ m h e. d.0 (subst (λ (y : ℕ). IsAmong y xs) (e ∙ sym is) h); distinct = d.1 })
    (λ differs.
    let r = removed n xs d.1 (⊎_elim (λ is. absurd (differs is)) (λ h. h) has) in
    record {
      rest = x ∷ r.rest;
      long = ap suc r.long;
      among = λ m h. ⊎_elim (λ e. inl e) (λ k. inr (r.among m k)) h;
      other = λ m h e. ⊎_elim (λ is. differs (is ∙ e)) (λ k. r.other m k e) h;
      distinct = ((λ h. d.0 (r.among x h)), r.distinct);
    })

-- different numbers below n are at most n
few_below : (n : ℕ) (l : List ℕ) → AreDistinct l → ((m : ℕ) → IsAmong m l → m < n) → length l ≤ n
few_below zero [] d below = omega arith
few_below zero (x ∷ xs) d below = absurd (let h = below x (inl refl) in omega (arith, h))
few_below (suc n) l d below = ⊎_elim
    (λ has.
    let r = removed n l d has in
    let h = few_below n r.rest r.distinct (λ m k. let lt = below m (r.among m k) in let o = r.other m k in omega (arith, lt, o)) in
    omega (arith, h, r.long))
    (λ none.
    let h = few_below n l d (λ m k. let lt = below m k in let o : m ≢ n = (λ e. none (subst (λ (y : ℕ). IsAmong y l) e k)) in omega (arith, lt, o)) in
    omega (arith, h))
    (among_or_not n l)

-- and so many are all
pub all_below : (n : ℕ) (l : List ℕ) → AreDistinct l → ((m : ℕ) → IsAmong m l → m < n) → length l ≡ n → (m : ℕ) → m < n → IsAmong m l
all_below n l d below long m lt = ⊎_elim (λ has. has)
    (λ none. absurd (let h = few_below n (m ∷ l) (none, d) (λ k has. ⊎_elim (λ is. subst (λ (y : ℕ). y < n) is lt) (below k) has) in omega (arith, h, long)))
    (among_or_not m l)

pub among_first : (m : ℕ) (a b : List ℕ) → IsAmong m a → IsAmong m (a ++ b)
among_first m [] b has = absurd has
among_first m (x ∷ xs) b has = ⊎_elim (λ e. inl e) (λ h. inr (among_first m xs b h)) has

pub distinct_first : (a b : List ℕ) → AreDistinct (a ++ b) → AreDistinct a
distinct_first [] b d = tt
distinct_first (x ∷ xs) b d = ((λ h. d.0 (among_first x xs b h)), distinct_first xs b d.1)
