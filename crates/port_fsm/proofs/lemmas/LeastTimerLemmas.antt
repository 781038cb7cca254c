-- The first of the least elements of a list is one of them, and no element is less.
use Rattle.std.proofs.Common.{◌≡◌, ◌≤◌, ℕ, true, false, cond, List, [], ◌∷◌, Option, Some, None, refl, subst, sym, arith, inl, inr, ⊎_elim}
use Rattle.std.specs.Prelude.{IfSome, nat_lt, fold}
use Rattle.std.proofs.lemmas.Grind.{common_steps}
use Rattle.ptp_base.specs.Least.{lesser}
use Rattle.ptp_profile.proofs.lemmas.MemberLemmas.{Has}

keeps : {X : Type 0} (key : X → ℕ) (P : X → Type 0) (first : Option X) (x : X) → IfSome first P → P x → IfSome (lesser key first x) P
keeps key P None x h p = p
keeps key P (Some f) x h p = elim (nat_lt (key x) (key f)) as (λ b. IfSome (cond b (Some x) (Some f)) P) [ true ↦ p | false ↦ h ]

-- what holds of the first so far and of all elements holds of the least
pub least_is : {X : Type 0} (key : X → ℕ) (P : X → Type 0) (first : Option X) (xs : List X)
    → IfSome first P → ((x : X) → Has xs x → P x) → IfSome (fold (lesser key) first xs) P
least_is key P first [] h all = h
least_is key P first (x ∷ xs) h all =
    least_is key P (lesser key first x) xs (keeps key P first x h (all x (inl refl))) (λ y has. all y (inr has))

-- there is one, of no greater key
abbrev pub IsBy : {X : Type 0} → (X → ℕ) → ℕ → Option X → Type 0
IsBy key m None = ⊥
IsBy key m (Some x) = key x ≤ m

by_first : {X : Type 0} (key : X → ℕ) (m : ℕ) (first : Option X) (x : X) → IsBy key m first → IsBy key m (lesser key first x)
by_first key m None x h = absurd h
by_first key m (Some f) x h = grind (arith, common_steps)

by_itself : {X : Type 0} (key : X → ℕ) (m : ℕ) (first : Option X) (x : X) → key x ≤ m → IsBy key m (lesser key first x)
by_itself key m None x h = h
by_itself key m (Some f) x h = grind (arith, common_steps)

least_by : {X : Type 0} (key : X → ℕ) (m : ℕ) (first : Option X) (xs : List X) → IsBy key m first → IsBy key m (fold (lesser key) first xs)
least_by key m first [] h = h
least_by key m first (x ∷ xs) h = least_by key m (lesser key first x) xs (by_first key m first x h)

-- no element's key is less than that of the least
pub least_of_all : {X : Type 0} (key : X → ℕ) (m : ℕ) (first : Option X) (xs : List X) (x : X) → Has xs x → key x ≤ m
    → IsBy key m (fold (lesser key) first xs)
least_of_all key m first [] x has le = absurd has
least_of_all {X} key m first (y ∷ xs) x has le =
    ⊎_elim
    (λ (e : y ≡ x). least_by key m (lesser key first y) xs (by_itself key m first y (subst (λ (z : X). key z ≤ m) (sym e) le)))
    (λ later. least_of_all key m (lesser key first y) xs x later le)
    has
