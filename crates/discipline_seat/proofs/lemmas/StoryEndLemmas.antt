-- Stories that are ends of one another.
use Rattle.std.proofs.Common.{Bool, true, false, ltb, ◌≡◌, ◌≢◌, ℕ, zero, suc, ◌≤◌, List, [], ◌∷◌, ◌++◌, length, get_or, refl, sym, ap, ◌∙◌, subst, arith, append_assoc, length-append, ltb-true, ltb-false}
use Rattle.std.proofs.lemmas.List.{append-nil}
use Rattle.discipline_seat.specs.Rule.Story.{GrewWithoutPages, HasNoPages, Story, StoryExtends, longer_story as more, one_story as longer_story, with_story_at}

pub ends_refl : (a : Story) → StoryExtends a a
ends_refl a = record { newer = []; is = refl }

pub ends_nil : (a : Story) → StoryExtends [] a
ends_nil a = record { newer = a; is = sym (append-nil a) }

pub ends_is : (a b : Story) → a ≡ b → StoryExtends a b
ends_is a b e = record { newer = []; is = sym e }

pub ends_on : (a b c : Story) → StoryExtends a b → StoryExtends b c → StoryExtends a c
ends_on a b c p q = record { newer = q.newer ++ p.newer; is = q.is ∙ ap (λ (l : Story). q.newer ++ l) p.is ∙ sym (append_assoc q.newer p.newer a) }

pub ends_more : (xs a : Story) → StoryExtends a (xs ++ a)
ends_more xs a = record { newer = xs; is = refl }

pub ends_length : (a b : Story) → StoryExtends a b → length a ≤ length b
ends_length a b e = omega (arith, ap length e.is, length-append e.newer a)

-- an end that is as long is the same
pub ends_same : (a b : Story) → StoryExtends a b → length b ≤ length a → b ≡ a
ends_same a b e le = go e.newer e.is
  where
    go : (xs : Story) → b ≡ xs ++ a → b ≡ a
    go [] is = is
    go (x ∷ xs) is = absurd (omega (arith, ap length is, length-append (x ∷ xs) a))

pub ends_both : (a b : Story) → StoryExtends a b → StoryExtends b a → a ≡ b
ends_both a b p q = sym (ends_same a b p (ends_length b a q))

-- of two ends of one story the shorter is an end of the longer
two_ends : (xs ys a b : Story) → xs ++ a ≡ ys ++ b → length a ≤ length b → StoryExtends a b
two_ends xs [] a b e le = record { newer = xs; is = sym e }
two_ends [] (y ∷ ys) a b e le = absurd (omega (arith, ap length e, length-append (y ∷ ys) b))
two_ends (x ∷ xs) (y ∷ ys) a b e le = two_ends xs ys a b (cc (e)) le

pub ends_shorter : (a b l : Story) → StoryExtends a l → StoryExtends b l → length a ≤ length b → StoryExtends a b
ends_shorter a b l p q le = two_ends p.newer q.newer a b (sym p.is ∙ q.is) le

-- the longer of two ends of one story
pub record Longer (a b both l : Story) : Type 0 where
  pub whole : StoryExtends both l
  pub first : StoryExtends a both
  pub second : StoryExtends b both

pub longer_of : (a b l : Story) → StoryExtends a l → StoryExtends b l → Longer a b (more a b) l
longer_of a b l p q = go (ltb (length a) (length b)) refl
  where
    go : (t : Bool) → ltb (length a) (length b) ≡ t → Longer a b (longer_story t a b) l
    go true e = let lt = ltb-true (length a) (length b) e in record { whole = q; first = ends_shorter a b l p q (omega arith); second = ends_refl b }
    go false e = let le = ltb-false (length a) (length b) e in record { whole = p; first = ends_refl a; second = ends_shorter b a l q p le }

-- where one is an end of the other, the longer is the other
pub more_second : (a b : Story) → StoryExtends a b → more a b ≡ b
more_second a b p =
    let l = longer_of a b b p (ends_refl b) in
    ends_both (more a b) b l.whole l.second

pub set_at_same : (l : List Story) (m : ℕ) (x : Story) → get_or (with_story_at l m x) m [] ≡ x
set_at_same [] zero x = refl
set_at_same [] (suc m) x = set_at_same [] m x
set_at_same (y ∷ ys) zero x = refl
set_at_same (y ∷ ys) (suc m) x = set_at_same ys m x

pub set_at_other : (l : List Story) (m n : ℕ) (x : Story) → n ≢ m → get_or (with_story_at l m x) n [] ≡ get_or l n []
set_at_other [] zero zero x other = absurd (other refl)
set_at_other [] zero (suc n) x other = refl
set_at_other [] (suc m) zero x other = refl
set_at_other [] (suc m) (suc n) x other = set_at_other [] m n x (λ e. other (ap suc e))
set_at_other (y ∷ ys) zero zero x other = absurd (other refl)
set_at_other (y ∷ ys) zero (suc n) x other = refl
set_at_other (y ∷ ys) (suc m) zero x other = refl
set_at_other (y ∷ ys) (suc m) (suc n) x other = set_at_other ys m n x (λ e. other (ap suc e))

-- what follows a story that follows the told part without a page
quiet_front : (xs ys a b : Story) → xs ++ a ≡ ys ++ b → length a ≤ length b → HasNoPages xs → HasNoPages ys
quiet_front xs [] a b e le h = tt
quiet_front [] (y ∷ ys) a b e le h = absurd (omega (arith, ap length e, length-append (y ∷ ys) b))
quiet_front (x ∷ xs) (y ∷ ys) a b e le h = let heads : x ≡ y = cc (e) in (subst Rattle.discipline_seat.specs.Rule.Story.IsNoPage heads h.0, quiet_front xs ys a b (cc (e)) le h.1)

pub quiet_later : (a b l : Story) → GrewWithoutPages a l → StoryExtends a b → StoryExtends b l → GrewWithoutPages b l
quiet_later a b l p q r = record { newer = r.newer; is = r.is; free = quiet_front p.newer r.newer a b (sym p.is ∙ r.is) (ends_length a b q) p.free }

pub quiet_same : (a : Story) → GrewWithoutPages a a
quiet_same a = record { newer = []; is = refl; free = tt }

no_pages : (xs ys : Story) → HasNoPages xs → HasNoPages ys → HasNoPages (xs ++ ys)
no_pages [] ys h k = k
no_pages (x ∷ xs) ys h k = (h.0, no_pages xs ys h.1 k)

pub quiet_said : (xs a b : Story) → HasNoPages xs → GrewWithoutPages a b → GrewWithoutPages a (xs ++ b)
quiet_said xs a b h q = record { newer = xs ++ q.newer; is = ap (λ (l : Story). xs ++ l) q.is ∙ sym (append_assoc xs q.newer a); free = no_pages xs q.newer h q.free }
