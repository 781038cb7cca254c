-- What the foreign masters that qualify say is the qualified set.
use Rattle.std.proofs.Common.{◌≡◌, ℕ, Bool, true, false, cond, ◌||◌, leb, List, [], ◌∷◌, get_or, map, Option, Some, None, refl, sym, ap, subst, ◌∙◌, arith, ◌⊎◌, ⊎_elim, inl, inr}
use Rattle.std.specs.Option.{option_map}
use Rattle.std.specs.Ordering.{is_eq, ordering_reverse}
use Rattle.std.specs.declared.cmp.Ordering.TheVariants.{Less, Equal, Greater}
use Rattle.std.specs.List.{find, filter_map, cons_option, AllByRecursion}
use Rattle.std.specs.List.Sorted.{IsStrictlySortedBy}
use Rattle.std.specs.Set.{is_member}
use Rattle.std.proofs.lemmas.Bool.{false_from_ne_true, both_ways, lt-leb, cases_Bool}
use Rattle.std.proofs.lemmas.List.Elements.{recursion_from_All}
use Rattle.ptp_base.specs.declared.identity.PortId.{PortId}
use Rattle.ptp_base.specs.declared.announcement.Announcement.{Announcement}
use Rattle.ptp_profile.specs.declared.foreign_master.KeptAnnounce.{KeptAnnounce}
use Rattle.ptp_profile.specs.Best.PortIdentity.{port_cmp}
use Rattle.ptp_profile.specs.Best.ForeignMasters.{is_from, count_from, senders, record_of, qualified}
use Rattle.foreign_master.specs.declared.foreign_master.ForeignMaster.{ForeignMaster}
use Rattle.foreign_master.specs.ForeignMasterTable.{is_of, master_of, senders_of, is_qualified, qualified_of, said_by, IsReached, MasterRepresents, MastersRepresent, AreRising}
use Rattle.foreign_master.proofs.lemmas.PortOrderLemmas.{is_same_port-refl, is_same_port-symm, port_cmp_total, ties, ties_is, same_from_is_same_port, same_from_equal, all_below}
use Rattle.foreign_master.proofs.lemmas.RisingLemmas.{apart_from_rising}
use Rattle.foreign_master.proofs.lemmas.SearchAfterWriteLemmas.{find_only}
use Rattle.foreign_master.proofs.lemmas.RecordsViewLemmas.{others}
use Rattle.foreign_master.proofs.lemmas.SenderLemmas.{sorted-senders, counted}

-- ---- two rising lists with the same of all that is given for
not_member : (s : PortId) (xs : List PortId) → AllByRecursion (λ y. port_cmp s y ≡ Less) xs → is_member ties xs s ≡ false
not_member s [] all = refl
not_member s (x ∷ xs) all = ap (λ b. b || is_member ties xs s) (ap is_eq all.0) ∙ not_member s xs all.1

-- what is above another one is not that
not_tied : (x s : PortId) (xs : List PortId) → AllByRecursion (λ y. port_cmp x y ≡ Less) xs → is_member ties xs s ≡ true → ties s x ≡ false
not_tied x s xs all there = false_from_ne_true _ (λ tied.
    let same : s ≡ x = same_from_is_same_port s x (sym (ties_is s x) ∙ tied) in
    both_ways _ (not_member x xs all) (subst (λ (q : PortId). is_member ties xs q ≡ true) same there))

-- where something is given for a member of xs, it is one of ys
abbrev pub AreGivenIn : (PortId → Option Announcement) → List PortId → List PortId → Type 0
AreGivenIn f xs ys = (s : PortId) → is_member ties xs s ≡ true → (f s ≡ None) ⊎ (is_member ties ys s ≡ true)

past_first : (f : PortId → Option Announcement) (x : PortId) (xs ys : List PortId) → AllByRecursion (λ y. port_cmp x y ≡ Less) ys → AreGivenIn f ys (x ∷ xs) → AreGivenIn f ys xs
past_first f x xs ys above given s there =
    ⊎_elim (λ (none : f s ≡ None). inl none)
    (λ (in_it : is_member ties (x ∷ xs) s ≡ true). inr (sym (ap (λ b. b || is_member ties xs s) (not_tied x s ys above there)) ∙ in_it))
    (given s there)

or_true : (b : Bool) → (b || true) ≡ true
or_true true = refl
or_true false = refl

of_rest : (f : PortId → Option Announcement) (x : PortId) (xs ys : List PortId) → AreGivenIn f (x ∷ xs) ys → AreGivenIn f xs ys
of_rest f x xs ys given s there = given s (ap (λ b. ties s x || b) there ∙ or_true (ties s x))

-- nothing is given for the first, which is below all of the others
none_first : (f : PortId → Option Announcement) (x : PortId) (xs ys : List PortId) → AllByRecursion (λ y. port_cmp x y ≡ Less) ys → AreGivenIn f (x ∷ xs) ys → f x ≡ None
none_first f x xs ys above given =
    ⊎_elim (λ (none : f x ≡ None). none)
    (λ (there : is_member ties ys x ≡ true). absurd (both_ways _ (not_member x ys above) there))
    (given x (ap (λ b. b || is_member ties xs x) (ties_is x x ∙ is_same_port-refl x)))

none_given : (f : PortId → Option Announcement) (xs : List PortId) → AreGivenIn f xs [] → filter_map f xs ≡ []
none_given f [] given = refl
none_given f (x ∷ xs) given =
    ap (λ o. cons_option o (filter_map f xs)) (none_first f x xs [] tt given) ∙ none_given f xs (of_rest f x xs [] given)

pub same_given : (f : PortId → Option Announcement) (xs ys : List PortId) → IsStrictlySortedBy port_cmp xs → IsStrictlySortedBy port_cmp ys →
    AreGivenIn f xs ys → AreGivenIn f ys xs → filter_map f xs ≡ filter_map f ys
unfolding IsStrictlySortedBy
same_given f [] ys up vp given back = sym (none_given f ys back)
same_given f (x ∷ xs) [] up vp given back = none_given f (x ∷ xs) given
same_given f (x ∷ xs) (y ∷ ys) up vp given back =
    elim (port_cmp x y) as (λ o. port_cmp x y ≡ o → filter_map f (x ∷ xs) ≡ filter_map f (y ∷ ys)) [
      | Less ↦ λ e.
          let above : AllByRecursion (λ z. port_cmp x z ≡ Less) (y ∷ ys) = (e, all_below x y ys e vp.0) in
          ap (λ o. cons_option o (filter_map f xs)) (none_first f x xs (y ∷ ys) above given)
          ∙ same_given f xs (y ∷ ys) up.1 vp (of_rest f x xs (y ∷ ys) given) (past_first f x xs (y ∷ ys) above back)
      | Equal ↦ λ e.
          let same : x ≡ y = same_from_equal x y e in
          let above : AllByRecursion (λ z. port_cmp y z ≡ Less) xs = subst (λ (q : PortId). AllByRecursion (λ z. port_cmp q z ≡ Less) xs) same up.0 in
          let below : AllByRecursion (λ z. port_cmp x z ≡ Less) ys = subst (λ (q : PortId). AllByRecursion (λ z. port_cmp q z ≡ Less) ys) (sym same) vp.0 in
          ap (λ (q : PortId). cons_option (f q) (filter_map f xs)) same
          ∙ ap (cons_option (f y)) (same_given f xs ys up.1 vp.1
          (past_first f y ys xs above (of_rest f x xs (y ∷ ys) given))
          (past_first f x xs ys below (of_rest f y ys (x ∷ xs) back)))
      | Greater ↦ λ e.
          let less : port_cmp y x ≡ Less = port_cmp_total.antisymm y x ∙ ap ordering_reverse e in
          let above : AllByRecursion (λ z. port_cmp y z ≡ Less) (x ∷ xs) = (less, all_below y x xs less up.0) in
          same_given f (x ∷ xs) ys up vp.1 (past_first f y ys (x ∷ xs) above given) (of_rest f y ys (x ∷ xs) back)
          ∙ sym (ap (λ o. cons_option o (filter_map f ys)) (none_first f y ys (x ∷ xs) above back))
    ] refl

-- ---- from the masters to the senders
abbrev pub record_at : ℕ → ℕ → Option ForeignMaster → Option Announcement
record_at w m None = None
record_at w m (Some p) = cond (is_qualified w m p) (Some p.said) None

record_is : (w m : ℕ) (kept : List KeptAnnounce) (q : PortId) (o : Option ForeignMaster) → MasterRepresents w m kept q o → record_of w m kept q ≡ record_at w m o
record_is w m kept q None t = ap (λ b. cond b (option_map (λ (h : KeptAnnounce). h.said) (find (is_from q) kept)) None) (lt-leb 2 (count_from w m q kept) (omega (arith, t)))
record_is w m kept q (Some p) t =
    ap (λ b. cond b (option_map (λ (h : KeptAnnounce). h.said) (find (is_from q) kept)) None) t.qualified
    ∙ ap (λ (o : Option KeptAnnounce). cond (is_qualified w m p) (option_map (λ (h : KeptAnnounce). h.said) o) None) t.latest

said_given : (w m : ℕ) (kept : List KeptAnnounce) (xs : List ForeignMaster) → AllByRecursion (λ (p : ForeignMaster). record_of w m kept p.said.sender ≡ record_at w m (Some p)) xs → filter_map (record_of w m kept) (senders_of xs) ≡ said_by w m xs
said_given w m kept [] all = refl
said_given w m kept (x ∷ xs) all =
    let rest = said_given w m kept xs all.1 in
    elim (is_qualified w m x) as (λ b. record_of w m kept x.said.sender ≡ cond b (Some x.said) None →
    cons_option (record_of w m kept x.said.sender) (filter_map (record_of w m kept) (senders_of xs)) ≡ map (λ (p : ForeignMaster). p.said) (cond b (x ∷ qualified_of w m xs) (qualified_of w m xs))) [
      | true ↦ λ e. ap (λ o. cons_option o (filter_map (record_of w m kept) (senders_of xs))) e ∙ ap (λ l. x.said ∷ l) rest
      | false ↦ λ e. ap (λ o. cons_option o (filter_map (record_of w m kept) (senders_of xs))) e ∙ rest
    ] all.0

unfound : (s : PortId) (xs : List ForeignMaster) → is_member ties (senders_of xs) s ≡ false → master_of s xs ≡ None
unfound s [] none = refl
unfound s (x ∷ xs) none =
    let tied : ties s x.said.sender ≡ is_of s x = ties_is s x.said.sender ∙ is_same_port-symm s x.said.sender in
    elim (is_of s x) as (λ b. ties s x.said.sender ≡ b → cond b (Some x) (master_of s xs) ≡ None) [
      | true ↦ λ e. absurd (both_ways _ none (ap (λ b. b || is_member ties (senders_of xs) s) e))
      | false ↦ λ e. unfound s xs (sym (ap (λ b. b || is_member ties (senders_of xs) s) e) ∙ none)
    ] tied

pub said_is_qualified : (w m : ℕ) (xs : List ForeignMaster) (kept : List KeptAnnounce) → AreRising xs → MastersRepresent w xs kept → IsReached m kept → said_by w m xs ≡ qualified w m kept
said_is_qualified w m xs kept up tells reached =
    let apart = apart_from_rising xs up in
    sym (said_given w m kept xs (recursion_from_All (λ (p : ForeignMaster). record_of w m kept p.said.sender ≡ record_at w m (Some p)) xs (λ k d l.
    let s = (get_or xs k d).said.sender in
    let found = find_only (is_of s) xs k d l (is_same_port-refl s) (others xs k d s apart l (is_same_port-refl s)) in
    record_is w m kept s (Some (get_or xs k d)) (subst (MasterRepresents w m kept s) found (tells s m reached)))))
    ∙ same_given (record_of w m kept) (senders_of xs) (senders kept) up (sorted-senders kept)
    (λ s there. ⊎_elim
    (λ (two : leb 2 (count_from w m s kept) ≡ true). inr (counted w m s 1 kept two))
    (λ (few : leb 2 (count_from w m s kept) ≡ false). inl (ap (λ b. cond b (option_map (λ (h : KeptAnnounce). h.said) (find (is_from s) kept)) None) few))
    (cases_Bool (leb 2 (count_from w m s kept))))
    (λ s there. ⊎_elim
    (λ (found : is_member ties (senders_of xs) s ≡ true). inr found)
    (λ (none : is_member ties (senders_of xs) s ≡ false). inl (record_is w m kept s None (subst (MasterRepresents w m kept s) (unfound s xs none) (tells s m reached))))
    (cases_Bool (is_member ties (senders_of xs) s)))
