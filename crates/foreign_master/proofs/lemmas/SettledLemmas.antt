-- The qualified set as time goes on: nothing joins it, and it is the same until its oldest record leaves.
use Rattle.std.proofs.Common.{◌≡◌, ℕ, ◌+◌, ◌-◌, ◌<◌, ◌≤◌, Bool, true, false, cond, ◌&&◌, ◌||◌, eqb, leb, ltb, List, [], ◌∷◌, length, Option, Some, None, refl, sym, ap, subst, ◌∙◌, arith, ◌⊎◌, ⊎_elim, inl, inr, suc}
use Rattle.std.specs.Prelude.{◌↔◌, IsTrue}
use Rattle.std.specs.Option.{option_map}
use Rattle.std.specs.List.{find, filter, filter_map, cons_option, fold, AllByRecursion}
use Rattle.std.proofs.lemmas.Bool.{false_from_ne_true, both_ways, lt-ltb, ltb-true, ltb-false, leb-true, le-leb, eqb-true, eq-eqb, cases_Bool}
use Rattle.std.proofs.lemmas.Bool.Decides.{nat_tests}
use Rattle.std.proofs.lemmas.Option.{same_Some}
use Rattle.std.proofs.lemmas.List.Sums.{sum_by-cons, length-filter, count_by-le-length}
use Rattle.std.proofs.lemmas.List.Elements.{All-head, All-tail, All-cons}
use Rattle.ptp_base.specs.Least.{lesser}
use Rattle.ptp_base.specs.declared.limits.TheConstants.{SENDERS_MAX}
use Rattle.ptp_base.specs.declared.identity.PortId.{PortId}
use Rattle.ptp_base.specs.declared.announcement.Announcement.{Announcement}
use Rattle.ptp_profile.specs.declared.foreign_master.KeptAnnounce.{KeptAnnounce}
use Rattle.ptp_profile.specs.Best.ForeignMasters.{is_from, is_in_window, count_from, senders, record_of, qualified}
use Rattle.foreign_master.specs.declared.foreign_master.ForeignMaster.{ForeignMaster}
use Rattle.foreign_master.specs.ForeignMasterTable.{is_within, is_qualified, qualified_of, befores_of, oldest_of, IsReached}
use Rattle.foreign_master.specs.SettledRecords.{is_settled}

-- ---- filters, where what passes one test passes another
pub shorter : {X : Type 0} (f g : X → Bool) → ((x : X) → f x ≡ true → g x ≡ true) → (xs : List X) → length (filter f xs) ≤ length (filter g xs)
shorter f g only [] = omega arith
shorter f g only (x ∷ xs) =
    let rest = shorter f g only xs in
    elim (f x) as (λ b. (b ≡ true → g x ≡ true) → length (cond b (x ∷ filter f xs) (filter f xs)) ≤ length (cond (g x) (x ∷ filter g xs) (filter g xs))) [
      | true ↦ λ h. subst (λ t. suc (length (filter f xs)) ≤ length (cond t (x ∷ filter g xs) (filter g xs))) (sym (h refl)) (omega (arith, rest))
      | false ↦ λ h. elim (g x) as (λ t. length (filter f xs) ≤ length (cond t (x ∷ filter g xs) (filter g xs))) [ true ↦ omega (arith, rest) | false ↦ rest ]
    ] (only x)

pub same_tests : {X : Type 0} (f g : X → Bool) → ((x : X) → f x ≡ true → g x ≡ true) → (xs : List X) → length (filter f xs) ≡ length (filter g xs) → AllByRecursion (λ x. f x ≡ g x) xs
same_tests f g only [] e = tt
same_tests f g only (x ∷ xs) e =
    let rest = shorter f g only xs in
    ⊎_elim
    (λ (yes : f x ≡ true).
    let also = only x yes in
    let e1 : length (filter f (x ∷ xs)) ≡ suc (length (filter f xs)) = ap (λ b. length (cond b (x ∷ filter f xs) (filter f xs))) yes in
    let e2 : length (filter g (x ∷ xs)) ≡ suc (length (filter g xs)) = ap (λ b. length (cond b (x ∷ filter g xs) (filter g xs))) also in
    (yes ∙ sym also, same_tests f g only xs (omega (arith, e, e1, e2))))
    (λ (no : f x ≡ false).
    let e1 : length (filter f (x ∷ xs)) ≡ length (filter f xs) = ap (λ b. length (cond b (x ∷ filter f xs) (filter f xs))) no in
    ⊎_elim
    (λ (joins : g x ≡ true).
    let e2 : length (filter g (x ∷ xs)) ≡ suc (length (filter g xs)) = ap (λ b. length (cond b (x ∷ filter g xs) (filter g xs))) joins in
    absurd (omega (arith, e, e1, e2, rest)))
    (λ (neither : g x ≡ false).
    let e2 : length (filter g (x ∷ xs)) ≡ length (filter g xs) = ap (λ b. length (cond b (x ∷ filter g xs) (filter g xs))) neither in
    (no ∙ sym neither, same_tests f g only xs (omega (arith, e, e1, e2))))
    (cases_Bool (g x)))
    (cases_Bool (f x))

pub same_filter : {X : Type 0} (f g : X → Bool) (xs : List X) → AllByRecursion (λ x. f x ≡ g x) xs → filter f xs ≡ filter g xs
same_filter f g [] all = refl
same_filter f g (x ∷ xs) all = ap (λ b. cond b (x ∷ filter f xs) (filter f xs)) all.0 ∙ ap (λ (l : List _). cond (g x) (x ∷ l) l) (same_filter f g xs all.1)

-- ---- what qualifies later qualified before
within_before : (w at m : ℕ) (o : Option ℕ) → at ≤ m → is_within w m o ≡ true → is_within w at o ≡ true
within_before w at m None later e = e
within_before w at m (Some b) later e = lt-ltb at (b + w) (omega (arith, later, ltb-true m (b + w) e))

pub qualified_before : (w at m : ℕ) → at ≤ m → (p : ForeignMaster) → is_qualified w m p ≡ true → is_qualified w at p ≡ true
qualified_before w at m later p e = within_before w at m p.before later e

-- ---- the oldest is the least
abbrev earlier : Option ℕ → ℕ → Option ℕ
earlier = lesser (λ (t : ℕ). t)

earlier_below : (o : Option ℕ) (b c : ℕ) → earlier o b ≡ Some c → (c ≤ b) × ((a : ℕ) → o ≡ Some a → c ≤ a)
earlier_below None b c e = let same = same_Some b c e in (omega (arith, same), λ a none. absurd cc)
earlier_below (Some d) b c e =
    elim (ltb b d) as (λ t. ltb b d ≡ t → cond t (Some b) (Some d) ≡ Some c → (c ≤ b) × ((a : ℕ) → Some d ≡ Some a → c ≤ a)) [
      | true ↦ λ less e.
          let same = same_Some b c e in
          let lt = ltb-true b d less in
          (omega (arith, same), λ a f. let is = same_Some d a f in omega (arith, same, lt, is))
      | false ↦ λ no e.
          let same = same_Some d c e in
          let le = ltb-false b d no in
          (omega (arith, same, le), λ a f. let is = same_Some d a f in omega (arith, same, is))
    ] refl e

earlier_some : (o : Option ℕ) (b : ℕ) → (c : ℕ) × (earlier o b ≡ Some c)
earlier_some None b = (b, refl)
earlier_some (Some d) b = elim (ltb b d) as (λ t. (c : ℕ) × (cond {A = Option ℕ} t (Some b) (Some d) ≡ Some c)) [ true ↦ (b, refl) | false ↦ (d, refl) ]

least_below : (o : Option ℕ) (ms : List ℕ) (c : ℕ) → fold earlier o ms ≡ Some c → ((a : ℕ) → o ≡ Some a → c ≤ a) × AllByRecursion (λ b. c ≤ b) ms
least_below o [] c e = ((λ a f. let same = same_Some a c (sym f ∙ e) in omega (arith, same)), tt)
least_below o (b ∷ ms) c e =
    let rest = least_below (earlier o b) ms c e in
    let some = earlier_some o b in
    let below = earlier_below o b some.0 some.1 in
    let le = rest.0 some.0 some.1 in
    ((λ a f. let more = below.1 a f in omega (arith, le, more)), (omega (arith, le, below.0), rest.1))

-- ---- while the oldest is within the window, so are all that were qualified
all_stay : (w at m c : ℕ) (xs : List ForeignMaster) → at ≤ m → m < c + w → AllByRecursion (λ b. c ≤ b) (befores_of w at xs) → AllByRecursion (λ (p : ForeignMaster). is_qualified w m p ≡ is_qualified w at p) xs
all_stay w at m c [] later within all = tt
all_stay w at m c (x ∷ xs) later within all =
    elim (is_qualified w at x) as (λ t. is_qualified w at x ≡ t → AllByRecursion (λ b. c ≤ b) (filter_map (λ (p : ForeignMaster). p.before) (cond t (x ∷ qualified_of w at xs) (qualified_of w at xs))) →
    (is_qualified w m x ≡ t) × AllByRecursion (λ (p : ForeignMaster). is_qualified w m p ≡ is_qualified w at p) xs) [
      | true ↦ λ e above.
          (elim x.before as (λ o. is_within w at o ≡ true → AllByRecursion (λ b. c ≤ b) (cons_option o (befores_of w at xs)) →
          (is_within w m o ≡ true) × AllByRecursion (λ (p : ForeignMaster). is_qualified w m p ≡ is_qualified w at p) xs) [
            | None ↦ λ q rest. absurd (both_ways _ refl q)
            | Some b ↦ λ q rest. (lt-ltb m (b + w) (omega (arith, within, rest.0)), all_stay w at m c xs later within rest.1)
          ]) e above
      | false ↦ λ e above.
          (false_from_ne_true _ (λ q. both_ways _ e (qualified_before w at m later x q)), all_stay w at m c xs later within above)
    ] refl all

pub stays : (w at m : ℕ) (xs : List ForeignMaster) → at ≤ m → is_within w m (oldest_of w at xs) ≡ true → qualified_of w m xs ≡ qualified_of w at xs
stays w at m xs later within =
    elim (oldest_of w at xs) as (λ o. oldest_of w at xs ≡ o → is_within w m o ≡ true → qualified_of w m xs ≡ qualified_of w at xs) [
      | None ↦ λ e q. absurd (both_ways _ refl q)
      | Some c ↦ λ e q.
          same_filter (is_qualified w m) (is_qualified w at) xs (all_stay w at m c xs later (ltb-true m (c + w) q) (least_below None (befores_of w at xs) c e).1)
    ] refl within

-- ---- where the set is the same, its oldest is within the window
within_earlier : (w m : ℕ) (o : Option ℕ) (b : ℕ) → is_within w m o ≡ true → is_within w m (Some b) ≡ true → is_within w m (earlier o b) ≡ true
within_earlier w m None b h k = k
within_earlier w m (Some d) b h k = elim (ltb b d) as (λ t. is_within w m (cond t (Some b) (Some d)) ≡ true) [ true ↦ k | false ↦ h ]

within_more : (w at m : ℕ) (o : Option ℕ) (xs : List ForeignMaster) → AllByRecursion (λ (p : ForeignMaster). is_qualified w m p ≡ is_qualified w at p) xs → is_within w m o ≡ true → is_within w m (fold earlier o (befores_of w at xs)) ≡ true
within_more w at m o [] all h = h
within_more w at m o (x ∷ xs) all h =
    elim (is_qualified w at x) as (λ t. is_qualified w m x ≡ t → is_within w m (fold earlier o (filter_map (λ (p : ForeignMaster). p.before) (cond t (x ∷ qualified_of w at xs) (qualified_of w at xs)))) ≡ true) [
      | true ↦ λ e.
          (elim x.before as (λ r. is_within w m r ≡ true → is_within w m (fold earlier o (cons_option r (befores_of w at xs))) ≡ true) [
            | None ↦ λ q. absurd (both_ways _ refl q)
            | Some b ↦ λ q. within_more w at m (earlier o b) xs all.1 (within_earlier w m o b h q)
          ]) e
      | false ↦ λ e. within_more w at m o xs all.1 h
    ] all.0

none_or_within : (w at m : ℕ) (xs : List ForeignMaster) → AllByRecursion (λ (p : ForeignMaster). is_qualified w m p ≡ is_qualified w at p) xs → (length (qualified_of w at xs) ≡ 0) ⊎ (is_within w m (oldest_of w at xs) ≡ true)
none_or_within w at m [] all = inl refl
none_or_within w at m (x ∷ xs) all =
    elim (is_qualified w at x) as (λ t. is_qualified w m x ≡ t →
    (length (cond t (x ∷ qualified_of w at xs) (qualified_of w at xs)) ≡ 0) ⊎ (is_within w m (fold earlier None (filter_map (λ (p : ForeignMaster). p.before) (cond t (x ∷ qualified_of w at xs) (qualified_of w at xs)))) ≡ true)) [
      | true ↦ λ e.
          inr ((elim x.before as (λ r. is_within w m r ≡ true → is_within w m (fold earlier None (cons_option r (befores_of w at xs))) ≡ true) [
            | None ↦ λ q. absurd (both_ways _ refl q)
            | Some b ↦ λ q. within_more w at m (Some b) xs all.1 q
          ]) e)
      | false ↦ λ e. none_or_within w at m xs all.1
    ] all.0

-- what left makes the set another one
pub none_settled : (w at m : ℕ) (xs : List ForeignMaster) → at ≤ m → is_within w m (oldest_of w at xs) ≡ false →
    (length (qualified_of w m xs) ≡ 0) ⊎ (length (qualified_of w m xs) ≡ length (qualified_of w at xs)) → length (qualified_of w m xs) ≡ 0
none_settled w at m xs later left settled =
    ⊎_elim (λ (none : length (qualified_of w m xs) ≡ 0). none)
    (λ (same : length (qualified_of w m xs) ≡ length (qualified_of w at xs)).
    ⊎_elim (λ (none : length (qualified_of w at xs) ≡ 0). same ∙ none)
    (λ (within : is_within w m (oldest_of w at xs) ≡ true). absurd (both_ways _ left within))
    (none_or_within w at m xs (same_tests (is_qualified w m) (is_qualified w at) (qualified_before w at m later) xs same)))
    settled

-- ---- at most 15 comparisons
pub few_qualified : (w m : ℕ) (xs : List ForeignMaster) → length xs ≤ SENDERS_MAX → length (qualified_of w m xs) - 1 ≤ 15
few_qualified w m xs few =
    let n = length-filter (is_qualified w m) xs in
    let le = count_by-le-length (is_qualified w m) xs in
    omega (arith, n, le, few)

-- ---- the set of the definition
one_test : (a b : Bool) → (a ≡ true → b ≡ true) → cond {A = ℕ} a 1 0 ≤ cond {A = ℕ} b 1 0
one_test true b h = let e : cond {A = ℕ} b 1 0 ≡ 1 = ap (λ t. cond {A = ℕ} t 1 0) (h refl) in omega (arith, e)
one_test false b h = omega arith

both_tests : (m at end from : ℕ) → at ≤ m → from ≤ at → (ltb m end && leb from m) ≡ true → (ltb at end && leb from at) ≡ true
both_tests m at end from later reached e = grind (arith, nat_tests)

in_window_before : (w at m : ℕ) (h : KeptAnnounce) (s : PortId) → at ≤ m → h.at ≤ at → (is_from s h && is_in_window w m h) ≡ true → (is_from s h && is_in_window w at h) ≡ true
in_window_before w at m h s later reached =
    elim (is_from s h) as (λ t. (t && is_in_window w m h) ≡ true → (t && is_in_window w at h) ≡ true) [
      | true ↦ λ e. both_tests m at (h.at + w) h.at later reached e
      | false ↦ λ e. e
    ]

pub count_falls : (w at m : ℕ) (s : PortId) (kept : List KeptAnnounce) → at ≤ m → IsReached at kept → count_from w m s kept ≤ count_from w at s kept
count_falls w at m s [] later reached = omega arith
count_falls w at m s (h ∷ kept) later reached =
    let e : count_from w m s (h ∷ kept) ≡ cond {A = ℕ} (is_from s h && is_in_window w m h) 1 0 + count_from w m s kept = sum_by-cons _ h kept in
    let f : count_from w at s (h ∷ kept) ≡ cond {A = ℕ} (is_from s h && is_in_window w at h) 1 0 + count_from w at s kept = sum_by-cons _ h kept in
    let one = one_test _ _ (in_window_before w at m h s later (All-head (λ (g : KeptAnnounce). g.at ≤ at) h kept reached)) in
    omega (arith, e, f, one, count_falls w at m s kept later (All-tail (λ (g : KeptAnnounce). g.at ≤ at) h kept reached))

record_before : (w at m : ℕ) (kept : List KeptAnnounce) → at ≤ m → IsReached at kept → (s : PortId) (a : Announcement) → record_of w m kept s ≡ Some a → record_of w at kept s ≡ Some a
record_before w at m kept later reached s a =
    elim (leb 2 (count_from w m s kept)) as (λ t. leb 2 (count_from w m s kept) ≡ t → cond t (option_map (λ (h : KeptAnnounce). h.said) (find (is_from s) kept)) None ≡ Some a → record_of w at kept s ≡ Some a) [
      | true ↦ λ two e.
          let more = leb-true 2 (count_from w m s kept) two in
          let also = le-leb 2 (count_from w at s kept) (omega (arith, more, count_falls w at m s kept later reached)) in
          ap (λ b. cond b (option_map (λ (h : KeptAnnounce). h.said) (find (is_from s) kept)) None) also ∙ e
      | false ↦ λ few e. absurd cc
    ] refl

fewer_given : {X Y : Type 0} (f g : X → Option Y) → ((x : X) (y : Y) → f x ≡ Some y → g x ≡ Some y) → (xs : List X) → length (filter_map f xs) ≤ length (filter_map g xs)
fewer_given f g only [] = omega arith
fewer_given f g only (x ∷ xs) =
    let rest = fewer_given f g only xs in
    elim (f x) as (λ o. ((y : _) → o ≡ Some y → g x ≡ Some y) → length (cons_option o (filter_map f xs)) ≤ length (cons_option (g x) (filter_map g xs))) [
      | None ↦ λ h. elim (g x) as (λ r. length (filter_map f xs) ≤ length (cons_option r (filter_map g xs))) [ None ↦ rest | Some y ↦ omega (arith, rest) ]
      | Some y ↦ λ h. subst (λ r. suc (length (filter_map f xs)) ≤ length (cons_option r (filter_map g xs))) (sym (h y refl)) (omega (arith, rest))
    ] (only x)

same_length_given : {X Y : Type 0} (f g : X → Option Y) → ((x : X) (y : Y) → f x ≡ Some y → g x ≡ Some y) → (xs : List X) → length (filter_map f xs) ≡ length (filter_map g xs) → filter_map f xs ≡ filter_map g xs
same_length_given f g only [] e = refl
same_length_given f g only (x ∷ xs) same =
    let rest = fewer_given f g only xs in
    elim (f x) as (λ o. ((y : _) → o ≡ Some y → g x ≡ Some y) → length (cons_option o (filter_map f xs)) ≡ length (cons_option (g x) (filter_map g xs)) → cons_option o (filter_map f xs) ≡ cons_option (g x) (filter_map g xs)) [
      | None ↦ λ h. elim (g x) as (λ r. length (filter_map f xs) ≡ length (cons_option r (filter_map g xs)) → filter_map f xs ≡ cons_option r (filter_map g xs)) [
        | None ↦ λ e. same_length_given f g only xs e
        | Some y ↦ λ e. absurd (omega (arith, rest, e))
      ]
      | Some y ↦ λ h e.
          let is = h y refl in
          let e2 : length (y ∷ filter_map f xs) ≡ length (y ∷ filter_map g xs) = e ∙ ap (λ r. length (cons_option r (filter_map g xs))) is in
          ap (λ l. y ∷ l) (same_length_given f g only xs (omega (arith, e2))) ∙ sym (ap (λ r. cons_option r (filter_map g xs)) is)
    ] (only x) same

-- settled as a test is settled as a fact
abbrev pub IsSettled : ℕ → ℕ → KeptAnnounce → List KeptAnnounce → Type 0
IsSettled w m h kept = (qualified w m (h ∷ kept) ≡ []) ⊎ (qualified w m (h ∷ kept) ≡ qualified w h.at (h ∷ kept))

none_from_length : {X : Type 0} (xs : List X) → length xs ≡ 0 → xs ≡ []
none_from_length [] e = refl
none_from_length (x ∷ xs) e = absurd (omega (arith, e))

pub or_parts : (a b : Bool) → (a || b) ≡ true → (a ≡ true) ⊎ (b ≡ true)
or_parts true b e = inl refl
or_parts false b e = inr e

or_true : (b : Bool) → (b || true) ≡ true
or_true true = refl
or_true false = refl

pub settled_is : (w m : ℕ) (h : KeptAnnounce) (kept : List KeptAnnounce) → IsReached h.at kept → h.at ≤ m → IsTrue (is_settled w m (h ∷ kept)) ↔ IsSettled w m h kept
settled_is w m h kept reached later =
    let all = All-cons (λ (g : KeptAnnounce). g.at ≤ h.at) h kept (omega arith) reached in
    let now = qualified w m (h ∷ kept) in
    let then = qualified w h.at (h ∷ kept) in (
      (λ e. ⊎_elim
          (λ (none : eqb (length now) 0 ≡ true). inl (none_from_length now (eqb-true (length now) 0 none)))
          (λ (same : eqb (length now) (length then) ≡ true).
          inr (same_length_given (record_of w m (h ∷ kept)) (record_of w h.at (h ∷ kept)) (record_before w h.at m (h ∷ kept) later all) (senders (h ∷ kept)) (eqb-true (length now) (length then) same)))
          (or_parts _ _ e)),
      (λ s. ⊎_elim
          (λ (none : now ≡ []). ap (λ b. b || eqb (length now) (length then)) (eq-eqb (length now) 0 (ap length none)))
          (λ (same : now ≡ then). ap (λ b. eqb (length now) 0 || b) (eq-eqb (length now) (length then) (ap length same)) ∙ or_true (eqb (length now) 0))
          s),
    )
