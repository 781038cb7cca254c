-- What a pass's story says is so.
use Rattle.std.proofs.Common.{Bool, true, false, eqb, ◌≡◌, ◌≢◌, ℕ, zero, suc, ◌<◌, ◌≤◌, ◌⊎◌, inl, inr, ⊎_elim, List, [], ◌∷◌, ◌++◌, length, refl, sym, ap, ◌∙◌, subst, arith, append_assoc, length-append, le_refl}
use native.Mathlib.Decide.{ℕ_discrete}
use mathlib.Core.Logic.{dite}
use mathlib.Core.Option.{Option, some, none}
use Rattle.std.proofs.lemmas.Bool.{eqb-true, eq-eqb}
use Rattle.std.proofs.lemmas.Bool.Decides.{eqb_tells}
use Rattle.model_clock.specs.declared.state.ClockState.{ClockState}
use Rattle.atomic_table.specs.Table.{Me, Step}
use Rattle.ptp_profile.specs.declared.seats.LogEntry.{LogEntry}
use Rattle.ptp_profile.specs.declared.seats.Reading.{Reading}
use Rattle.ptp_profile.specs.declared.seats.LogEntry.TheVariants.{Order, Change}
use Rattle.discipline_seat.specs.declared.view.Owner.{Owner}
use Rattle.discipline_seat.specs.declared.view.StoryItem.{StoryItem}
use Rattle.discipline_seat.specs.declared.view.StoryItem.TheVariants.{GaveReading, GaveReceipt, WasSuperseded, WasSpent, HadPage}
use Rattle.discipline_seat.specs.declared.view.View.{View}
use Rattle.discipline_seat.specs.Rule.SeatStep.{LookFound, exchange_tells as adjusted}
use Rattle.discipline_seat.specs.Rule.SeatLog.{Extends, GrewByOthers, HasNoneBy, SeatLog, ctrl_after, gener_after, owner_named as named}
use Rattle.discipline_seat.specs.Rule.Story.{AreEntriesOf, HasNoReceipts, HasNoneAbove, IsAnswerOfLook, IsNoReceipt, IsOfWholeLog, ItemAgrees, NumbersRise, Story, StoryAgrees, page_item, reading_item as gave, receipts_of, refusal_by, refusal_found as ask, with_entry_if}
use Rattle.discipline_seat.specs.Rule.SeatView.{IsTruthful, after_look as saw, seen_log, with_more_story}
use Rattle.discipline_seat.proofs.lemmas.RuleLemmas.{seen_here, seen_else}

extends_on : (a b c : SeatLog) → Extends a b → Extends b c → Extends a c
extends_on a b c p q = record { newer = q.newer ++ p.newer; is = q.is ∙ ap (λ (l : SeatLog). q.newer ++ l) p.is ∙ sym (append_assoc q.newer p.newer a) }

same_log : (l : SeatLog) → Extends l l
same_log l = record { newer = []; is = refl }

agrees_on : (os : List ClockState) (l m : ℕ → SeatLog) → ((c : ℕ) → Extends (l c) (m c)) → (x : StoryItem) → ItemAgrees os l x → ItemAgrees os m x
agrees_on os l m e (GaveReading c r) a = (a.0, extends_on a.0 (l c) (m c) a.1 (e c), a.2)
agrees_on os l m e (GaveReceipt c g k t s f n) a = (a.0, extends_on (Change g k t s f ∷ a.0) (l c) (m c) a.1 (e c), a.2)
agrees_on os l m e (WasSuperseded c g k t s f n b) a = (a.0, extends_on a.0 (l c) (m c) a.1 (e c), a.2, a.3, a.4)
agrees_on os l m e (WasSpent c g k t s f b) a = (a.0, extends_on a.0 (l c) (m c) a.1 (e c), a.2, a.3, a.4)
agrees_on os l m e (HadPage p) a = tt

pub agrees_more : (os : List ClockState) (l m : ℕ → SeatLog) → ((c : ℕ) → Extends (l c) (m c)) → (xs : Story) → StoryAgrees os l xs → StoryAgrees os m xs
agrees_more os l m e [] a = tt
agrees_more os l m e (x ∷ xs) a = (agrees_on os l m e x a.0, agrees_more os l m e xs a.1)

agree_both : (os : List ClockState) (l : ℕ → SeatLog) (xs ys : Story) → StoryAgrees os l xs → StoryAgrees os l ys → StoryAgrees os l (xs ++ ys)
agree_both os l [] ys a b = b
agree_both os l (x ∷ xs) ys a b = (a.0, agree_both os l xs ys a.1 b)

own_behind : (c : ℕ) (o : Owner) (newer old : SeatLog) (rs : List (ℕ × LogEntry)) → HasNoneBy c o newer → AreEntriesOf c o old rs → AreEntriesOf c o (newer ++ old) rs
own_behind c o [] old rs h a = a
own_behind c o (e ∷ es) old rs h a = inl (h.0, own_behind c o es old rs h.1 a)

pub own_more : (c : ℕ) (o : Owner) (old new : SeatLog) (rs : List (ℕ × LogEntry)) → GrewByOthers c o old new → AreEntriesOf c o old rs → AreEntriesOf c o new rs
own_more c o old new rs g a = subst (λ (l : SeatLog). AreEntriesOf c o l rs) (sym g.is) (own_behind c o g.newer old rs g.none_mine a)

pub no_receipts : (c : ℕ) (xs ys : Story) → HasNoReceipts xs → receipts_of c (xs ++ ys) ≡ receipts_of c ys
no_receipts c [] ys h = refl
no_receipts c (GaveReading d r ∷ xs) ys h = no_receipts c xs ys h.1
no_receipts c (GaveReceipt d g k t s f n ∷ xs) ys h = absurd h.0
no_receipts c (WasSuperseded d g k t s f n a ∷ xs) ys h = no_receipts c xs ys h.1
no_receipts c (WasSpent d g k t s f a ∷ xs) ys h = no_receipts c xs ys h.1
no_receipts c (HadPage p ∷ xs) ys h = no_receipts c xs ys h.1

extends_length : (a b : SeatLog) → Extends a b → length a ≤ length b
extends_length a b e = omega (arith, ap length e.is, length-append e.newer a)

-- no number is above the length of the log with which the story agrees
not_above : (os : List ClockState) (l : ℕ → SeatLog) (c n : ℕ) → length (l c) ≤ n → (xs : Story) → StoryAgrees os l xs → HasNoneAbove c n xs
not_above os l c n le [] a = tt
not_above os l c n le (GaveReading d r ∷ xs) a = ((λ e. let h = extends_length a.0.0 (l d) a.0.1 in let q = subst (λ (x : ℕ). length (l x) ≤ n) (sym e) le in let number = ap (λ (x : Reading). x.number) a.0.2 in omega (arith, number)), not_above os l c n le xs a.1)
not_above os l c n le (GaveReceipt d g k t s f m ∷ xs) a = ((λ e. let h = extends_length (Change g k t s f ∷ a.0.0) (l d) a.0.1 in let q = subst (λ (x : ℕ). length (l x) ≤ n) (sym e) le in omega (arith, a.0.2)), not_above os l c n le xs a.1)
not_above os l c n le (WasSuperseded d g k t s f b m ∷ xs) a = ((λ e. let h = extends_length a.0.0 (l d) a.0.1 in let q = subst (λ (x : ℕ). length (l x) ≤ n) (sym e) le in omega (arith, a.0.2)), not_above os l c n le xs a.1)
not_above os l c n le (WasSpent d g k t s f m ∷ xs) a = ((λ e. let h = extends_length a.0.0 (l d) a.0.1 in let q = subst (λ (x : ℕ). length (l x) ≤ n) (sym e) le in omega (arith, a.0.2)), not_above os l c n le xs a.1)
not_above os l c n le (HadPage p ∷ xs) a = not_above os l c n le xs a.1

rises : (os : List ClockState) (l : ℕ → SeatLog) (xs ys : Story) → IsAnswerOfLook l xs → StoryAgrees os l ys → NumbersRise ys → NumbersRise (xs ++ ys)
rises os l [] ys h a r = r
rises os l (GaveReading c g ∷ []) ys h a r = (not_above os l c g.number (omega (arith, h)) ys a, r)
rises os l (GaveReceipt c g k t s f n ∷ []) ys h a r = absurd h
rises os l (WasSuperseded c g k t s f b n ∷ []) ys h a r = (not_above os l c n (omega (arith, h)) ys a, r)
rises os l (WasSpent c g k t s f n ∷ []) ys h a r = (not_above os l c n (omega (arith, h)) ys a, r)
rises os l (HadPage p ∷ []) ys h a r = r
rises os l (x ∷ y ∷ zs) ys h a r = absurd h

-- a pass's view has seen more that is not its own, and its story has more without a receipt
pub truth_on : (v z : View) (xs : Story) → z.owner ≡ v.owner → z.openings ≡ v.openings → z.stories.story ≡ xs ++ v.stories.story → ((c : ℕ) → GrewByOthers c v.owner (seen_log v c) (seen_log z c)) → StoryAgrees v.openings (seen_log z) xs → HasNoReceipts xs → IsAnswerOfLook (seen_log z) xs → IsTruthful v → IsTruthful z
truth_on v z xs owner opened story grew agree none_new newest t = record {
  rising = subst NumbersRise (sym story) (rises v.openings (seen_log z) xs v.stories.story newest (agrees_more v.openings (seen_log v) (seen_log z) (λ c. let g = grew c in record { newer = g.newer; is = g.is }) v.stories.story t.agree) t.rising);
  agree = subst (λ (q : List ClockState × Story). StoryAgrees q.0 (seen_log z) q.1) (λ i. (sym opened i, sym story i)) (agree_both v.openings (seen_log z) xs v.stories.story agree (agrees_more v.openings (seen_log v) (seen_log z) (λ c. let g = grew c in record { newer = g.newer; is = g.is }) v.stories.story t.agree));
  own = λ c. subst (λ (q : Owner × List (ℕ × LogEntry)). AreEntriesOf c q.0 (seen_log z c) q.1) (λ i. (sym owner i, sym (ap (receipts_of c) story ∙ no_receipts c xs v.stories.story none_new) i)) (own_more c v.owner (seen_log v c) (seen_log z c) (receipts_of c v.stories.story) (grew c) (t.own c));
}

-- a view that saw the log of c
pub grew_all : (v : View) (c : ℕ) (o : Owner) (l : SeatLog) → c < length v.seen → GrewByOthers c o (seen_log v c) l → (d : ℕ) → GrewByOthers d o (seen_log v d) (seen_log (saw v c l) d)
grew_all v c o l wide g d = dite (ℕ_discrete d c)
    (λ e. subst (λ (x : ℕ). GrewByOthers x o (seen_log v x) (seen_log (saw v c l) x)) (sym e) (subst (GrewByOthers c o (seen_log v c)) (sym (seen_here v c l wide)) g))
    (λ n. subst (GrewByOthers d o (seen_log v d)) (sym (seen_else v c l d n)) record { newer = []; is = refl; none_mine = tt })

-- a change was made, and the story has its receipt
pub truth_made : (v z : View) (c g k t n : ℕ) (s f : _) → c < length v.seen → z ≡ with_more_story (saw v c (Change g k t s f ∷ seen_log v c)) (GaveReceipt c g k t s f n ∷ []) → n ≡ suc (length (seen_log v c)) → named c k ≡ v.owner → IsTruthful v → IsTruthful z
truth_made v z c g k t n s f wide is number mine old =
    let e : LogEntry = Change g k t s f in
    let l : SeatLog = e ∷ seen_log v c in
    let w : View = saw v c l in
    let here : seen_log w c ≡ l = seen_here v c l wide in
    let more : (d : ℕ) → Extends (seen_log v d) (seen_log w d) = λ d. dite (ℕ_discrete d c)
    (λ q. subst (λ (x : ℕ). Extends (seen_log v x) (seen_log w x)) (sym q) record { newer = e ∷ []; is = here })
    (λ o. record { newer = []; is = seen_else v c l d o }) in
    let qs : List (ℕ × LogEntry) = receipts_of c v.stories.story in
    let mine_here : AreEntriesOf c v.owner l (with_entry_if true (n, e) qs) = inr (mine, (qs, (λ i. (number i, e) ∷ qs), old.own c)) in
    subst IsTruthful (sym is) record {
      agree = ((seen_log v c, record { newer = []; is = here }, number), agrees_more v.openings (seen_log v) (seen_log w) more v.stories.story old.agree);
      rising = ((length (seen_log v c), number, not_above v.openings (seen_log v) c (length (seen_log v c)) (le_refl (length (seen_log v c))) v.stories.story old.agree), old.rising);
      own = λ d. dite (ℕ_discrete d c)
          (λ q. subst (λ (x : ℕ). AreEntriesOf x v.owner (seen_log w x) (receipts_of x (GaveReceipt c g k t s f n ∷ v.stories.story))) (sym q)
          (subst (λ (p : Bool × SeatLog). AreEntriesOf c v.owner p.1 (with_entry_if p.0 (n, e) qs)) (λ i. (sym (eq-eqb c c refl) i, sym here i)) mine_here))
          (λ o. subst (λ (p : Bool × SeatLog). AreEntriesOf d v.owner p.1 (with_entry_if p.0 (n, e) (receipts_of d v.stories.story))) (λ i. (sym (not_eq c d (λ q. o (sym q))) i, sym (seen_else v c l d o) i)) (old.own d));
    }
  where
    not_eq : (a b : ℕ) → a ≢ b → eqb a b ≡ false
    not_eq a b n = ⊎_elim (λ (h : (eqb a b ≡ true) × (a ≡ b)). absurd (n h.1)) (λ (h : (eqb a b ≡ false) × (a ≢ b)). h.0) (eqb_tells a b)

-- a new pass
pub truth_new : (v : View) → ((c : ℕ) → seen_log v c ≡ []) → v.stories.story ≡ [] → IsTruthful v
truth_new v none_seen empty = record {
  agree = subst (StoryAgrees v.openings (seen_log v)) (sym empty) tt;
  rising = subst NumbersRise (sym empty) tt;
  own = λ c. subst (λ (q : SeatLog × Story). AreEntriesOf c v.owner q.0 (receipts_of c q.1)) (λ i. (sym (none_seen c) i, sym empty i)) refl;
}

-- the exchange
pub truth_adjusted : (m m' : Me LogEntry View) (c old new g k t found : ℕ) (s f : _) → adjusted (Rattle.atomic_table.specs.Table.step 0 c old new (some (Change g k t s f))) m found m' → c < length m.0.seen → named c k ≡ m.0.owner → ((w : View) → LookFound c m.0 found w → found ≢ old → g < gener_after (seen_log w c)) → IsTruthful m.0 → IsTruthful m'.0
truth_adjusted m m' c old new g k t found s f a wide mine lost truth = dite (ℕ_discrete found old)
    (λ hit.
    let w = a.1 hit in
    let same : Change g k t s f ≡ w.1.entry = mathlib.Core.Option.some-injective (Change g k t s f) w.1.entry w.1.is in
    truth_made m.0 m'.0 c g k t (suc (length (seen_log m.0 c))) s f wide (w.2 ∙ (λ i. with_more_story (w.1.after i) (GaveReceipt c g k t s f (suc (length (seen_log m.0 c))) ∷ [])) ∙ (λ i. with_more_story (saw m.0 c (sym same i ∷ seen_log m.0 c)) (GaveReceipt c g k t s f (suc (length (seen_log m.0 c))) ∷ []))) refl mine truth)
    (λ miss.
    let w = a.2 miss in
    let v : View = m.0 in
    let l : SeatLog = w.1.log in
    let xs : Story = WasSuperseded c g k t s f (gener_after (seen_log w.0 c)) (length (seen_log w.0 c)) ∷ [] in
    let is : m'.0 ≡ with_more_story w.0 xs = w.2 in
    let agree : StoryAgrees v.openings (seen_log w.0) xs = ((seen_log w.0 c, same_log (seen_log w.0 c), refl, refl, lost w.0 w.1 miss), tt) in
    truth_on v m'.0 xs (ap (λ (y : View). y.owner) (is ∙ ap (λ (y : View). with_more_story y xs) w.1.is)) (ap (λ (y : View). y.openings) (is ∙ ap (λ (y : View). with_more_story y xs) w.1.is)) (ap (λ (y : View). y.stories.story) (is ∙ ap (λ (y : View). with_more_story y xs) w.1.is))
    (λ d. subst (λ (y : View). GrewByOthers d v.owner (seen_log v d) (seen_log y d)) (sym (is ∙ ap (λ (y : View). with_more_story y xs) w.1.is)) (grew_all v c v.owner l wide w.1.grew d))
    (subst (λ (y : View). StoryAgrees v.openings (seen_log y) xs) (sym is) agree) (tt, tt) (subst (λ (y : View). IsAnswerOfLook (seen_log y) xs) (sym is) refl) truth)

pub pages_agree : (os : List ClockState) (l : ℕ → SeatLog) (p : List ℕ) → StoryAgrees os l (page_item p) × HasNoReceipts (page_item p) × IsAnswerOfLook l (page_item p)
pages_agree os l [] = (tt, tt, tt)
pages_agree os l (x ∷ xs) = ((tt, tt), (tt, tt), tt)

pub gave_agrees : (os : List ClockState) (m : ℕ → SeatLog) (c : ℕ) → StoryAgrees os m (gave os c (m c)) × HasNoReceipts (gave os c (m c)) × IsAnswerOfLook m (gave os c (m c))
gave_agrees os m c = (((m c, same_log (m c), refl), tt), (tt, tt), refl)

asked_at : (os : List ClockState) (m : ℕ → SeatLog) (a b r : Bool) (x y : StoryItem) → ((a ≡ true → b ≡ true → ⊥) → ItemAgrees os m x) → (a ≡ true → b ≡ true → ItemAgrees os m y) → IsNoReceipt x → IsNoReceipt y → IsOfWholeLog m x → IsOfWholeLog m y → StoryAgrees os m (refusal_by a b r x y) × HasNoReceipts (refusal_by a b r x y) × IsAnswerOfLook m (refusal_by a b r x y)
asked_at os m true true true x y p q h k u w = (tt, tt, tt)
asked_at os m true true false x y p q h k u w = ((q refl refl, tt), (k, tt), w)
asked_at os m true false r x y p q h k u w = ((p (λ _ e. absurd (cc (e))), tt), (h, tt), u)
asked_at os m false b r x y p q h k u w = ((p (λ e _. absurd (cc (e))), tt), (h, tt), u)

-- where the stamp is another one, its generation is greater
abbrev pub Newer : LogEntry → SeatLog → Type 0
Newer (Order g k) l = Unit {0}
Newer (Change g k t s f) l = ¬ ((gener_after l ≡ g) × (ctrl_after l ≡ k)) → g < gener_after l

pub asked_agrees : (os : List ClockState) (rows : ℕ) (e : LogEntry) (m : ℕ → SeatLog) (c : ℕ) → Newer e (m c) → StoryAgrees os m (ask rows e c (m c)) × HasNoReceipts (ask rows e c (m c)) × IsAnswerOfLook m (ask rows e c (m c))
asked_agrees os rows (Order g k) m c newer = (tt, tt, tt)
asked_agrees os rows (Change g k t s f) m c newer = asked_at os m (eqb (gener_after (m c)) g) (eqb (ctrl_after (m c)) k) (Rattle.std.proofs.Common.ltb (length (m c)) rows) _ _
    (λ other. (m c, same_log (m c), refl, refl, newer (λ same. other (eq-eqb (gener_after (m c)) g same.0) (eq-eqb (ctrl_after (m c)) k same.1))))
    (λ a b. (m c, same_log (m c), refl, eqb-true (gener_after (m c)) g a, eqb-true (ctrl_after (m c)) k b)) tt tt refl refl

pub truth_looked : (v w z : View) (c : ℕ) (l : SeatLog) (xs : Story) → w ≡ saw v c l → z ≡ with_more_story w xs → c < length v.seen → GrewByOthers c v.owner (seen_log v c) l → StoryAgrees v.openings (seen_log w) xs → HasNoReceipts xs → IsAnswerOfLook (seen_log w) xs → IsTruthful v → IsTruthful z
truth_looked v w z c l xs ws zs wide grew agree plain newest truth =
    let is : z ≡ with_more_story (saw v c l) xs = zs ∙ ap (λ (y : View). with_more_story y xs) ws in
    truth_on v z xs (ap (λ (y : View). y.owner) is) (ap (λ (y : View). y.openings) is) (ap (λ (y : View). y.stories.story) is) (λ d. subst (λ (y : View). GrewByOthers d v.owner (seen_log v d) (seen_log y d)) (sym is) (grew_all v c v.owner l wide grew d)) (subst (λ (y : View). StoryAgrees v.openings (seen_log y) xs) (sym zs) agree) plain (subst (λ (y : View). IsAnswerOfLook (seen_log y) xs) (sym zs) newest) truth
