-- What a caller makes of what a step told.
use Rattle.std.proofs.Common.{◌≡◌, ◌≢◌, ℕ, zero, suc, ◌+◌, ◌*◌, ◌%◌, ◌^◌, ◌<◌, ◌⊎◌, inl, inr, ⊎_elim, [], ◌∷◌, ◌++◌, length, refl, sym, ap, ◌∙◌, subst, arith, append_assoc}
use Rattle.model_clock.specs.declared.state.ClockState.{ClockState}
use Rattle.discipline_seat.specs.Rule.SeatView.{with_row}
use mathlib.Core.Option.{Option, some, none, some-injective}
use Rattle.ptp_profile.specs.declared.seats.LogEntry.{LogEntry}
use Rattle.ptp_profile.specs.declared.seats.LogEntry.TheVariants.{Order, Change}
use Rattle.discipline_seat.specs.declared.view.Owner.{Owner}
use Rattle.discipline_seat.specs.declared.view.Owner.TheVariants.{Hub}
use Rattle.discipline_seat.specs.declared.view.View.{View}
use Rattle.seat_word.specs.declared.word.Word.{Word}
use Rattle.seat_word.specs.PackedWord.{IsWord, packed}
use Rattle.ptp_profile.specs.Roles.SeatLogs.{HasOrder}
use Rattle.std.specs.Prelude.{slice_index_or}
use Rattle.discipline_seat.specs.Rule.SeatLog.{Extends, GrewByOthers, HasNoneBy, IsSeatLog, SeatLog, ctrl_after, gener_after, last_change, owner_named as named, packed_word as pack, stamp_number, word_after}
use Rattle.discipline_seat.specs.Rule.SeatView.{IsPassView, after_look as saw, seen_log, with_more_story}
use Rattle.discipline_seat.specs.Rule.SeatStep.{ChangeMade, LookFound, OrderMade, exchange_tells as adjusted}
use Rattle.discipline_seat.specs.Rule.Story.{GrewWithoutPages, HasNoPages, IsNoPage, Story, receipt_item as receipt, refusal_by, refusal_found as ask, refusal_item as refusal, with_items as say}
use Rattle.atomic_table.specs.Table.{Me, Step}
use Rattle.discipline_seat.specs.declared.view.StoryItem.{StoryItem}
use Rattle.discipline_seat.specs.declared.view.StoryItem.TheVariants.{WasSuperseded, WasSpent}
use Rattle.std.proofs.Common.{Bool, true, false, eqb, ltb, ◌≤◌, length-set}
use Rattle.std.proofs.lemmas.Bool.{eqb-true, eq-eqb, le-ltb, lt-ltb}
use native.Mathlib.Decide.{ℕ_discrete}
use mathlib.Core.Logic.{dite}
use Rattle.discipline_seat.proofs.lemmas.StoryEndLemmas.{quiet_said}
use Rattle.discipline_seat.specs.SeatCalls.{LeavesOthers, LookYields, IsWordOf, EntryAdded, WasOvertaken}
use Rattle.discipline_seat.proofs.lemmas.LogWordLemmas.{small, overtaken, no_orders, unpacked}
use Rattle.discipline_seat.proofs.lemmas.StepLemmas.{added, fits_word}
use Rattle.std.proofs.Math.Nat.{mod-eq_of_lt}
use Rattle.discipline_seat.proofs.lemmas.RuleLemmas.{seen_else, seen_here, none_append}

-- what `unpack` ensures
abbrev pub Unpacks : ℕ → Word → Type 0
Unpacks w x = (g k n r : ℕ) → g < 262144 → k < 256 → n < 524288 → r < 524288 → w ≡ pack g k n r → (x.gener ≡ g) × (x.ctrl ≡ k) × (x.number ≡ n) × (x.row ≡ r)

pub unpacks : (w : ℕ) (x : Word) → ((word : Word) → IsWord word → packed word ≡ w → x ≡ word) → Unpacks w x
unpacks w x only g k n r a b c d e =
    let word : Word = record { gener = g; ctrl = k; number = n; row = r } in
    let is = only word record { gener = omega (arith, a); ctrl = omega (arith, b); number = omega (arith, c); row = omega (arith, d) } (sym e) in
    (ap (λ (y : Word). y.gener) is, ap (λ (y : Word). y.ctrl) is, ap (λ (y : Word). y.number) is, ap (λ (y : Word). y.row) is)

pub fields_of : (rows : ℕ) (l : SeatLog) (w : ℕ) (x : Word) → rows < 262144 → IsSeatLog rows l → w ≡ word_after l → Unpacks w x → IsWordOf x l
fields_of rows l w x few h is u =
    let b = small rows l h in
    let n = b.number in
    let o = b.orders in
    let r = b.row in
    let f = u (gener_after l) (ctrl_after l) (length l) (last_change l) b.gener b.ctrl (omega arith) (omega arith) is in
    record { gener = f.0; ctrl = f.1; number = f.2; row = f.3; small_gener = omega (arith, f.0, b.gener); small_number = omega (arith, f.2); small_row = omega (arith, f.3) }

-- what was seen, whatever the story is
pub record Found (v : View) (c : ℕ) (x : Word) (w : View) : Type 0 where
  pub is : w ≡ saw v c (seen_log w c)
  pub grew : GrewByOthers c v.owner (seen_log v c) (seen_log w c)
  pub word : IsWordOf x (seen_log w c)
  pub rows : ℕ
  pub lawful : IsSeatLog rows (seen_log w c)

pub finds : (v w : View) (c found : ℕ) (x : Word) → c < length v.seen → LookFound c v found w → Unpacks found x → Found v c x w
finds v w c found x wide told u =
    let here : seen_log w c ≡ told.log = ap (λ (y : View). seen_log y c) told.is ∙ seen_here v c told.log wide in
    record {
      is = told.is ∙ ap (saw v c) (sym here);
      grew = subst (GrewByOthers c v.owner (seen_log v c)) (sym here) told.grew;
      rows = told.rows;
      lawful = subst (IsSeatLog told.rows) (sym here) told.lawful;
      word = subst (IsWordOf x) (sym here) (fields_of told.rows told.log found x told.small told.lawful told.word u);
    }

-- a view that has seen as much, and whose story has more
pub sees : (rows : ℕ) (says : ℕ → SeatLog → Story) (v w z : View) (c found : ℕ) (x : Word) → c < length v.seen → LookFound c v found w → z ≡ with_more_story w (says c (seen_log w c)) → IsSeatLog rows (seen_log w c) → Unpacks found x → LookYields rows says v c x z
sees rows says v w z c found x wide told is law u =
    let f = finds v w c found x wide told u in
    let here : seen_log z c ≡ seen_log w c = ap (λ (y : View). seen_log y c) is in
    record {
      is = is ∙ (λ i. with_more_story (f.is i) (says c (seen_log w c))) ∙ (λ i. with_more_story (saw v c (sym here i)) (says c (sym here i)));
      grew = subst (GrewByOthers c v.owner (seen_log v c)) (sym here) f.grew;
      word = subst (IsWordOf x) (sym here) f.word;
      lawful = subst (IsSeatLog rows) (sym here) law;
    }

-- the exchange was won
pub gains : (v w : View) (c : ℕ) (e : LogEntry) → c < length v.seen → ChangeMade c v (some e) w → EntryAdded v c e (suc (length (seen_log v c))) w
gains v w c e wide did = record {
  log = seen_log v c;
  is = ap (λ (y : View). seen_log y c) did.after ∙ seen_here v c (did.entry ∷ seen_log v c) wide ∙ ap (λ (x : LogEntry). x ∷ seen_log v c) (sym (some-injective e did.entry did.is));
  number = refl;
  grew = record { newer = []; is = refl; none_mine = tt };
}

-- the exchange was lost
pub overtakes : (v w : View) (c found k : ℕ) (x : Word) → c < length v.seen → LookFound c v found w → Unpacks found x → found ≢ word_after (seen_log v c) → ctrl_after (seen_log v c) ≡ k → named c k ≡ v.owner → k ≢ 0 → WasOvertaken v c (gener_after (seen_log v c)) x w
overtakes v w c found k x wide told u miss is mine some_one =
    let s = finds v w c found x wide told u in
    let here : seen_log w c ≡ told.log = ap (λ (y : View). seen_log y c) told.is ∙ seen_here v c told.log wide in
    let g = told.grew in
    let more : gener_after (seen_log v c) < gener_after (g.newer ++ seen_log v c)
    = ⊎_elim (λ (none : g.newer ≡ []). absurd (miss (told.word ∙ ap word_after (g.is ∙ ap (λ (l : SeatLog). l ++ seen_log v c) none)))) (λ lt. lt)
    (overtaken told.rows c v.owner g.newer (seen_log v c) (subst (IsSeatLog told.rows) g.is told.lawful) g.none_mine (ap (named c) is ∙ mine) (λ z. some_one (sym is ∙ z))) in
    let now : gener_after (g.newer ++ seen_log v c) ≡ gener_after (seen_log w c) = ap gener_after (sym g.is ∙ sym here) in
    record { newer = omega (arith, s.word.gener); gener = s.word.gener; number = s.word.number; grew = s.grew }

-- this order stands in the log
abbrev pub Ordered : SeatLog → ℕ → ℕ → Type 0
Ordered [] g k = ⊥
Ordered (Order g' k' ∷ es) g k = ((g' ≡ g) × (k' ≡ k)) ⊎ Ordered es g k
Ordered (Change g' k' t s f ∷ es) g k = Ordered es g k

pub ordered_in : (l : SeatLog) (g k : ℕ) → HasOrder l g k → Ordered l g k
ordered_in l g k has = go l has.0 has.1 has.2
  where
    go : (l : SeatLog) (n : ℕ) → n < length l → slice_index_or l n (Order g k) ≡ Order g k → Ordered l g k
    go [] n h is = absurd (omega (arith, h))
    go (Order g' k' ∷ es) zero h is = inl ((cc (is)), (cc (is)))
    go (Order g' k' ∷ es) (suc n) h is = inr (go es n (omega (arith, h)) is)
    go (Change g' k' t s f ∷ es) zero h is = absurd (cc (is))
    go (Change g' k' t s f ∷ es) (suc n) h is = go es n (omega (arith, h)) is

pub has_still : (newer old : SeatLog) (g k : ℕ) → Ordered old g k → Ordered (newer ++ old) g k
has_still [] old g k h = h
has_still (Order g' k' ∷ es) old g k h = inr (has_still es old g k h)
has_still (Change g' k' t s f ∷ es) old g k h = has_still es old g k h

-- behind an order that names someone stands its stamp, or a greater generation
pub behind : (rows : ℕ) (l : SeatLog) (g k : ℕ) → IsSeatLog rows l → Ordered l g k → k ≢ 0 → ((gener_after l ≡ g) × (ctrl_after l ≡ k)) ⊎ (g < gener_after l)
behind rows [] g k h has some_one = absurd has
behind rows (Order g' k' ∷ es) g k h (inl e) some_one = inl e
behind rows (Order g' k' ∷ es) g k h (inr has) some_one = ⊎_elim
    (λ (same : (gener_after es ≡ g) × (ctrl_after es ≡ k)). let lt = h.0.1 (λ z. some_one (sym same.1 ∙ z)) in inr (omega (arith, same.0)))
    (λ lt. let le = h.0.0 in inr (omega arith))
    (behind rows es g k h.1 has some_one)
behind rows (Change g' k' t s f ∷ es) g k h has some_one = behind rows es g k h.1 has some_one

-- another stamp was found
pub passed : (rows : ℕ) (says : ℕ → SeatLog → Story) (v w : View) (c g k : ℕ) (x : Word) → LookYields rows says v c x w → Ordered (seen_log v c) g k → k ≢ 0 → ¬ ((x.gener ≡ g) × (x.ctrl ≡ k)) → g < x.gener
passed rows says v w c g k x s has some_one other =
    let grew = s.grew in
    let still = subst (λ (l : SeatLog). Ordered l g k) (sym grew.is) (has_still grew.newer (seen_log v c) g k has) in
    ⊎_elim
    (λ (same : (gener_after (seen_log w c) ≡ g) × (ctrl_after (seen_log w c) ≡ k)). absurd (other (s.word.gener ∙ same.0, s.word.ctrl ∙ same.1)))
    (λ (lt : g < gener_after (seen_log w c)). let r : g < x.gener = omega (arith, s.word.gener) in r)
    (behind rows (seen_log w c) g k s.lawful still some_one)

pub grew_on : (c : ℕ) (o : Owner) (a b l : SeatLog) → GrewByOthers c o a b → GrewByOthers c o b l → GrewByOthers c o a l
grew_on c o a b l p q = record { newer = q.newer ++ p.newer; is = q.is ∙ ap (λ (m : SeatLog). q.newer ++ m) p.is ∙ sym (append_assoc q.newer p.newer a); none_mine = none_append c o q.newer p.newer q.none_mine p.none_mine }

-- an addition made the order
pub record OrderSeen (v : View) (c found g k : ℕ) (w : View) : Type 0 where
  pub log : SeatLog
  pub is : w ≡ saw v c (Order g k ∷ log)
  pub number : (x : Word) → Unpacks found x → x.number ≡ length log
  pub grew : GrewByOthers c v.owner (seen_log v c) log

pub makes : (v w : View) (c found x g k : ℕ) → v.owner ≡ Hub → OrderMade c v found x w → x + stamp_number (seen_log v c) * 274877906944 ≡ (g * 256 + k) * 274877906944 + 524288 → g < 262144 → k < 256 → OrderSeen v c found g k w
makes v w c found x g k hub a sum gs ks =
    let log : SeatLog = a.log in
    let same = no_orders c a.grew.newer (seen_log v c) (subst (λ (o : Owner). HasNoneBy c o a.grew.newer) hub a.grew.none_mine) in
    let gen_same : gener_after log ≡ gener_after (seen_log v c) = ap gener_after a.grew.is ∙ same.0 in
    let ctrl_same : ctrl_after log ≡ ctrl_after (seen_log v c) = ap ctrl_after a.grew.is ∙ same.1 in
    let b = small a.rows (Order a.gener a.ctrl ∷ log) a.lawful in
    let r = b.row in
    let o = b.orders in
    let n = b.number in
    let few = a.small in
    let word : found + x ≡ pack g k (suc (length log)) (last_change log) = ap (λ (y : ℕ). y + x) a.word ∙ added (gener_after log) (ctrl_after log) (length log) (last_change log) g k x (omega arith) in
    let fits : pack g k (suc (length log)) (last_change log) < 2 ^ 64 = fits_word g k (suc (length log)) (last_change log) gs ks (omega arith) (omega arith) in
    let wraps : (found + x) % 2 ^ 64 ≡ pack g k (suc (length log)) (last_change log) = ap (λ (y : ℕ). y % 2 ^ 64) word ∙ mod-eq_of_lt fits in
    let fields = unpacked a.gener a.ctrl (suc (length log)) (last_change log) g k (suc (length log)) (last_change log) b.ctrl ks (omega arith) (omega arith) (omega arith) (omega arith) (sym a.then_word ∙ wraps) in
    record {
      log = log;
      is = a.is ∙ (λ i. saw v c (Order (fields.0 i) (fields.1 i) ∷ log));
      number = λ y u. (fields_of a.rows log found y a.small a.lawful.1 a.word u).number;
      grew = a.grew;
    }

-- a pass's view after a step
pub still_pass : (v w z : View) (c : ℕ) (l : SeatLog) (xs : Story) → w ≡ saw v c l → z ≡ with_more_story w xs → HasNoPages xs → length v.seen ≡ length v.openings → IsPassView v → GrewWithoutPages v.stories.told v.stories.story → (length z.seen ≡ length z.openings) × IsPassView z × GrewWithoutPages z.stories.told z.stories.story
still_pass v w z c l xs ws zs free long is quiet =
    let e : z ≡ with_more_story (saw v c l) xs = zs ∙ ap (λ (y : View). with_more_story y xs) ws in (
      ap (λ (y : View). length y.seen) e ∙ length-set v.seen c l ∙ long ∙ ap (λ (y : View). length y.openings) (sym e),
      subst IsPassView (sym e) is,
      subst (λ (y : View). GrewWithoutPages y.stories.told y.stories.story) (sym e) (quiet_said xs v.stories.told v.stories.story free quiet),
    )

no_page_receipt : (c : ℕ) (o : Option LogEntry) (n : ℕ) → HasNoPages (receipt c o n)
no_page_receipt c none n = tt
no_page_receipt c (some (Order g k)) n = tt
no_page_receipt c (some (Change g k t s f)) n = (tt, tt)

no_page_refusal : (c : ℕ) (o : Option LogEntry) (l : SeatLog) → HasNoPages (refusal c o l)
no_page_refusal c none l = tt
no_page_refusal c (some (Order g k)) l = tt
no_page_refusal c (some (Change g k t s f)) l = (tt, tt)

pub adjusted_pass : (st : Step LogEntry) (m m' : Me LogEntry View) (found : ℕ) → adjusted st m found m' → length m.0.seen ≡ length m.0.openings → IsPassView m.0 → GrewWithoutPages m.0.stories.told m.0.stories.story → (length m'.0.seen ≡ length m'.0.openings) × IsPassView m'.0 × GrewWithoutPages m'.0.stories.told m'.0.stories.story
adjusted_pass st m m' found a long is quiet = dite (ℕ_discrete found st.first)
    (λ hit. let w = a.1 hit in still_pass m.0 w.0 m'.0 st.word (w.1.entry ∷ seen_log m.0 st.word) _ w.1.after w.2 (no_page_receipt st.word st.said (suc (length (seen_log m.0 st.word)))) long is quiet)
    (λ miss. let w = a.2 miss in still_pass m.0 w.0 m'.0 st.word w.1.log _ w.1.is w.2 (no_page_refusal st.word st.said (seen_log w.0 st.word)) long is quiet)

no_page_at : (a b r : Bool) (x y : StoryItem) → IsNoPage x → IsNoPage y → HasNoPages (refusal_by a b r x y)
no_page_at true true true x y h k = tt
no_page_at true true false x y h k = (k, tt)
no_page_at true false r x y h k = (h, tt)
no_page_at false b r x y h k = (h, tt)

pub no_page_asked : (rows : ℕ) (e : LogEntry) (c : ℕ) (l : SeatLog) → HasNoPages (ask rows e c l)
no_page_asked rows (Order g k) c l = tt
no_page_asked rows (Change g k t s f) c l = no_page_at (eqb (gener_after l) g) (eqb (ctrl_after l) k) (ltb (length l) rows) _ _ tt tt

asked_late : (a b g k : ℕ) (r : Bool) (x y : StoryItem) → (a ≢ g) ⊎ (b ≢ k) → refusal_by (eqb a g) (eqb b k) r x y ≡ x ∷ []
asked_late a b g k r x y other = go (eqb a g) (eqb b k) refl refl
  where
    go : (p q : Bool) → eqb a g ≡ p → eqb b k ≡ q → refusal_by p q r x y ≡ x ∷ []
    go true true e f = absurd (⊎_elim (λ n. n (eqb-true a g e)) (λ n. n (eqb-true b k f)) other)
    go true false e f = refl
    go false q e f = refl

-- a look that refuses the change
pub late_said : (rows c g k t : ℕ) (s f : _) (l : SeatLog) (x : Word) → IsWordOf x l → (x.gener ≢ g) ⊎ (x.ctrl ≢ k) → ask rows (Change g k t s f) c l ≡ WasSuperseded c g k t s f x.gener x.number ∷ []
late_said rows c g k t s f l x is other =
    asked_late (gener_after l) (ctrl_after l) g k (ltb (length l) rows) (WasSuperseded c g k t s f (gener_after l) (length l)) (WasSpent c g k t s f (length l)) (⊎_elim (λ n. inl (λ e. n (is.gener ∙ e))) (λ n. inr (λ e. n (is.ctrl ∙ e))) other)
    ∙ (λ i. WasSuperseded c g k t s f (sym is.gener i) (sym is.number i) ∷ [])

pub full_said : (rows c g k t : ℕ) (s f : _) (l : SeatLog) (x : Word) → IsWordOf x l → x.gener ≡ g → x.ctrl ≡ k → rows ≤ x.number → ask rows (Change g k t s f) c l ≡ WasSpent c g k t s f x.number ∷ []
full_said rows c g k t s f l x is a b le =
    (λ i. refusal_by (eq-eqb (gener_after l) g (sym is.gener ∙ a) i) (eq-eqb (ctrl_after l) k (sym is.ctrl ∙ b) i) (le-ltb (length l) rows (omega (arith, is.number)) i) (WasSuperseded c g k t s f (gener_after l) (length l)) (WasSpent c g k t s f (sym is.number i)))

pub nothing_said : (rows c g k t : ℕ) (s f : _) (l : SeatLog) (x : Word) → IsWordOf x l → x.gener ≡ g → x.ctrl ≡ k → x.number < rows → ask rows (Change g k t s f) c l ≡ []
nothing_said rows c g k t s f l x is a b lt =
    (λ i. refusal_by (eq-eqb (gener_after l) g (sym is.gener ∙ a) i) (eq-eqb (ctrl_after l) k (sym is.ctrl ∙ b) i) (lt-ltb (length l) rows (omega (arith, is.number)) i) (WasSuperseded c g k t s f (gener_after l) (length l)) (WasSpent c g k t s f (length l)))

pub more_told : (v w : View) (c g : ℕ) (x : Word) (xs : Story) → WasOvertaken v c g x w → WasOvertaken v c g x (with_more_story w xs)
more_told v w c g x xs o = record { newer = o.newer; gener = o.gener; number = o.number; grew = o.grew }

pub more_gains : (v w : View) (c : ℕ) (e : LogEntry) (n : ℕ) (xs : Story) → EntryAdded v c e n w → EntryAdded v c e n (with_more_story w xs)
more_gains v w c e n xs g = record { log = g.log; is = g.is; number = g.number; grew = g.grew }

pub grown_tale : (v w z : View) (c : ℕ) (l : SeatLog) (xs : Story) → w ≡ saw v c l → z ≡ with_more_story w xs → z.stories ≡ say xs v.stories
grown_tale v w z c l xs ws zs = ap (λ (y : View). y.stories) (zs ∙ ap (λ (y : View). with_more_story y xs) ws)

-- who lost the exchange finds a greater generation
pub later : (v w : View) (c found g k : ℕ) → c < length v.seen → LookFound c v found w → found ≢ word_after (seen_log v c) → gener_after (seen_log v c) ≡ g → ctrl_after (seen_log v c) ≡ k → named c k ≡ v.owner → k ≢ 0 → g < gener_after (seen_log w c)
later v w c found g k wide told miss same is mine some_one =
    let here : seen_log w c ≡ told.log = ap (λ (y : View). seen_log y c) told.is ∙ seen_here v c told.log wide in
    let p = told.grew in
    let more : gener_after (seen_log v c) < gener_after (p.newer ++ seen_log v c)
    = ⊎_elim (λ (none_new : p.newer ≡ []). absurd (miss (told.word ∙ ap word_after (p.is ∙ ap (λ (l : SeatLog). l ++ seen_log v c) none_new)))) (λ lt. lt)
    (overtaken told.rows c v.owner p.newer (seen_log v c) (subst (IsSeatLog told.rows) p.is told.lawful) p.none_mine (ap (named c) is ∙ mine) (λ z. some_one (sym is ∙ z))) in
    let now : gener_after (p.newer ++ seen_log v c) ≡ gener_after (seen_log w c) = ap gener_after (sym p.is ∙ sym here) in
    omega (arith, more, now, same)

-- behind an order that the pass has seen
pub newer_than : (rows : ℕ) (old new : SeatLog) (g k : ℕ) → Extends old new → IsSeatLog rows new → Ordered old g k → k ≢ 0 → ¬ ((gener_after new ≡ g) × (ctrl_after new ≡ k)) → g < gener_after new
newer_than rows old new g k e h has some_one other = ⊎_elim (λ same. absurd (other same)) (λ lt. lt) (behind rows new g k h (subst (λ (l : SeatLog). Ordered l g k) (sym e.is) (has_still e.newer old g k has)) some_one)

-- a look leaves what was seen of other clocks
looked_others : (v w z : View) (c : ℕ) (l : SeatLog) (xs : Story) → w ≡ saw v c l → z ≡ with_more_story w xs → LeavesOthers v c z
looked_others v w z c l xs ws zs =
    let e : z ≡ with_more_story (saw v c l) xs = zs ∙ ap (λ (y : View). with_more_story y xs) ws in
    record {
      owner = ap (λ (y : View). y.owner) e;
      others = λ d n. ap (λ (y : View). seen_log y d) e ∙ seen_else v c l d n;
      wide = ap (λ (y : View). length y.seen) e ∙ length-set v.seen c l;
    }

pub adjusted_others : (st : Step LogEntry) (m m' : Me LogEntry View) (found : ℕ) → adjusted st m found m' → LeavesOthers m.0 st.word m'.0
adjusted_others st m m' found a = dite (ℕ_discrete found st.first)
    (λ hit. let w = a.1 hit in looked_others m.0 w.0 m'.0 st.word (w.1.entry ∷ seen_log m.0 st.word) _ w.1.after w.2)
    (λ miss. let w = a.2 miss in looked_others m.0 w.0 m'.0 st.word w.1.log _ w.1.is w.2)

pub saw_leaves : (v w : View) (c : ℕ) (l : SeatLog) → w ≡ saw v c l → LeavesOthers v c w
saw_leaves v w c l is = record {
  owner = ap (λ (y : View). y.owner) is;
  others = λ d n. ap (λ (y : View). seen_log y d) is ∙ seen_else v c l d n;
  wide = ap (λ (y : View). length y.seen) is ∙ length-set v.seen c l;
}

pub look_leaves : (rows : ℕ) (says : ℕ → SeatLog → Story) (v w : View) (c : ℕ) (x : Word) → LookYields rows says v c x w → LeavesOthers v c w
look_leaves rows says v w c x s = looked_others v (saw v c (seen_log w c)) w c (seen_log w c) (says c (seen_log w c)) refl s.is

pub leaves_on : (a b d : View) (c : ℕ) → LeavesOthers a c b → LeavesOthers b c d → LeavesOthers a c d
leaves_on a b d c p q = record { owner = q.owner ∙ p.owner; others = λ e n. q.others e n ∙ p.others e n; wide = q.wide ∙ p.wide }

-- a row that was prepared is seen by nobody
pub leaves_row : (a b : View) (c : ℕ) (s : ClockState) → LeavesOthers a c b → LeavesOthers a c (with_row b s)
leaves_row a b c s p = record { owner = p.owner; others = p.others; wide = p.wide }
