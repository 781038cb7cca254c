-- What each step may do.
use Rattle.std.proofs.Common.{lt_of_not-le, le_refl, replicate, get_or, ltb, eqb, ◌≡◌, ◌≢◌, ℕ, zero, suc, ◌+◌, ◌*◌, ◌%◌, ◌^◌, ◌<◌, ◌≤◌, ◌⊎◌, inl, inr, ⊎_elim, List, [], ◌∷◌, ◌++◌, length, set, slice_index, refl, sym, ap, ◌∙◌, subst, arith}
use Rattle.model_clock.specs.declared.state.ClockState.{ClockState}
use mathlib.Core.Option.{some, none, some-ne-none, some-injective}
use native.Mathlib.Decide.{dec_le}
use mathlib.Core.Logic.{dite}
use lib.ListN.{get_elem?}
use prog.Atomic.{either}
use Rattle.atomic_table.specs.Table.{State, Me, Step, step, keeps, Allows, Splits, Joins}
use Rattle.atomic_table.proofs.Lists.{at_set, set_else, set_again, exchanged}
use Rattle.ptp_profile.specs.declared.seats.LogEntry.{LogEntry}
use Rattle.ptp_profile.specs.declared.seats.LogEntry.TheVariants.{Order, Change}
use Rattle.discipline_seat.specs.declared.view.Owner.{Owner}
use Rattle.discipline_seat.specs.declared.view.Owner.TheVariants.{Hub, Nobody}
use Rattle.discipline_seat.specs.declared.view.View.{View}
use Rattle.discipline_seat.specs.declared.view.StoryView.{StoryView}
use Rattle.ptp_profile.specs.Roles.SeatLogs.{clock_after}
use Rattle.model_clock.specs.Clock.{clock_at}
use Rattle.discipline_seat.proofs.lemmas.RowLemmas.{no_draft, part_or_whole}
use Rattle.discipline_seat.specs.Rule.SeatRule.{DraftHolds, IsJoined, IsUnmade, LogsHold, RowsHold, SeatRule, StoriesFit, StoriesHold, row_place}
use Rattle.discipline_seat.specs.Rule.SeatView.{AreDistinct, IsAmong, IsPassView, JoinTellsLog, after_closing as gathered, after_hearing as heard, after_join as both, after_learning as learnt, after_look as saw, after_split as dealt, after_telling as forget, new_pass_view as new_pass, note_of as note, row_words, seen_log, spent_view as spent, view_at_opening as opened, with_more_story, with_page}
use Rattle.discipline_seat.specs.Rule.Story.{Story, StoryExtends, longer_story as more, page_item, receipt_item as receipt, refusal_item as refusal, stories_after_closing, stories_after_hearing, stories_after_learning, story_of}
use Rattle.discipline_seat.specs.Rule.SeatLog.{AreMadeBy, Extends, GrewByOthers, HasNoCircle, HasNoneBy, IsSeatLog, LeadsTo, MayComeNext, SeatLog, ctrl_after, gener_after, last_change, maker_of, owner_named as named, packed_word as pack, pass_owner, word_after}
use Rattle.ptp_profile.specs.Roles.SeatLogs.{order_count}
use Rattle.discipline_seat.specs.Rule.SeatStep.{LookFound, exchange_tells as adjusted, join_tells as told, look_tells as looked, order_tells as appointed}
use lib.Seq.{set-get_or}
use Rattle.std.proofs.Math.Nat.{mod-eq_of_lt}
use Rattle.std.proofs.lemmas.List.{append-nil, length-replicate}
use Rattle.discipline_seat.proofs.lemmas.LogWordLemmas.{small, one_length, no_more, lawful_tail, no_orders, Together, put_together, grew_second, grew_between, at_merged}
use Rattle.discipline_seat.proofs.lemmas.StoryEndLemmas.{ends_refl, ends_is, ends_on, longer_of, set_at_same}
use Rattle.discipline_seat.proofs.lemmas.StoryLemmas.{same_stories, keeps_stories, added_story, says_more, hub_learns, unfit, blank_fits, deals_story}
use Rattle.discipline_seat.proofs.lemmas.RuleLemmas.{seen_here, put, at_put, nobody_made, put_here, put_else, blank, moved, nth_somebody, nth_not_hub, one_pass}

abbrev St : Type 0
St = State LogEntry View

abbrev M : Type 0
M = Me LogEntry View

pub same_forest : (f g : ℕ → ℕ) → ((d : ℕ) → f d ≡ g d) → HasNoCircle f → HasNoCircle g
same_forest f g e h = subst HasNoCircle (λ i d. e d i) h

forest_kept : (logs : ℕ → SeatLog) (c : ℕ) (l : SeatLog) → ctrl_after l ≡ ctrl_after (logs c) → HasNoCircle (λ d. ctrl_after (logs d)) → HasNoCircle (λ d. ctrl_after (put logs c l d))
forest_kept logs c l e = same_forest (λ d. ctrl_after (logs d)) (λ d. ctrl_after (put logs c l d)) (λ d. at_put logs c l (λ x m. ctrl_after (logs x) ≡ ctrl_after m) d (sym e) (λ _. refl))

within : (n clocks x c : ℕ) → n ≡ clocks + x → c < clocks → c < n
within n clocks x c e h = omega (arith, e, h)

-- a step that sees all, where the word stays
looks_at : (rows clocks : ℕ) (os : List ClockState) (s : St) (k : LogsHold rows clocks os s) (id : ℕ) (v : View) (c : ℕ) → get_elem? s.views id ≡ some v → c < length v.seen → c < clocks
    → LogsHold rows clocks os record { words = set s.words c (slice_index s.words c); homes = s.homes; views = set s.views id (saw v c (k.logs c)) }
looks_at rows clocks os s k id v c at wide near =
    let inside : c < length s.words = within (length s.words) clocks (clocks * rows * 3) c k.wide near in
    subst (λ (n : ℕ). LogsHold rows clocks os record { words = set s.words c n; homes = s.homes; views = set s.views id (saw v c (k.logs c)) }) (sym (k.words_are c near))
    (moved rows clocks os s k id v c [] at wide inside near (λ _ _ _ _. tt) tt (k.rows_are c near) (k.lawful c) (forest_kept k.logs c (k.logs c) refl k.forest))

tells : (rows clocks : ℕ) (os : List ClockState) (s : St) (k : LogsHold rows clocks os s) (id : ℕ) (v : View) (c : ℕ) → get_elem? s.views id ≡ some v → c < clocks → LookFound c v (slice_index s.words c) (saw v c (k.logs c))
tells rows clocks os s k id v c at near =
    let inside : c < length s.words = within (length s.words) clocks (clocks * rows * 3) c k.wide near in
    record { log = k.logs c; rows = rows; is = refl; word = k.words_are c near; lawful = k.lawful c; small = k.small; grew = k.each id v at c }

-- a pass that has a view was made
passed_on : (rows clocks : ℕ) (os : List ClockState) (s : St) (k : LogsHold rows clocks os s) (id : ℕ) (v : View) → get_elem? s.views id ≡ some v → (j : ℕ) (h : View) → get_elem? s.views j ≡ some h → h.owner ≡ Hub → (m : ℕ) × (v.owner ≡ pass_owner v.ports m) → {o : Owner} → o ≡ v.owner → (m : ℕ) × (m < h.passes) × (o ≡ pass_owner h.ports m)
passed_on rows clocks os s k id v at j h there hub number is =
    let ports : v.ports ≡ h.ports = k.ports_are id j v h at there (λ n. nth_somebody v.ports number.0 (ltb number.0 v.ports) (sym number.1 ∙ n)) (λ n. absurd (cc (sym hub ∙ n))) in
    let mine : v.owner ≡ pass_owner h.ports number.0 = number.1 ∙ ap (λ (p : ℕ). pass_owner p number.0) ports in
    (number.0, dite (dec_le h.passes number.0) (λ le. absurd ((k.unmade j h there hub number.0 le).views_of id v at mine)) (λ gt. lt_of_not-le gt), is ∙ mine)

-- the word after an order
pub added : (g k n r g' k' x : ℕ) → x + (g * 256 + k) * 274877906944 ≡ (g' * 256 + k') * 274877906944 + 524288 → pack g k n r + x ≡ pack g' k' (suc n) r
added g k n r g' k' x e = omega arith

pub fits_word : (g k n r : ℕ) → g < 262144 → k < 256 → n < 524288 → r < 524288 → pack g k n r < 2 ^ 64
fits_word g k n r a b c d = omega arith

more_made : (c ports n m : ℕ) (l : SeatLog) → n ≤ m → AreMadeBy c ports n l → AreMadeBy c ports m l
more_made c ports n m [] le h = tt
more_made c ports n m (e ∷ es) le h = (⊎_elim inl (λ (t : (p : ℕ) × (p < n) × (maker_of c e ≡ pass_owner ports p)). let lt = t.1 in inr (t.0, omega arith, t.2)) h.0, more_made c ports n m es le h.1)

-- a view that says the same of what was seen
pub reviewed : (rows clocks : ℕ) (os : List ClockState) (s : St) (k : LogsHold rows clocks os s) (id : ℕ) (v w : View) → get_elem? s.views id ≡ some v → w.owner ≡ v.owner → ((c : ℕ) → seen_log w c ≡ seen_log v c) → ((c : ℕ) → JoinTellsLog w c) → v.passes ≤ w.passes → w.ports ≡ v.ports → w.joined ≡ v.joined → DraftHolds rows clocks s.words w
    → LogsHold rows clocks os record { words = s.words; homes = s.homes; views = set s.views id w }
reviewed rows clocks os s k id v w at owner seen remembers passes ports joined draft = record {
  rows_are = k.rows_are;
  drafts = λ j x e. ⊎_elim (λ (t : (j ≡ id) × (w ≡ x)). subst (DraftHolds rows clocks s.words) t.1 draft) (λ (t : (j ≢ id) × (get_elem? s.views j ≡ some x)). k.drafts j x t.1) (at_set s.views id j w x e);
  ports_are = λ i j x y e f a b. ports_are i j x y a b (at_set s.views id i w x e) (at_set s.views id j w y f);
  makers = λ j x e hub c. ⊎_elim (λ (t : (j ≡ id) × (w ≡ x)). subst (λ (u : View). AreMadeBy c u.ports u.passes (k.logs c)) t.1 (subst (λ (p : ℕ). AreMadeBy c p w.passes (k.logs c)) (sym ports) (more_made c v.ports v.passes w.passes (k.logs c) passes (k.makers id v at (sym owner ∙ ap (λ (u : View). u.owner) t.1 ∙ hub) c)))) (λ (t : (j ≢ id) × (get_elem? s.views j ≡ some x)). k.makers j x t.1 hub c) (at_set s.views id j w x e);
  gone = λ j x e hub m has. gone j x hub m has (at_set s.views id j w x e);
  unmade = λ j x e hub m le. unmade j x hub m le (at_set s.views id j w x e);
  logs = k.logs;
  small = k.small;
  wide = k.wide;
  words_are = k.words_are;
  lawful = k.lawful;
  forest = k.forest;
  each = λ j x e c. ⊎_elim
      (λ (t : (j ≡ id) × (w ≡ x)). subst (λ (u : View). GrewByOthers c u.owner (seen_log u c) (k.logs c)) t.1 (subst (λ (q : Owner × SeatLog). GrewByOthers c q.0 q.1 (k.logs c)) (λ i. (sym owner i, sym (seen c) i)) (k.each id v at c)))
      (λ (t : (j ≢ id) × (get_elem? s.views j ≡ some x)). k.each j x t.1 c)
      (at_set s.views id j w x e);
  remembers = λ j x e c. ⊎_elim (λ (t : (j ≡ id) × (w ≡ x)). subst (λ (u : View). JoinTellsLog u c) t.1 (remembers c)) (λ (t : (j ≢ id) × (get_elem? s.views j ≡ some x)). k.remembers j x t.1 c) (at_set s.views id j w x e);
  single = λ j x e. ⊎_elim (λ (t : (j ≡ id) × (w ≡ x)). subst (λ (u : View). AreDistinct u.joined) t.1 (subst AreDistinct (sym joined) (k.single id v at))) (λ (t : (j ≢ id) × (get_elem? s.views j ≡ some x)). k.single j x t.1) (at_set s.views id j w x e);
  apart = λ i j x y e f. apart i j x y (at_set s.views id i w x e) (at_set s.views id j w y f);
}
  where
    ports_are : (i j : ℕ) (x y : View) → x.owner ≢ Nobody → y.owner ≢ Nobody → ((i ≡ id) × (w ≡ x)) ⊎ ((i ≢ id) × (get_elem? s.views i ≡ some x)) → ((j ≡ id) × (w ≡ y)) ⊎ ((j ≢ id) × (get_elem? s.views j ≡ some y)) → x.ports ≡ y.ports
    ports_are i j x y a b (inl p) (inl q) = sym (ap (λ (u : View). u.ports) p.1) ∙ ap (λ (u : View). u.ports) q.1
    ports_are i j x y a b (inl p) (inr q) = sym (ap (λ (u : View). u.ports) p.1) ∙ ports ∙ k.ports_are id j v y at q.1 (λ n. a (sym (ap (λ (u : View). u.owner) p.1) ∙ owner ∙ n)) b
    ports_are i j x y a b (inr p) (inl q) = k.ports_are i id x v p.1 at a (λ n. b (sym (ap (λ (u : View). u.owner) q.1) ∙ owner ∙ n)) ∙ sym ports ∙ ap (λ (u : View). u.ports) q.1
    ports_are i j x y a b (inr p) (inr q) = k.ports_are i j x y p.1 q.1 a b

    away : (o : Owner) → ((j : ℕ) (x : View) → get_elem? s.views j ≡ some x → x.owner ≢ o) → (j : ℕ) (x : View) → get_elem? (set s.views id w) j ≡ some x → x.owner ≢ o
    away o free j x e = ⊎_elim (λ (t : (j ≡ id) × (w ≡ x)). λ m. free id v at (sym owner ∙ ap (λ (u : View). u.owner) t.1 ∙ m)) (λ (t : (j ≢ id) × (get_elem? s.views j ≡ some x)). free j x t.1) (at_set s.views id j w x e)

    gone : (j : ℕ) (x : View) → x.owner ≡ Hub → (m : ℕ) → IsAmong m x.joined → ((j ≡ id) × (w ≡ x)) ⊎ ((j ≢ id) × (get_elem? s.views j ≡ some x)) → (m < x.passes) × IsJoined k.logs (set s.views id w) (pass_owner x.ports m) x
    gone j x hub m has (inl t) =
        let old = k.gone id v at (sym owner ∙ ap (λ (u : View). u.owner) t.1 ∙ hub) m (subst (IsAmong m) (sym (ap (λ (u : View). u.joined) t.1) ∙ joined) has) in
        let lt : m < w.passes = (let a = old.0 in omega arith) in
        subst (λ (u : View). (m < u.passes) × IsJoined k.logs (set s.views id w) (pass_owner u.ports m) u) t.1
        (lt, record { grew = λ c. subst (λ (q : ℕ × SeatLog). GrewByOthers c (pass_owner q.0 m) q.1 (k.logs c)) (λ i. (sym ports i, sym (seen c) i)) (old.1.grew c); views_of = away (pass_owner w.ports m) (subst (λ (p : ℕ). (j : ℕ) (y : View) → get_elem? s.views j ≡ some y → y.owner ≢ pass_owner p m) (sym ports) old.1.views_of) })
    gone j x hub m has (inr t) = let old = k.gone j x t.1 hub m has in (old.0, record { grew = old.1.grew; views_of = away (pass_owner x.ports m) old.1.views_of })

    still : (o : Owner) → IsUnmade k.logs s.views o → IsUnmade k.logs (set s.views id w) o
    still o u = record {
      entries = u.entries;
      views_of = λ j x e. ⊎_elim (λ (t : (j ≡ id) × (w ≡ x)). λ m. u.views_of id v at (sym owner ∙ ap (λ (y : View). y.owner) t.1 ∙ m)) (λ (t : (j ≢ id) × (get_elem? s.views j ≡ some x)). u.views_of j x t.1) (at_set s.views id j w x e);
    }

    unmade : (j : ℕ) (x : View) → x.owner ≡ Hub → (m : ℕ) → x.passes ≤ m → ((j ≡ id) × (w ≡ x)) ⊎ ((j ≢ id) × (get_elem? s.views j ≡ some x)) → IsUnmade k.logs (set s.views id w) (pass_owner x.ports m)
    unmade j x hub m le (inl t) =
        let more : w.passes ≤ m = subst (λ (q : ℕ). q ≤ m) (sym (ap (λ (y : View). y.passes) t.1)) le in
        subst (λ (q : ℕ). IsUnmade k.logs (set s.views id w) (pass_owner q m)) (sym ports ∙ ap (λ (y : View). y.ports) t.1) (still (pass_owner v.ports m) (k.unmade id v at (sym owner ∙ ap (λ (y : View). y.owner) t.1 ∙ hub) m (omega arith)))
    unmade j x hub m le (inr t) = still (pass_owner x.ports m) (k.unmade j x t.1 hub m le)

    apart : (i j : ℕ) (x y : View) → ((i ≡ id) × (w ≡ x)) ⊎ ((i ≢ id) × (get_elem? s.views i ≡ some x)) → ((j ≡ id) × (w ≡ y)) ⊎ ((j ≢ id) × (get_elem? s.views j ≡ some y)) → x.owner ≡ y.owner → x.owner ≢ Nobody → i ≡ j
    apart i j x y (inl a) (inl b) owners somebody = a.0 ∙ sym b.0
    apart i j x y (inl a) (inr b) owners somebody = let mine = sym owner ∙ ap (λ (u : View). u.owner) a.1 in a.0 ∙ k.apart id j v y at b.1 (mine ∙ owners) (λ m. somebody (sym mine ∙ m))
    apart i j x y (inr a) (inl b) owners somebody = let mine = sym owner ∙ ap (λ (u : View). u.owner) b.1 in k.apart i id x v a.1 at (owners ∙ sym mine) somebody ∙ sym b.0
    apart i j x y (inr a) (inr b) owners somebody = k.apart i j x y a.1 b.1 owners somebody

set_there : (l : List View) (i : ℕ) (a b : View) → get_elem? l i ≡ some a → get_elem? (set l i b) i ≡ some b
set_there [] i a b e = absurd (some-ne-none a (sym e))
set_there (x ∷ xs) zero a b e = refl
set_there (x ∷ xs) (suc i) a b e = set_there xs i a b e

set_twice : (l : List View) (i : ℕ) (a b : View) → set (set l i a) i b ≡ set l i b
set_twice [] i a b = refl
set_twice (x ∷ xs) zero a b = refl
set_twice (x ∷ xs) (suc i) a b = ap (λ (l : List View). x ∷ l) (set_twice xs i a b)

-- the view that a step left, with more of its story
told_more : (rows clocks : ℕ) (os : List ClockState) (ws : List ℕ) (hs : _) (views : List View) (id : ℕ) (v w : View) (xs : Story) → get_elem? views id ≡ some v → LogsHold rows clocks os record { words = ws; homes = hs; views = set views id w }
    → LogsHold rows clocks os record { words = ws; homes = hs; views = set views id (with_more_story w xs) }
told_more rows clocks os ws hs views id v w xs at k =
    let there : get_elem? (set views id w) id ≡ some w = set_there views id v w at in
    subst (λ (l : List View). LogsHold rows clocks os record { words = ws; homes = hs; views = l }) (set_twice views id w (with_more_story w xs))
    (reviewed rows clocks os record { words = ws; homes = hs; views = set views id w } k id w (with_more_story w xs) there refl (λ _. refl) (λ d. k.remembers id w there d) (le_refl _) refl refl (no_draft rows clocks ws (with_more_story w xs) refl))

pub looks : (rows clocks : ℕ) (os : List ClockState) (n id : ℕ) (me : M) (c limit : ℕ) (says : ℕ → SeatLog → Story) → c < length me.0.seen → c < clocks → IsPassView me.0 → limit ≡ rows → Allows (SeatRule rows clocks os) n id me c (λ x. x) (looked limit says (step n c 0 0 none) me)
looks rows clocks os n id me c limit says wide near is same s k _ at _ =
    let w : View = saw me.0 c (k.0.logs c) in
    let xs : Story = says c (seen_log w c) in (
      with_more_story w xs,
      keeps,
      tt,
      (told_more rows clocks os (set s.words c (slice_index s.words c)) s.homes s.views id me.0 w xs at (looks_at rows clocks os s k.0 id me.0 c at wide near), says_more rows clocks os s k.0 k.1 id me.0 (with_more_story w xs) xs at is refl refl refl refl),
      (refl, (w, tells rows clocks os s k.0 id me.0 c at near, refl, subst (λ (q : ℕ × SeatLog). IsSeatLog q.0 q.1) (λ i. (sym same i, sym (seen_here me.0 c (k.0.logs c) wide) i)) (k.0.lawful c))),
    )

-- the row behind what was seen, once the change stands there
drafted : (rows clocks : ℕ) (os : List ClockState) (words : List ℕ) (v : View) (c g k t : ℕ) (st fr : _) (l : SeatLog) → l ≡ seen_log v c → v.draft_clock ≡ c
    → v.draft ≡ row_words (clock_after (clock_at os c) (Change g k t st fr ∷ seen_log v c)) → DraftHolds rows clocks words v → RowsHold rows clocks os words c l
    → RowsHold rows clocks os words c (Change g k t st fr ∷ l)
drafted rows clocks os words v c g k t st fr l all for_clock draft stored before g' k' t' x' f' b ext =
    let e : LogEntry = Change g k t st fr in
    let w : LogEntry = Change g' k' t' x' f' in
    ⊎_elim
    (λ (whole : (w ≡ e) × (b ≡ l)).
    let seen : b ≡ seen_log v c = whole.1 ∙ all in
    λ j few.
    let d = stored j (subst (λ (m : List ℕ). j < length m) (sym draft) few) in
    subst (λ (q : LogEntry × SeatLog). slice_index words (row_place rows clocks c (length q.1) j) ≡ slice_index (row_words (clock_after (clock_at os c) (q.0 ∷ q.1))) j) (λ i. (sym whole.0 i, sym seen i))
    (subst (λ (m : ℕ). slice_index words (row_place rows clocks m (length (seen_log v m)) j) ≡ slice_index v.draft j) for_clock d.stands ∙ ap (λ (m : List ℕ). slice_index m j) draft))
    (λ part. before g' k' t' x' f' b part)
    (part_or_whole w e b l ext)

-- an order has no row
no_row : (rows clocks : ℕ) (os : List ClockState) (words : List ℕ) (c g k : ℕ) (l : SeatLog) → RowsHold rows clocks os words c l → RowsHold rows clocks os words c (Order g k ∷ l)
no_row rows clocks os words c g k l before g' k' t' x' f' b ext =
    ⊎_elim (λ (whole : (Change g' k' t' x' f' ≡ Order g k) × (b ≡ l)). absurd (cc (whole.0))) (λ part. before g' k' t' x' f' b part) (part_or_whole (Change g' k' t' x' f') (Order g k) b l ext)

pub adjusts : (rows clocks : ℕ) (os : List ClockState) (n id : ℕ) (me : M) (c old new g k t : ℕ) (st fr : _) → c < length me.0.seen → c < clocks → old ≡ word_after (seen_log me.0 c) → new ≡ word_after (Change g k t st fr ∷ seen_log me.0 c)
    → MayComeNext rows (seen_log me.0 c) (Change g k t st fr) → named c k ≡ me.0.owner → IsPassView me.0
    → me.0.draft_clock ≡ c → me.0.draft ≡ row_words (clock_after (clock_at os c) (Change g k t st fr ∷ seen_log me.0 c))
    → Allows (SeatRule rows clocks os) n id me c (λ x. either (eqb x old) new x) (adjusted (step n c old new (some (Change g k t st fr))) me)
adjusts rows clocks os n id me c old new g k t st fr wide near was then_is follows mine is for_clock draft s ruled _ at _ =
    let kept = ruled.0 in
    let number : (m : ℕ) × (me.0.owner ≡ pass_owner me.0.ports m) = (me.0.number, is) in
    let y : ℕ = slice_index s.words c in
    let e : LogEntry = Change g k t st fr in
    let inside : c < length s.words = within (length s.words) clocks (clocks * rows * 3) c kept.wide near in
    let grew = kept.each id me.0 at c in
    exchanged y old new
    (λ z. (w : View) × (a : _) × Rattle.atomic_table.specs.Table.Valid s.homes me.1 a × SeatRule rows clocks os (Rattle.atomic_table.specs.Table.stepped s c z id me.1 w a) × adjusted (step n c old new (some e)) me y (w, Rattle.atomic_table.specs.Table.carried_after me.1 a))
    (λ hit.
    let old_lawful = lawful_tail rows grew.newer (seen_log me.0 c) (subst (IsSeatLog rows) grew.is (kept.lawful c)) in
    let all : kept.logs c ≡ seen_log me.0 c = no_more grew.newer (seen_log me.0 c) (kept.logs c) grew.is (one_length rows (kept.logs c) (seen_log me.0 c) kept.small (kept.lawful c) old_lawful (sym (kept.words_are c near) ∙ hit ∙ was)) in
    let l : SeatLog = e ∷ seen_log me.0 c in
    let l_is : e ∷ kept.logs c ≡ l = ap (λ (m : SeatLog). e ∷ m) all in
    let done : LogsHold rows clocks os record { words = set s.words c (word_after (e ∷ kept.logs c)); homes = s.homes; views = set s.views id (saw me.0 c (e ∷ kept.logs c)) }
    = moved rows clocks os s kept id me.0 c (e ∷ []) at wide inside near (λ j h f is_hub. (inr (passed_on rows clocks os s kept id me.0 at j h f is_hub number (ap (λ (o : Owner). o) mine)), tt)) (mine, tt)
    (drafted rows clocks os s.words me.0 c g k t st fr (kept.logs c) all for_clock draft (kept.drafts id me.0 at) (kept.rows_are c near)) (subst (λ (m : SeatLog). MayComeNext rows m e) (sym all) follows, kept.lawful c) (forest_kept kept.logs c (e ∷ kept.logs c) refl kept.forest) in (
      with_more_story (saw me.0 c l) (receipt c (some e) (suc (length (seen_log me.0 c)))),
      keeps,
      tt,
      (
        told_more rows clocks os (set s.words c new) s.homes s.views id me.0 (saw me.0 c l) (receipt c (some e) (suc (length (seen_log me.0 c)))) at
            (subst (λ (q : ℕ × SeatLog). LogsHold rows clocks os record { words = set s.words c q.0; homes = s.homes; views = set s.views id (saw me.0 c q.1) }) (λ i. ((ap word_after l_is ∙ sym then_is) i, l_is i)) done),
        says_more rows clocks os s kept ruled.1 id me.0 (with_more_story (saw me.0 c l) (receipt c (some e) (suc (length (seen_log me.0 c))))) (receipt c (some e) (suc (length (seen_log me.0 c)))) at is refl refl refl refl,
      ),
      (refl, (λ _. (saw me.0 c l, record { entry = e; is = refl; after = refl }, refl)), (λ miss. absurd (miss hit))),
    ))
    (λ miss.
    let w : View = saw me.0 c (kept.logs c) in
    let xs : Story = refusal c (some e) (seen_log w c) in (
      with_more_story w xs,
      keeps,
      tt,
      (told_more rows clocks os (set s.words c (slice_index s.words c)) s.homes s.views id me.0 w xs at (looks_at rows clocks os s kept id me.0 c at wide near), says_more rows clocks os s kept ruled.1 id me.0 (with_more_story w xs) xs at is refl refl refl refl),
      (refl, (λ hit. absurd (miss hit)), (λ _. (w, tells rows clocks os s kept id me.0 c at near, refl))),
    ))

pub appoints : (rows clocks : ℕ) (os : List ClockState) (n id : ℕ) (me : M) (c x g k : ℕ) → c < length me.0.seen → c < clocks → me.0.owner ≡ Hub
    → x + (gener_after (seen_log me.0 c) * 256 + ctrl_after (seen_log me.0 c)) * 274877906944 ≡ (g * 256 + k) * 274877906944 + 524288
    → MayComeNext rows (seen_log me.0 c) (Order g k) → HasNoCircle (λ d. ctrl_after (put (seen_log me.0) c (Order g k ∷ seen_log me.0 c) d))
    → Allows (SeatRule rows clocks os) n id me c (λ y. (y + x) % 2 ^ 64) (appointed (step n c x 0 none) me)
appoints rows clocks os n id me c x g k wide near hub sum follows forest s ruled _ at _ =
    let kept = ruled.0 in
    let inside : c < length s.words = within (length s.words) clocks (clocks * rows * 3) c kept.wide near in
    let grew = kept.each id me.0 at c in
    let e : LogEntry = Order g k in
    let now : SeatLog = kept.logs c in
    let same = no_orders c grew.newer (seen_log me.0 c) (subst (λ (o : Owner). HasNoneBy c o grew.newer) hub grew.none_mine) in
    let gen_same : gener_after now ≡ gener_after (seen_log me.0 c) = ap gener_after grew.is ∙ same.0 in
    let ctrl_same : ctrl_after now ≡ ctrl_after (seen_log me.0 c) = ap ctrl_after grew.is ∙ same.1 in
    let orders_same : order_count now ≡ order_count (seen_log me.0 c) = ap order_count grew.is ∙ same.2 in
    let follows' : MayComeNext rows now e = (omega (arith, follows.0), (λ busy. let lt = follows.1 (λ z. busy (ctrl_same ∙ z)) in omega arith), follows.2, follows.3, omega (arith, follows.4)) in
    let lawful : IsSeatLog rows (e ∷ now) = (follows', kept.lawful c) in
    let b = small rows (e ∷ now) lawful in
    let word : slice_index s.words c + x ≡ word_after (e ∷ now) = ap (λ (y : ℕ). y + x) (kept.words_are c near) ∙ added (gener_after now) (ctrl_after now) (length now) (last_change now) g k x (omega arith) in
    let fits : word_after (e ∷ now) < 2 ^ 64 = let r = b.row in let o = b.orders in let m = b.number in let few = kept.small in fits_word g k (suc (length now)) (last_change now) follows.2 follows.3 (omega arith) (omega arith) in
    let wraps : (slice_index s.words c + x) % 2 ^ 64 ≡ word_after (e ∷ now) = ap (λ (y : ℕ). y % 2 ^ 64) word ∙ mod-eq_of_lt fits in
    let all_seen : (d : ℕ) → ctrl_after (put (seen_log me.0) c (e ∷ seen_log me.0 c) d) ≡ ctrl_after (put kept.logs c (e ∷ now) d)
    = λ d. at_put kept.logs c (e ∷ now) (λ y m. y ≡ d → ctrl_after (put (seen_log me.0) c (e ∷ seen_log me.0 c) d) ≡ ctrl_after m) d
    (λ z. ap ctrl_after (ap (put (seen_log me.0) c (e ∷ seen_log me.0 c)) (sym z) ∙ put_here (seen_log me.0) c (e ∷ seen_log me.0 c)))
    (λ n z. ap ctrl_after (put_else (seen_log me.0) c (e ∷ seen_log me.0 c) d n) ∙ hub_ctrl s kept d at)
    refl in
    let done = moved rows clocks os s kept id me.0 c (e ∷ []) at wide inside near (λ _ _ _ _. (inl refl, tt)) (sym hub, tt) (no_row rows clocks os s.words c g k now (kept.rows_are c near)) lawful (same_forest (λ d. ctrl_after (put (seen_log me.0) c (e ∷ seen_log me.0 c) d)) (λ d. ctrl_after (put kept.logs c (e ∷ now) d)) all_seen forest) in (
      saw me.0 c (e ∷ now),
      keeps,
      tt,
      (subst (λ (q : ℕ). LogsHold rows clocks os record { words = set s.words c q; homes = s.homes; views = set s.views id (saw me.0 c (e ∷ now)) }) (sym wraps) done, keeps_stories s.views ruled.1 id me.0 (saw me.0 c (e ∷ now)) at refl refl refl (le_refl _) refl),
      (refl, record { log = now; gener = g; ctrl = k; is = refl; word = kept.words_are c near; rows = rows; lawful = lawful; small = kept.small; then_word = wraps; grew = grew }),
    )
  where
    hub_ctrl : (s : St) (kept : LogsHold rows clocks os s) (d : ℕ) → get_elem? s.views id ≡ some me.0 → ctrl_after (seen_log me.0 d) ≡ ctrl_after (kept.logs d)
    hub_ctrl s kept d at = let grew = kept.each id me.0 at d in sym (ap ctrl_after grew.is ∙ (no_orders d grew.newer (seen_log me.0 d) (subst (λ (o : Owner). HasNoneBy d o grew.newer) hub grew.none_mine)).1)

pub tells_all : (rows clocks : ℕ) (os : List ClockState) (n id : ℕ) (me : M) (c : ℕ) → Allows (SeatRule rows clocks os) n id me c (λ x. x) (told (step n c 0 0 none) me)
tells_all rows clocks os n id me c s k _ at _ =
    let f = k.1.each id me.0 at in (
      forget me.0,
      keeps,
      tt,
      (
        subst (λ (ws : List ℕ). LogsHold rows clocks os record { words = ws; homes = s.homes; views = set s.views id (forget me.0) }) (sym (set-get_or s.words c 0))
            (reviewed rows clocks os s k.0 id me.0 (forget me.0) at refl (λ _. refl) (λ d. blank me.0.ports me.0.stories.met me.0.joined d me.0.owner (seen_log me.0 d)) (le_refl _) refl refl (no_draft rows clocks s.words (forget me.0) refl)),
        keeps_stories s.views k.1 id me.0 (forget me.0) at refl refl refl (le_refl _) refl,
      ),
      (refl, refl, (λ d. k.0.remembers id me.0 at d), f.recalls, (λ is. subst (StoryExtends me.0.stories.told) (f.mine is) (ends_on _ _ _ f.told (k.1.ends me.0.number))), k.0.single id me.0 at),
    )

last_or : {A : Type 0} (l : List A) (a b : A) (j : ℕ) → get_elem? (l ++ a ∷ []) j ≡ some b → (get_elem? l j ≡ some b) ⊎ ((j ≡ length l) × (a ≡ b))
last_or [] a b zero e = inr (refl, some-injective a b e)
last_or [] a b (suc j) e = absurd (some-ne-none b (sym e))
last_or (x ∷ xs) a b zero e = inl e
last_or (x ∷ xs) a b (suc j) e = ⊎_elim inl (λ t. inr (ap suc t.0, t.1)) (last_or xs a b j e)

-- a new view
added_view : (rows clocks : ℕ) (os : List ClockState) (s : St) (k : LogsHold rows clocks os s) (u : View) → u.draft ≡ [] → AreDistinct u.joined → ((c : ℕ) → GrewByOthers c u.owner (seen_log u c) (k.logs c)) → ((c : ℕ) → JoinTellsLog u c) → u.owner ≢ Hub → ((j : ℕ) (w : View) → get_elem? s.views j ≡ some w → u.owner ≢ Nobody → w.owner ≢ u.owner)
    → ((j : ℕ) (w : View) → get_elem? s.views j ≡ some w → w.owner ≡ Hub → (m : ℕ) → w.passes ≤ m → u.owner ≢ pass_owner w.ports m)
    → ((j : ℕ) (w : View) → get_elem? s.views j ≡ some w → u.owner ≢ Nobody → w.owner ≢ Nobody → u.ports ≡ w.ports) → ((j : ℕ) (w : View) → get_elem? s.views j ≡ some w → w.owner ≡ Hub → (m : ℕ) → IsAmong m w.joined → u.owner ≢ pass_owner w.ports m)
    → LogsHold rows clocks os record { words = s.words; homes = s.homes; views = s.views ++ u ∷ [] }
added_view rows clocks os s k u draft once grew remembers no_hub alone later one_ports not_gone = record {
  rows_are = k.rows_are;
  drafts = λ j w e. ⊎_elim (λ old. k.drafts j w old) (λ (t : (j ≡ length s.views) × (u ≡ w)). subst (DraftHolds rows clocks s.words) t.1 (no_draft rows clocks s.words u draft)) (last_or s.views u w j e);
  ports_are = λ i j x y e f a b. ports_are i j x y a b (last_or s.views u x i e) (last_or s.views u y j f);
  makers = λ j w e hub c. ⊎_elim (λ old. k.makers j w old hub c) (λ (t : (j ≡ length s.views) × (u ≡ w)). absurd (no_hub (ap (λ (z : View). z.owner) t.1 ∙ hub))) (last_or s.views u w j e);
  gone = λ j w e hub m has. ⊎_elim
      (λ old. let y = k.gone j w old hub m has in (y.0, record { grew = y.1.grew; views_of = λ i x f. ⊎_elim (λ o. y.1.views_of i x o) (λ (t : (i ≡ length s.views) × (u ≡ x)). λ is. not_gone j w old hub m has (ap (λ (z : View). z.owner) t.1 ∙ is)) (last_or s.views u x i f) }))
      (λ (t : (j ≡ length s.views) × (u ≡ w)). absurd (no_hub (ap (λ (z : View). z.owner) t.1 ∙ hub)))
      (last_or s.views u w j e);
  logs = k.logs;
  small = k.small;
  wide = k.wide;
  words_are = k.words_are;
  lawful = k.lawful;
  forest = k.forest;
  each = λ j w e c. ⊎_elim (λ old. k.each j w old c) (λ (t : (j ≡ length s.views) × (u ≡ w)). subst (λ (x : View). GrewByOthers c x.owner (seen_log x c) (k.logs c)) t.1 (grew c)) (last_or s.views u w j e);
  remembers = λ j w e c. ⊎_elim (λ old. k.remembers j w old c) (λ (t : (j ≡ length s.views) × (u ≡ w)). subst (λ (x : View). JoinTellsLog x c) t.1 (remembers c)) (last_or s.views u w j e);
  unmade = λ j w e hub m le. ⊎_elim
      (λ old. let y = k.unmade j w old hub m le in record { entries = y.entries; views_of = λ i x f. ⊎_elim (λ o. y.views_of i x o) (λ (t : (i ≡ length s.views) × (u ≡ x)). λ is. later j w old hub m le (ap (λ (z : View). z.owner) t.1 ∙ is)) (last_or s.views u x i f) })
      (λ (t : (j ≡ length s.views) × (u ≡ w)). absurd (no_hub (ap (λ (z : View). z.owner) t.1 ∙ hub)))
      (last_or s.views u w j e);
  single = λ j w e. ⊎_elim (λ old. k.single j w old) (λ (t : (j ≡ length s.views) × (u ≡ w)). subst (λ (x : View). AreDistinct x.joined) t.1 once) (last_or s.views u w j e);
  apart = λ i j x y e f owners somebody. apart i j x y owners somebody (last_or s.views u x i e) (last_or s.views u y j f);
}
  where
    ports_are : (i j : ℕ) (x y : View) → x.owner ≢ Nobody → y.owner ≢ Nobody → (get_elem? s.views i ≡ some x) ⊎ ((i ≡ length s.views) × (u ≡ x)) → (get_elem? s.views j ≡ some y) ⊎ ((j ≡ length s.views) × (u ≡ y)) → x.ports ≡ y.ports
    ports_are i j x y a b (inl p) (inl q) = k.ports_are i j x y p q a b
    ports_are i j x y a b (inl p) (inr q) = sym (one_ports i x p (λ n. b (sym (ap (λ (z : View). z.owner) q.1) ∙ n)) a) ∙ ap (λ (z : View). z.ports) q.1
    ports_are i j x y a b (inr p) (inl q) = sym (ap (λ (z : View). z.ports) p.1) ∙ one_ports j y q (λ n. a (sym (ap (λ (z : View). z.owner) p.1) ∙ n)) b
    ports_are i j x y a b (inr p) (inr q) = sym (ap (λ (z : View). z.ports) p.1) ∙ ap (λ (z : View). z.ports) q.1

    apart : (i j : ℕ) (x y : View) → x.owner ≡ y.owner → x.owner ≢ Nobody → (get_elem? s.views i ≡ some x) ⊎ ((i ≡ length s.views) × (u ≡ x)) → (get_elem? s.views j ≡ some y) ⊎ ((j ≡ length s.views) × (u ≡ y)) → i ≡ j
    apart i j x y owners somebody (inl a) (inl b) = k.apart i j x y a b owners somebody
    apart i j x y owners somebody (inl a) (inr b) = let mine = ap (λ (z : View). z.owner) b.1 in absurd (alone i x a (λ m. somebody (owners ∙ sym mine ∙ m)) (owners ∙ sym mine))
    apart i j x y owners somebody (inr a) (inl b) = let mine = ap (λ (z : View). z.owner) a.1 in absurd (alone j y b (λ m. somebody (sym mine ∙ m)) (sym owners ∙ sym mine))
    apart i j x y owners somebody (inr a) (inr b) = a.0 ∙ sym b.0

-- a note of a seat
notes_kept : (rows clocks : ℕ) (os : List ClockState) (id : ℕ) (v : View) → Splits (LogsHold rows clocks os) id v v (note v)
notes_kept rows clocks os id v s k at = subst (λ (l : List View). LogsHold rows clocks os record { words = s.words; homes = s.homes; views = l ++ note v ∷ [] }) (sym (set_again s.views id v at))
    (added_view rows clocks os s k (note v) refl (k.single id v at) (λ c. let g = k.each id v at c in record { newer = g.newer; is = g.is; none_mine = nobody_made c g.newer }) (λ c. blank v.ports v.stories.met v.joined c Nobody (seen_log v c)) (λ e. absurd (cc (e))) (λ _ _ _ somebody. absurd (somebody refl)) (λ j w _ _ m _ e. nth_somebody w.ports m (ltb m w.ports) (sym e)) (λ _ _ _ somebody. absurd (somebody refl)) (λ j w _ _ m _ e. nth_somebody w.ports m (ltb m w.ports) (sym e)))

-- a note of a seat whose view then says more of itself
puts_kept : (rows clocks : ℕ) (os : List ClockState) (id : ℕ) (v w : View) → w.owner ≡ v.owner → ((c : ℕ) → seen_log w c ≡ seen_log v c) → ((c : ℕ) → JoinTellsLog w c) → v.passes ≤ w.passes → w.ports ≡ v.ports → w.joined ≡ v.joined → w.draft ≡ [] → Splits (LogsHold rows clocks os) id v w (note w)
puts_kept rows clocks os id v w owner seen remembers passes ports joined draft s k at =
    let mid = reviewed rows clocks os s k id v w at owner seen remembers passes ports joined (no_draft rows clocks s.words w draft) in
    let there : get_elem? (set s.views id w) id ≡ some w = set_there s.views id v w at in
    subst (λ (l : List View). LogsHold rows clocks os record { words = s.words; homes = s.homes; views = l ++ note w ∷ [] }) (set_again (set s.views id w) id w there) (notes_kept rows clocks os id w record { words = s.words; homes = s.homes; views = set s.views id w } mid there)

-- a note of a seat
pub notes : (rows clocks : ℕ) (os : List ClockState) (id : ℕ) (v : View) → Splits (SeatRule rows clocks os) id v v (note v)
notes rows clocks os id v s k at = (notes_kept rows clocks os id v s k.0 at, subst (λ (l : List View). StoriesHold (l ++ note v ∷ [])) (sym (set_again s.views id v at)) (added_story s.views k.1 (note v) (unfit k.1.own k.1.hubs v (note v) (k.1.each id v at) refl refl refl)))

-- a note of a pass whose story then has the page
pub puts : (rows clocks : ℕ) (os : List ClockState) (id : ℕ) (v : View) (p : List ℕ) → IsPassView v → Splits (SeatRule rows clocks os) id v (with_page v p) (note (with_page v p))
puts rows clocks os id v p is s k at =
    let w : View = with_page v p in
    let grown = says_more rows clocks os s k.0 k.1 id v w (page_item p) at is refl refl refl refl in (
      puts_kept rows clocks os id v w refl (λ _. refl) (λ d. blank v.ports v.stories.met v.joined d v.owner (seen_log v d)) (le_refl _) refl refl refl s k.0 at,
      added_story (set s.views id w) grown (note w) (unfit grown.own grown.hubs w (note w) (grown.each id w (set_there s.views id v w at)) refl refl refl),
    )

none_front : (c : ℕ) (o : Owner) (xs ys : SeatLog) → HasNoneBy c o (xs ++ ys) → HasNoneBy c o xs
none_front c o [] ys h = tt
none_front c o (x ∷ xs) ys h = (h.0, none_front c o xs ys h.1)

-- the hub's seat makes a pass
deals_kept : (rows clocks : ℕ) (os : List ClockState) (id : ℕ) (v : View) → v.owner ≡ Hub → Splits (LogsHold rows clocks os) id v (dealt v) (new_pass v)
unfolding reviewed
deals_kept rows clocks os id v hub s k at =
    let w : View = dealt v in
    let mid = reviewed rows clocks os s k id v w at refl (λ _. refl) (λ c. blank v.ports v.stories.met v.joined c v.owner (seen_log v c)) (omega arith) refl refl (no_draft rows clocks s.words w refl) in
    let there : get_elem? (set s.views id w) id ≡ some w = set_there s.views id v w at in
    let o : Owner = pass_owner v.ports v.passes in
    let free = k.unmade id v at hub v.passes (le_refl v.passes) in
    added_view rows clocks os record { words = s.words; homes = s.homes; views = set s.views id w } mid (new_pass v) refl tt
    (λ c. let g = k.each id v at c in record { newer = g.newer; is = g.is; none_mine = none_front c o g.newer (seen_log v c) (subst (HasNoneBy c o) g.is (free.entries c)) })
    (λ c. blank v.ports 0 [] c o (seen_log v c))
    (nth_not_hub v.ports v.passes (ltb v.passes v.ports))
    (λ j x e _ same. ⊎_elim (λ (t : (j ≡ id) × (w ≡ x)). free.views_of id v at (ap (λ (z : View). z.owner) t.1 ∙ same)) (λ (t : (j ≢ id) × (get_elem? s.views j ≡ some x)). free.views_of j x t.1 same) (at_set s.views id j w x e))
    (λ j x e is_hub m le same.
    let here : j ≡ id = mid.apart j id x w e there (is_hub ∙ sym hub) (λ n. absurd (cc (sym is_hub ∙ n))) in
    let is : w ≡ x = some-injective w x (sym (subst (λ (i : ℕ). get_elem? (set s.views id w) i ≡ some w) (sym here) there) ∙ e) in
    let ports : v.ports ≡ x.ports = ap (λ (z : View). z.ports) is in
    let passes : v.passes + 1 ≡ x.passes = ap (λ (z : View). z.passes) is in
    let number = one_pass v.ports v.passes m (same ∙ ap (λ (q : ℕ). pass_owner q m) (sym ports)) in
    absurd (omega arith))
    (λ j x e _ somebody. mid.ports_are id j w x there e (λ n. absurd (cc (sym hub ∙ n))) somebody)
    (λ j x e is_hub m has same.
    let here : j ≡ id = mid.apart j id x w e there (is_hub ∙ sym hub) (λ n. absurd (cc (sym is_hub ∙ n))) in
    let is : w ≡ x = some-injective w x (sym (subst (λ (i : ℕ). get_elem? (set s.views id w) i ≡ some w) (sym here) there) ∙ e) in
    let ports : v.ports ≡ x.ports = ap (λ (z : View). z.ports) is in
    let lt = (k.gone id v at hub m (subst (λ (z : View). IsAmong m z.joined) (sym is) has)).0 in
    let number = one_pass v.ports v.passes m (same ∙ ap (λ (q : ℕ). pass_owner q m) (sym ports)) in
    absurd (omega arith))

pub deals : (rows clocks : ℕ) (os : List ClockState) (id : ℕ) (v : View) → v.owner ≡ Hub → Splits (SeatRule rows clocks os) id v (dealt v) (new_pass v)
deals rows clocks os id v hub s k at = (deals_kept rows clocks os id v hub s k.0 at, deals_story s.views k.1 id v at hub)

-- a view is spent
spends : (rows clocks : ℕ) (os : List ClockState) (s : St) (k : LogsHold rows clocks os s) (other : ℕ) (w : View) → get_elem? s.views other ≡ some w → w.owner ≢ Hub → LogsHold rows clocks os record { words = s.words; homes = s.homes; views = set s.views other spent }
spends rows clocks os s k other w at no_hub = record {
  rows_are = k.rows_are;
  drafts = λ j x e. ⊎_elim (λ (t : (j ≡ other) × (spent ≡ x)). subst (DraftHolds rows clocks s.words) t.1 (no_draft rows clocks s.words spent refl)) (λ (t : (j ≢ other) × (get_elem? s.views j ≡ some x)). k.drafts j x t.1) (at_set s.views other j spent x e);
  logs = k.logs;
  small = k.small;
  wide = k.wide;
  words_are = k.words_are;
  lawful = k.lawful;
  forest = k.forest;
  each = λ j x e c. ⊎_elim
      (λ (t : (j ≡ other) × (spent ≡ x)). subst (λ (u : View). GrewByOthers c u.owner (seen_log u c) (k.logs c)) t.1 record { newer = k.logs c; is = sym (append-nil (k.logs c)); none_mine = nobody_made c (k.logs c) })
      (λ (t : (j ≢ other) × (get_elem? s.views j ≡ some x)). k.each j x t.1 c)
      (at_set s.views other j spent x e);
  remembers = λ j x e c. ⊎_elim (λ (t : (j ≡ other) × (spent ≡ x)). subst (λ (u : View). JoinTellsLog u c) t.1 (blank 0 0 [] c Nobody [])) (λ (t : (j ≢ other) × (get_elem? s.views j ≡ some x)). k.remembers j x t.1 c) (at_set s.views other j spent x e);
  single = λ j x e. ⊎_elim (λ (t : (j ≡ other) × (spent ≡ x)). subst (λ (u : View). AreDistinct u.joined) t.1 tt) (λ (t : (j ≢ other) × (get_elem? s.views j ≡ some x)). k.single j x t.1) (at_set s.views other j spent x e);
  apart = λ i j x y e f owners somebody. k.apart i j x y (was i x e somebody) (was j y f (λ n. somebody (owners ∙ n))) owners somebody;
  ports_are = λ i j x y e f a b. k.ports_are i j x y (was i x e a) (was j y f b) a b;
  unmade = λ j x e hub m le. let u = k.unmade j x (was j x e (λ n. absurd (cc (sym hub ∙ n)))) hub m le in record { entries = u.entries; views_of = away (pass_owner x.ports m) (nth_somebody x.ports m (ltb m x.ports)) u.views_of };
  makers = λ j x e hub c. k.makers j x (was j x e (λ n. absurd (cc (sym hub ∙ n)))) hub c;
  gone = λ j x e hub m has. let g = k.gone j x (was j x e (λ n. absurd (cc (sym hub ∙ n)))) hub m has in (g.0, record { grew = g.1.grew; views_of = away (pass_owner x.ports m) (nth_somebody x.ports m (ltb m x.ports)) g.1.views_of });
}
  where
    was : (i : ℕ) (x : View) → get_elem? (set s.views other spent) i ≡ some x → x.owner ≢ Nobody → get_elem? s.views i ≡ some x
    was i x e somebody = ⊎_elim (λ (t : (i ≡ other) × (spent ≡ x)). absurd (somebody (sym (ap (λ (u : View). u.owner) t.1)))) (λ (t : (i ≢ other) × (get_elem? s.views i ≡ some x)). t.1) (at_set s.views other i spent x e)

    away : (o : Owner) → o ≢ Nobody → ((j : ℕ) (x : View) → get_elem? s.views j ≡ some x → x.owner ≢ o) → (j : ℕ) (x : View) → get_elem? (set s.views other spent) j ≡ some x → x.owner ≢ o
    away o somebody free j x e is = free j x (was j x e (λ n. somebody (sym is ∙ n))) is

-- a view sees more
widened : (rows clocks : ℕ) (os : List ClockState) (s : St) (k : LogsHold rows clocks os s) (id : ℕ) (v b : View) → get_elem? s.views id ≡ some v → b.owner ≡ v.owner → b.ports ≡ v.ports → b.passes ≡ v.passes → b.draft ≡ [] → ((c : ℕ) → GrewByOthers c v.owner (seen_log b c) (k.logs c)) → ((c : ℕ) → JoinTellsLog b c) → AreDistinct b.joined
    → (v.owner ≡ Hub → (m : ℕ) → IsAmong m b.joined → (m < b.passes) × IsJoined k.logs s.views (pass_owner b.ports m) b) → LogsHold rows clocks os record { words = s.words; homes = s.homes; views = set s.views id b }
widened rows clocks os s k id v b at owner ports passes draft grew remembers once gone_b = record {
  rows_are = k.rows_are;
  drafts = λ j x e. ⊎_elim (λ (t : (j ≡ id) × (b ≡ x)). subst (DraftHolds rows clocks s.words) t.1 (no_draft rows clocks s.words b draft)) (λ (t : (j ≢ id) × (get_elem? s.views j ≡ some x)). k.drafts j x t.1) (at_set s.views id j b x e);
  logs = k.logs;
  small = k.small;
  wide = k.wide;
  words_are = k.words_are;
  lawful = k.lawful;
  forest = k.forest;
  each = λ j x e c. ⊎_elim (λ (t : (j ≡ id) × (b ≡ x)). subst (λ (u : View). GrewByOthers c u.owner (seen_log u c) (k.logs c)) t.1 (subst (λ (o : Owner). GrewByOthers c o (seen_log b c) (k.logs c)) (sym owner) (grew c))) (λ (t : (j ≢ id) × (get_elem? s.views j ≡ some x)). k.each j x t.1 c) (at_set s.views id j b x e);
  remembers = λ j x e c. ⊎_elim (λ (t : (j ≡ id) × (b ≡ x)). subst (λ (u : View). JoinTellsLog u c) t.1 (remembers c)) (λ (t : (j ≢ id) × (get_elem? s.views j ≡ some x)). k.remembers j x t.1 c) (at_set s.views id j b x e);
  single = λ j x e. ⊎_elim (λ (t : (j ≡ id) × (b ≡ x)). subst (λ (u : View). AreDistinct u.joined) t.1 once) (λ (t : (j ≢ id) × (get_elem? s.views j ≡ some x)). k.single j x t.1) (at_set s.views id j b x e);
  apart = λ i j x y e f owners somebody. let p = was i x e in let q = was j y f in k.apart i j p.0 q.0 p.1 q.1 (p.2 ∙ owners ∙ sym q.2) (λ n. somebody (sym p.2 ∙ n));
  ports_are = λ i j x y e f m n. let p = was i x e in let q = was j y f in sym p.3 ∙ k.ports_are i j p.0 q.0 p.1 q.1 (λ z. m (sym p.2 ∙ z)) (λ z. n (sym q.2 ∙ z)) ∙ q.3;
  unmade = λ j x e hub m le. let p = was j x e in let u = k.unmade j p.0 p.1 (p.2 ∙ hub) m (subst (λ (y : ℕ). y ≤ m) (sym p.4) le) in subst (λ (y : ℕ). IsUnmade k.logs (set s.views id b) (pass_owner y m)) p.3 record { entries = u.entries; views_of = away (pass_owner p.0.ports m) u.views_of };
  makers = λ j x e hub c. let p = was j x e in subst (λ (y : ℕ × ℕ). AreMadeBy c y.0 y.1 (k.logs c)) (λ i. (p.3 i, p.4 i)) (k.makers j p.0 p.1 (p.2 ∙ hub) c);
  gone = λ j x e hub m has. ⊎_elim
      (λ (t : (j ≡ id) × (b ≡ x)).
      let g = gone_b (sym owner ∙ ap (λ (u : View). u.owner) t.1 ∙ hub) m (subst (λ (u : View). IsAmong m u.joined) (sym t.1) has) in
      subst (λ (u : View). (m < u.passes) × IsJoined k.logs (set s.views id b) (pass_owner u.ports m) u) t.1 (g.0, record { grew = g.1.grew; views_of = away (pass_owner b.ports m) g.1.views_of }))
      (λ (t : (j ≢ id) × (get_elem? s.views j ≡ some x)). let g = k.gone j x t.1 hub m has in (g.0, record { grew = g.1.grew; views_of = away (pass_owner x.ports m) g.1.views_of }))
      (at_set s.views id j b x e);
}
  where
    was : (i : ℕ) (x : View) → get_elem? (set s.views id b) i ≡ some x → (u : View) × (get_elem? s.views i ≡ some u) × (u.owner ≡ x.owner) × (u.ports ≡ x.ports) × (u.passes ≡ x.passes)
    was i x e = ⊎_elim
        (λ (t : (i ≡ id) × (b ≡ x)). (v, subst (λ (j : ℕ). get_elem? s.views j ≡ some v) (sym t.0) at, sym owner ∙ ap (λ (z : View). z.owner) t.1, sym ports ∙ ap (λ (z : View). z.ports) t.1, sym passes ∙ ap (λ (z : View). z.passes) t.1))
        (λ (t : (i ≢ id) × (get_elem? s.views i ≡ some x)). (x, t.1, refl, refl, refl))
        (at_set s.views id i b x e)

    away : (o : Owner) → ((j : ℕ) (x : View) → get_elem? s.views j ≡ some x → x.owner ≢ o) → (j : ℕ) (x : View) → get_elem? (set s.views id b) j ≡ some x → x.owner ≢ o
    away o free j x e is = let p = was j x e in free j p.0 p.1 (p.2 ∙ is)

set_both : (l : List View) (i j : ℕ) (a b : View) → i ≢ j → set (set l i a) j b ≡ set (set l j b) i a
set_both [] i j a b n = refl
set_both (x ∷ xs) zero zero a b n = absurd (n refl)
set_both (x ∷ xs) zero (suc j) a b n = refl
set_both (x ∷ xs) (suc i) zero a b n = refl
set_both (x ∷ xs) (suc i) (suc j) a b n = ap (λ (l : List View). x ∷ l) (set_both xs i j a b (λ e. n (ap suc e)))

-- what a note has seen joins what a seat has seen
joins_kept : (rows clocks : ℕ) (os : List ClockState) (id : ℕ) (v : View) (other : ℕ) (w : View) (t : StoryView) → w.owner ≡ Nobody → length w.seen ≤ length v.seen → Joins (LogsHold rows clocks os) id v other w (both v w t v.joined) spent
unfolding spends
joins_kept rows clocks os id v other w tale nobody le s k at apart there =
    let b : View = both v w tale v.joined in
    let theirs : get_elem? s.views other ≡ some w = ⊎_elim (λ (t : (other ≡ id) × (b ≡ w)). absurd (apart t.0)) (λ (t : (other ≢ id) × (get_elem? s.views other ≡ some w)). t.1) (at_set s.views id other b w there) in
    let k1 = spends rows clocks os s k other w theirs (λ e. absurd (cc (sym nobody ∙ e))) in
    let here : get_elem? (set s.views other spent) id ≡ some v = set_else s.views other id spent (λ e. apart (sym e)) ∙ at in
    let ends : (c : ℕ) → Extends (seen_log w c) (k.logs c) = λ c. let g = k.each other w theirs c in record { newer = g.newer; is = g.is } in
    let whole : (c : ℕ) → Together c v.owner (seen_log v c) (seen_log w c) (seen_log b c) (k.logs c)
    = λ c. at_merged v.seen w.seen c (λ m. Together c v.owner (seen_log v c) (seen_log w c) m (k.logs c)) (put_together c v.owner (seen_log v c) (seen_log w c) (k.logs c) (k.each id v at c) (ends c)) le in
    subst (λ (l : List View). LogsHold rows clocks os record { words = s.words; homes = s.homes; views = l }) (sym (set_both s.views id other b spent (λ e. apart (sym e))))
    (widened rows clocks os record { words = s.words; homes = s.homes; views = set s.views other spent } k1 id v b here refl refl refl refl (λ c. (whole c).grew) (λ c. (
      (whole c).first,
      grew_between c w.owner (seen_log w c) (seen_log b c) (k.logs c) (k.each other w theirs c) (whole c).second (let g = (whole c).grew in record { newer = g.newer; is = g.is }),
      (λ hub m has _. let g = k1.gone id v here hub m has in at_merged v.seen w.seen c (λ y. GrewByOthers c (pass_owner v.ports m) (seen_log v c) y) (λ t e. (put_together c (pass_owner v.ports m) (seen_log v c) (seen_log w c) (k.logs c) (g.1.grew c) (ends c) t e).first) le),
      inl nobody,
    ))
    (k.single id v at)
    (λ hub m has. let g = k1.gone id v here hub m has in (
      g.0,
      record {
        grew = λ c. at_merged v.seen w.seen c (λ y. GrewByOthers c (pass_owner v.ports m) y (k.logs c)) (λ t e. (put_together c (pass_owner v.ports m) (seen_log v c) (seen_log w c) (k.logs c) (g.1.grew c) (ends c) t e).grew) le;
        views_of = g.1.views_of;
      },
    )))

-- the hub's seat takes in a pass for good
gathers_kept : (rows clocks : ℕ) (os : List ClockState) (id : ℕ) (v : View) (other : ℕ) (w : View) → v.owner ≡ Hub → w.owner ≡ pass_owner w.ports w.number → length w.seen ≤ length v.seen → Joins (LogsHold rows clocks os) id v other w (gathered v w) spent
unfolding spends
gathers_kept rows clocks os id v other w hub mine le s k at apart there =
    let b : View = gathered v w in
    let theirs : get_elem? s.views other ≡ some w = ⊎_elim (λ (t : (other ≡ id) × (b ≡ w)). absurd (apart t.0)) (λ (t : (other ≢ id) × (get_elem? s.views other ≡ some w)). t.1) (at_set s.views id other b w there) in
    let k1 = spends rows clocks os s k other w theirs (λ e. nth_not_hub w.ports w.number (ltb w.number w.ports) (sym mine ∙ e)) in
    let here : get_elem? (set s.views other spent) id ≡ some v = set_else s.views other id spent (λ e. apart (sym e)) ∙ at in
    let ends : (c : ℕ) → Extends (seen_log w c) (k.logs c) = λ c. let g = k.each other w theirs c in record { newer = g.newer; is = g.is } in
    let whole : (c : ℕ) → Together c v.owner (seen_log v c) (seen_log w c) (seen_log b c) (k.logs c)
    = λ c. at_merged v.seen w.seen c (λ m. Together c v.owner (seen_log v c) (seen_log w c) m (k.logs c)) (put_together c v.owner (seen_log v c) (seen_log w c) (k.logs c) (k.each id v at c) (ends c)) le in
    let was_made = passed_on rows clocks os s k other w theirs id v at hub (w.number, mine) {o = w.owner} refl in
    let ports : w.ports ≡ v.ports = k.ports_are other id w v theirs at (λ n. nth_somebody w.ports w.number (ltb w.number w.ports) (sym mine ∙ n)) (λ n. absurd (cc (sym hub ∙ n))) in
    let named_here : w.owner ≡ pass_owner v.ports w.number = mine ∙ ap (λ (p : ℕ). pass_owner p w.number) ports in
    let number : was_made.0 ≡ w.number = one_pass v.ports was_made.0 w.number (sym was_made.2 ∙ named_here) in
    let new : (m : ℕ) → w.number ≡ m → (m < v.passes) × IsJoined k.logs (set s.views other spent) (pass_owner v.ports m) b
    = λ m is. let lt = was_made.1 in let own : w.owner ≡ pass_owner v.ports m = named_here ∙ ap (pass_owner v.ports) is in (
      omega arith,
      record {
        grew = λ c. at_merged v.seen w.seen c (λ y. GrewByOthers c (pass_owner v.ports m) y (k.logs c)) (λ t e. grew_second c (pass_owner v.ports m) (seen_log v c) (seen_log w c) (k.logs c) (let g = k.each id v at c in record { newer = g.newer; is = g.is }) (subst (λ (o : Owner). GrewByOthers c o (seen_log w c) (k.logs c)) own (k.each other w theirs c)) t e) le;
        views_of = λ j x e is_it. ⊎_elim
            (λ (t : (j ≡ other) × (spent ≡ x)). nth_somebody v.ports m (ltb m v.ports) (sym is_it ∙ sym (ap (λ (u : View). u.owner) t.1)))
            (λ (t : (j ≢ other) × (get_elem? s.views j ≡ some x)). t.0 (k.apart j other x w t.1 theirs (is_it ∙ sym own) (λ n. nth_somebody v.ports m (ltb m v.ports) (sym is_it ∙ n))))
            (at_set s.views other j spent x e);
      },
    ) in
    subst (λ (l : List View). LogsHold rows clocks os record { words = s.words; homes = s.homes; views = l }) (sym (set_both s.views id other b spent (λ e. apart (sym e))))
    (widened rows clocks os record { words = s.words; homes = s.homes; views = set s.views other spent } k1 id v b here refl refl refl refl (λ c. (whole c).grew) (λ c. (
      (whole c).first,
      grew_between c w.owner (seen_log w c) (seen_log b c) (k.logs c) (k.each other w theirs c) (whole c).second (let g = (whole c).grew in record { newer = g.newer; is = g.is }),
      (λ _ m has not_met. ⊎_elim
          (λ (is : w.number ≡ m). absurd (not_met (sym is)))
          (λ old. let g = k1.gone id v here hub m old in at_merged v.seen w.seen c (λ y. GrewByOthers c (pass_owner v.ports m) (seen_log v c) y) (λ t e. (put_together c (pass_owner v.ports m) (seen_log v c) (seen_log w c) (k.logs c) (g.1.grew c) (ends c) t e).first) le)
          has),
      inr named_here,
    ))
    ((λ has. (k.gone id v at hub w.number has).1.views_of other w theirs named_here), k.single id v at)
    (λ _ m has. ⊎_elim (new m)
    (λ before. let g = k1.gone id v here hub m before in (
      g.0,
      record {
        grew = λ c. at_merged v.seen w.seen c (λ y. GrewByOthers c (pass_owner v.ports m) y (k.logs c)) (λ t e. (put_together c (pass_owner v.ports m) (seen_log v c) (seen_log w c) (k.logs c) (g.1.grew c) (ends c) t e).grew) le;
        views_of = g.1.views_of;
      },
    ))
    has))

seen_other : (views : List View) (id other : ℕ) (b w : View) → ¬ (other ≡ id) → get_elem? (set views id b) other ≡ some w → get_elem? views other ≡ some w
seen_other views id other b w apart there = ⊎_elim (λ (t : (other ≡ id) × (b ≡ w)). absurd (apart t.0)) (λ (t : (other ≢ id) × (get_elem? views other ≡ some w)). t.1) (at_set views id other b w there)

spends_story : (views : List View) (s : StoriesHold views) (other : ℕ) → StoriesHold (set views other spent)
spends_story views s other = same_stories views s other spent (blank_fits s.own s.hubs spent refl (λ e. absurd (cc (e))) (λ is. absurd (nth_somebody 0 0 (ltb 0 0) (sym is))))

-- the hub's seat takes in a note of a pass
pub hears : (rows clocks : ℕ) (os : List ClockState) (id : ℕ) (v : View) (other : ℕ) (w : View) → v.owner ≡ Hub → w.owner ≡ Nobody → length w.seen ≤ length v.seen → Joins (SeatRule rows clocks os) id v other w (heard v w) spent
hears rows clocks os id v other w hub nobody le s k at apart there =
    let m : ℕ = w.number in
    let f = k.1.each id v at in
    let g = k.1.each other w (seen_other s.views id other (heard v w) w apart there) in
    let x : Story = more (story_of v.stories m) w.stories.story in
    let l = longer_of (story_of v.stories m) w.stories.story (k.1.own m) (subst (λ (y : Story). StoryExtends y (k.1.own m)) (f.hub hub m) (k.1.ends m)) g.story in
    let now : x ≡ story_of (stories_after_hearing m v.stories w.stories) m = sym (set_at_same v.stories.stories m x) in (
      joins_kept rows clocks os id v other w (stories_after_hearing m v.stories w.stories) nobody le s k.0 at apart there,
      spends_story (set s.views id (heard v w)) (hub_learns rows clocks os s k.0 k.1 id v (heard v w) m x at hub l.first l.whole refl refl refl refl refl refl record { told = subst (StoryExtends w.stories.told) (f.hub hub m) g.told; former = subst (StoryExtends (story_of v.stories m)) now l.first; theirs = subst (StoryExtends w.stories.story) now l.second }) other,
    )

-- a pass takes in a note of the hub's seat
pub learns : (rows clocks : ℕ) (os : List ClockState) (id : ℕ) (v : View) (other : ℕ) (w : View) → IsPassView v → w.owner ≡ Nobody → length w.seen ≤ length v.seen → Joins (SeatRule rows clocks os) id v other w (learnt v w) spent
learns rows clocks os id v other w is nobody le s k at apart there =
    let m : ℕ = v.number in
    let f = k.1.each id v at in
    let g = k.1.each other w (seen_other s.views id other (learnt v w) w apart there) in
    let l = longer_of v.stories.told (story_of w.stories m) (k.1.hubs m) f.told (g.stories m) in (
      joins_kept rows clocks os id v other w (stories_after_learning m v.stories w.stories) nobody le s k.0 at apart there,
      spends_story (set s.views id (learnt v w)) (same_stories s.views k.1 id (learnt v w) record {
        story = f.story;
        told = l.whole;
        stories = f.stories;
        recalls = record { told = f.recalls.told; former = f.recalls.former; theirs = f.recalls.theirs };
        mine = f.mine;
        hub = f.hub;
        fresh = f.fresh;
      }) other,
    )

pub gathers : (rows clocks : ℕ) (os : List ClockState) (id : ℕ) (v : View) (other : ℕ) (w : View) → v.owner ≡ Hub → IsPassView w → length w.seen ≤ length v.seen → Joins (SeatRule rows clocks os) id v other w (gathered v w) spent
gathers rows clocks os id v other w hub is le s k at apart there =
    let m : ℕ = w.number in
    let f = k.1.each id v at in
    let g = k.1.each other w (seen_other s.views id other (gathered v w) w apart there) in
    let x : Story = w.stories.story in
    let first : StoryExtends (story_of v.stories m) x = subst (λ (q : Story × Story). StoryExtends q.0 q.1) (λ i. (f.hub hub m i, g.mine is i)) (k.1.ends m) in
    let now : x ≡ story_of (stories_after_closing m v.stories w.stories) m = sym (set_at_same v.stories.stories m x) in (
      gathers_kept rows clocks os id v other w hub is le s k.0 at apart there,
      spends_story (set s.views id (gathered v w)) (hub_learns rows clocks os s k.0 k.1 id v (gathered v w) m x at hub first (ends_is _ _ (sym (g.mine is))) refl refl refl refl refl refl record { told = subst (StoryExtends w.stories.told) (f.hub hub m) g.told; former = subst (StoryExtends (story_of v.stories m)) now first; theirs = subst (StoryExtends x) now (ends_refl x) }) other,
    )

-- the rule at the start
begins_kept : (rows clocks : ℕ) (os : List ClockState) (ports : ℕ) → rows < 262144 → LogsHold rows clocks os record { words = replicate (clocks + clocks * rows * 3) 0; homes = []; views = opened clocks ports os ∷ [] }
begins_kept rows clocks os ports few = record {
  logs = λ _. [];
  small = few;
  wide = length-replicate (clocks + clocks * rows * 3) 0;
  rows_are = λ c near g k t x f b ext. absurd (never (Change g k t x f) b ext.newer ext.is);
  drafts = λ id v e. first id v e (λ u. DraftHolds rows clocks (replicate (clocks + clocks * rows * 3) 0) u) (no_draft rows clocks _ (opened clocks ports os) refl);
  words_are = λ c h. get_or-replicate (clocks + clocks * rows * 3) 0 c;
  lawful = λ _. tt;
  forest = λ k c l. no_walk k c c l;
  each = λ id v e c. first id v e (λ u. GrewByOthers c u.owner (seen_log u c) []) record { newer = []; is = sym (none_seen clocks c); none_mine = tt };
  remembers = λ id v e c. first id v e (λ u. JoinTellsLog u c) (blank ports 0 [] c Hub (seen_log (opened clocks ports os) c));
  unmade = λ id v e hub m le. record { entries = λ _. tt; views_of = λ j w f. first j w f (λ u. u.owner ≢ pass_owner v.ports m) (λ is. nth_not_hub v.ports m (ltb m v.ports) (sym is)) };
  ports_are = λ i j v w e f _ _. first i v e (λ u. u.ports ≡ w.ports) (first j w f (λ u. ports ≡ u.ports) refl);
  makers = λ id v e _ c. tt;
  gone = λ id v e _ m has. absurd (first id v e (λ u. IsAmong m u.joined → ⊥) (λ h. h) has);
  single = λ id v e. first id v e (λ u. AreDistinct u.joined) tt;
  apart = λ i j v w e f _ _. only i v e ∙ sym (only j w f);
}
  where
    never : (x : LogEntry) (b newer : SeatLog) → [] ≡ newer ++ x ∷ b → ⊥
    never x b [] e = absurd (cc (e))
    never x b (y ∷ ys) e = absurd (cc (e))

    no_walk : (k a b : ℕ) → LeadsTo (λ _. 0) k a b → ⊥
    no_walk zero a b h = absurd (omega arith)
    no_walk (suc k) a b h = no_walk k h.0 b h.2

    first : (id : ℕ) (v : View) → get_elem? (opened clocks ports os ∷ []) id ≡ some v → (F : View → Type 0) → F (opened clocks ports os) → F v
    first zero v e F h = subst F (some-injective (opened clocks ports os) v e) h
    first (suc id) v e F h = absurd (some-ne-none v (sym e))

    only : (id : ℕ) (v : View) → get_elem? (opened clocks ports os ∷ []) id ≡ some v → id ≡ 0
    only zero v e = refl
    only (suc id) v e = absurd (some-ne-none v (sym e))

    none_seen : (n c : ℕ) → get_or {A = SeatLog} (replicate n []) c [] ≡ []
    none_seen zero c = refl
    none_seen (suc n) zero = refl
    none_seen (suc n) (suc c) = none_seen n c

    get_or-replicate : (n x c : ℕ) → get_or (replicate n x) c x ≡ x
    get_or-replicate zero x c = refl
    get_or-replicate (suc n) x zero = refl
    get_or-replicate (suc n) x (suc c) = get_or-replicate n x c

pub begins : (rows clocks : ℕ) (os : List ClockState) (ports : ℕ) → rows < 262144 → SeatRule rows clocks os record { words = replicate (clocks + clocks * rows * 3) 0; homes = []; views = opened clocks ports os ∷ [] }
begins rows clocks os ports few = (
  begins_kept rows clocks os ports few,
  record {
    own = λ _. [];
    hubs = λ _. [];
    ends = λ _. ends_refl [];
    each = λ id v e. first id v e;
  },
)
  where
    fits : StoriesFit (λ _. []) (λ _. []) (opened clocks ports os)
    fits = record {
      story = ends_refl [];
      told = ends_refl [];
      stories = λ m. ends_refl [];
      recalls = record { told = ends_refl []; former = ends_refl []; theirs = ends_refl [] };
      mine = λ is. absurd (nth_not_hub ports 0 (ltb 0 ports) (sym is));
      hub = λ _ m. refl;
      fresh = λ _ m _. refl;
    }

    first : (id : ℕ) (v : View) → get_elem? (opened clocks ports os ∷ []) id ≡ some v → StoriesFit (λ _. []) (λ _. []) v
    first zero v e = subst (StoriesFit (λ _. []) (λ _. [])) (some-injective (opened clocks ports os) v e) fits
    first (suc id) v e = absurd (some-ne-none v (sym e))
