-- Each step keeps what is said of stories.
use Rattle.std.proofs.Common.{ltb, ◌≡◌, ◌≢◌, ℕ, ◌<◌, ◌≤◌, le_refl, ◌⊎◌, inl, inr, ⊎_elim, List, [], ◌∷◌, ◌++◌, length, set, refl, sym, ap, ◌∙◌, subst, arith}
use Rattle.model_clock.specs.declared.state.ClockState.{ClockState}
use mathlib.Core.Option.{some, some-injective, some-ne-none}
use native.Mathlib.Decide.{ℕ_discrete}
use lib.ListN.{get_elem?}
use Rattle.atomic_table.specs.Table.{State}
use Rattle.atomic_table.proofs.Lists.{at_set}
use Rattle.ptp_profile.specs.declared.seats.LogEntry.{LogEntry}
use Rattle.discipline_seat.specs.declared.view.Owner.TheVariants.{Hub, Nobody}
use Rattle.discipline_seat.specs.declared.view.StoryView.{StoryView}
use Rattle.discipline_seat.specs.declared.view.View.{View}
use Rattle.discipline_seat.specs.Rule.SeatRule.{LogsHold, StoriesFit, StoriesHold}
use Rattle.discipline_seat.specs.Rule.Story.{JoinTellsStories, Story, StoryExtends, no_stories, story_of, with_items as say, with_story_at}
use Rattle.discipline_seat.specs.Rule.SeatView.{IsPassView, after_split as dealt, new_pass_view as new_pass}
use Rattle.discipline_seat.specs.Rule.SeatLog.{pass_owner}
use Rattle.discipline_seat.proofs.lemmas.RuleLemmas.{nth_somebody, nth_not_hub}
use Rattle.discipline_seat.proofs.lemmas.StoryEndLemmas.{ends_refl, ends_nil, ends_is, ends_on, ends_more, set_at_same, set_at_other}

abbrev St : Type 0
St = State LogEntry View

abbrev choose : {P : Type 0} → Dec P → Story → Story → Story
choose (yes _) a b = a
choose (no _) a b = b

-- f, with x at m
pub place : (ℕ → Story) → ℕ → Story → ℕ → Story
place f m x n = choose (ℕ_discrete n m) x (f n)

pub at_place : (f : ℕ → Story) (m : ℕ) (x : Story) (F : ℕ → Story → Type 0) (n : ℕ) → F m x → (n ≢ m → F n (f n)) → F n (place f m x n)
unfolding place
at_place f m x F n here other = go (ℕ_discrete n m)
  where
    go : (d : Dec (n ≡ m)) → F n (choose d x (f n))
    go (yes e) = subst (λ (k : ℕ). F k x) (sym e) here
    go (no o) = other o

pub place_here : (f : ℕ → Story) (m : ℕ) (x : Story) → place f m x m ≡ x
place_here f m x = at_place f m x (λ q y. q ≡ m → y ≡ x) m (λ _. refl) (λ n. absurd (n refl)) refl

pub place_else : (f : ℕ → Story) (m : ℕ) (x : Story) (n : ℕ) → n ≢ m → place f m x n ≡ f n
place_else f m x n o = at_place f m x (λ q y. q ≢ m → y ≡ f q) n (λ w. absurd (w refl)) (λ _ _. refl) o

not_hub : (v : View) → IsPassView v → v.owner ≢ Hub
not_hub v is hub = nth_not_hub v.ports v.number (ltb v.number v.ports) (sym is ∙ hub)

nobody_no_pass : (v : View) → v.owner ≡ Nobody → IsPassView v → ⊥
nobody_no_pass v nobody is = nth_somebody v.ports v.number (ltb v.number v.ports) (sym is ∙ nobody)

-- a view that says the same of stories
pub refit : (own hubs : ℕ → Story) (v w : View) → StoriesFit own hubs v → w.owner ≡ v.owner → w.ports ≡ v.ports → w.number ≡ v.number → v.passes ≤ w.passes → w.stories ≡ v.stories → StoriesFit own hubs w
refit own hubs v w f owner ports number passes tale = record {
  story = subst (λ (q : StoryView × ℕ). StoryExtends q.0.story (own q.1)) (λ i. (sym tale i, sym number i)) f.story;
  told = subst (λ (q : StoryView × ℕ). StoryExtends q.0.told (hubs q.1)) (λ i. (sym tale i, sym number i)) f.told;
  stories = λ m. subst (λ (t : StoryView). StoryExtends (story_of t m) (hubs m)) (sym tale) (f.stories m);
  recalls = subst JoinTellsStories (sym tale) f.recalls;
  mine = λ is. ap own number ∙ f.mine (sym owner ∙ is ∙ (λ i. pass_owner (ports i) (number i))) ∙ ap (λ (t : StoryView). t.story) (sym tale);
  hub = λ is m. f.hub (sym owner ∙ is) m ∙ ap (λ (t : StoryView). story_of t m) (sym tale);
  fresh = λ is m le. f.fresh (sym owner ∙ is) m (omega arith);
}

-- a view of nobody, which says the same of stories
pub unfit : (own hubs : ℕ → Story) (v w : View) → StoriesFit own hubs v → w.owner ≡ Nobody → w.number ≡ v.number → w.stories ≡ v.stories → StoriesFit own hubs w
unfit own hubs v w f owner number tale = record {
  story = subst (λ (q : StoryView × ℕ). StoryExtends q.0.story (own q.1)) (λ i. (sym tale i, sym number i)) f.story;
  told = subst (λ (q : StoryView × ℕ). StoryExtends q.0.told (hubs q.1)) (λ i. (sym tale i, sym number i)) f.told;
  stories = λ m. subst (λ (t : StoryView). StoryExtends (story_of t m) (hubs m)) (sym tale) (f.stories m);
  recalls = subst JoinTellsStories (sym tale) f.recalls;
  mine = λ is. absurd (nobody_no_pass w owner is);
  hub = λ is m. absurd (cc (sym owner ∙ is));
  fresh = λ is m le. absurd (cc (sym owner ∙ is));
}

blank_recalls : JoinTellsStories no_stories
blank_recalls = record { told = ends_nil []; former = ends_nil []; theirs = ends_nil [] }

-- a view that knows nothing
pub blank_fits : (own hubs : ℕ → Story) (w : View) → w.stories ≡ no_stories → w.owner ≢ Hub → (IsPassView w → own w.number ≡ []) → StoriesFit own hubs w
blank_fits own hubs w tale no_hub none = record {
  story = subst (λ (t : StoryView). StoryExtends t.story (own w.number)) (sym tale) (ends_nil (own w.number));
  told = subst (λ (t : StoryView). StoryExtends t.told (hubs w.number)) (sym tale) (ends_nil (hubs w.number));
  stories = λ m. subst (λ (t : StoryView). StoryExtends (story_of t m) (hubs m)) (sym tale) (ends_nil (hubs m));
  recalls = subst JoinTellsStories (sym tale) blank_recalls;
  mine = λ is. none is ∙ ap (λ (t : StoryView). t.story) (sym tale);
  hub = λ is m. absurd (no_hub is);
  fresh = λ is m le. absurd (no_hub is);
}

-- one view changes, and the stories grow
pub restoried : (views : List View) (s : StoriesHold views) (id : ℕ) (w : View) (own hubs : ℕ → Story) → ((m : ℕ) → StoryExtends (s.own m) (own m)) → ((m : ℕ) → StoryExtends (s.hubs m) (hubs m)) → ((m : ℕ) → StoryExtends (hubs m) (own m)) → StoriesFit own hubs w
    → ((j : ℕ) (x : View) → j ≢ id → get_elem? views j ≡ some x → IsPassView x → own x.number ≡ s.own x.number)
    → ((j : ℕ) (x : View) → j ≢ id → get_elem? views j ≡ some x → x.owner ≡ Hub → ((m : ℕ) → hubs m ≡ s.hubs m) × ((m : ℕ) → x.passes ≤ m → own m ≡ s.own m))
    → StoriesHold (set views id w)
restoried views s id w own hubs grows tells ends fits passes hub = record {
  own = own;
  hubs = hubs;
  ends = ends;
  each = λ j x e. ⊎_elim
      (λ (t : (j ≡ id) × (w ≡ x)). subst (StoriesFit own hubs) t.1 fits)
      (λ (t : (j ≢ id) × (get_elem? views j ≡ some x)). other j x t.0 t.1 (s.each j x t.1))
      (at_set views id j w x e);
}
  where
    other : (j : ℕ) (x : View) → j ≢ id → get_elem? views j ≡ some x → StoriesFit s.own s.hubs x → StoriesFit own hubs x
    other j x n at f = record {
      story = ends_on _ _ _ f.story (grows x.number);
      told = ends_on _ _ _ f.told (tells x.number);
      stories = λ m. ends_on _ _ _ (f.stories m) (tells m);
      recalls = f.recalls;
      mine = λ is. passes j x n at is ∙ f.mine is;
      hub = λ is m. (hub j x n at is).0 m ∙ f.hub is m;
      fresh = λ is m le. (hub j x n at is).1 m le ∙ f.fresh is m le;
    }

-- one view changes, and the stories stay
pub same_stories : (views : List View) (s : StoriesHold views) (id : ℕ) (w : View) → StoriesFit s.own s.hubs w → StoriesHold (set views id w)
same_stories views s id w fits = restoried views s id w s.own s.hubs (λ m. ends_refl (s.own m)) (λ m. ends_refl (s.hubs m)) s.ends fits (λ _ _ _ _ _. refl) (λ _ _ _ _ _. ((λ m. refl), (λ m le. refl)))

-- a view says as much of stories as before
pub keeps_stories : (views : List View) (s : StoriesHold views) (id : ℕ) (v w : View) → get_elem? views id ≡ some v → w.owner ≡ v.owner → w.ports ≡ v.ports → w.number ≡ v.number → v.passes ≤ w.passes → w.stories ≡ v.stories → StoriesHold (set views id w)
keeps_stories views s id v w at owner ports number passes tale = same_stories views s id w (refit s.own s.hubs v w (s.each id v at) owner ports number passes tale)

last_or : {A : Type 0} (l : List A) (a b : A) (j : ℕ) → get_elem? (l ++ a ∷ []) j ≡ some b → (get_elem? l j ≡ some b) ⊎ ((j ≡ length l) × (a ≡ b))
last_or [] a b ℕ.zero e = inr (refl, some-injective a b e)
last_or [] a b (ℕ.suc j) e = absurd (some-ne-none b (sym e))
last_or (x ∷ xs) a b ℕ.zero e = inl e
last_or (x ∷ xs) a b (ℕ.suc j) e = ⊎_elim inl (λ t. inr (ap ℕ.suc t.0, t.1)) (last_or xs a b j e)

-- a view more
pub added_story : (views : List View) (s : StoriesHold views) (u : View) → StoriesFit s.own s.hubs u → StoriesHold (views ++ u ∷ [])
added_story views s u fits = record {
  own = s.own;
  hubs = s.hubs;
  ends = s.ends;
  each = λ j x e. ⊎_elim (s.each j x) (λ (t : (j ≡ length views) × (u ≡ x)). subst (StoriesFit s.own s.hubs) t.1 fits) (last_or views u x j e);
}

-- a pass's story grows
pub says_more : (rows clocks : ℕ) (os : List ClockState) (t : St) (k : LogsHold rows clocks os t) (s : StoriesHold t.views) (id : ℕ) (v w : View) (xs : Story) → get_elem? t.views id ≡ some v → IsPassView v → w.owner ≡ v.owner → w.ports ≡ v.ports → w.number ≡ v.number → w.stories ≡ say xs v.stories → StoriesHold (set t.views id w)
says_more rows clocks os t k s id v w xs at is owner ports number tale =
    let f = s.each id v at in
    let m : ℕ = v.number in
    let x : Story = xs ++ v.stories.story in
    let own : ℕ → Story = place s.own m x in
    let grows : (n : ℕ) → StoryExtends (s.own n) (own n) = λ n. at_place s.own m x (λ q y. StoryExtends (s.own q) y) n (subst (λ (y : Story). StoryExtends y x) (sym (f.mine is)) (ends_more xs v.stories.story)) (λ _. ends_refl (s.own n)) in
    let is_w : IsPassView w = owner ∙ is ∙ (λ i. pass_owner (sym ports i) (sym number i)) in
    let here : own w.number ≡ w.stories.story = ap own number ∙ place_here s.own m x ∙ ap (λ (y : StoryView). y.story) (sym tale) in
    restoried t.views s id w own s.hubs grows (λ n. ends_refl (s.hubs n)) (λ n. ends_on _ _ _ (s.ends n) (grows n))
    record {
      story = ends_is _ _ (sym here);
      told = subst (λ (q : StoryView × ℕ). StoryExtends q.0.told (s.hubs q.1)) (λ i. (sym tale i, sym number i)) f.told;
      stories = λ n. subst (λ (y : StoryView). StoryExtends (story_of y n) (s.hubs n)) (sym tale) (f.stories n);
      recalls = subst JoinTellsStories (sym tale) record { told = f.recalls.told; former = f.recalls.former; theirs = f.recalls.theirs };
      mine = λ _. here;
      hub = λ hub n. absurd (not_hub w is_w hub);
      fresh = λ hub n le. absurd (not_hub w is_w hub);
    }
    (λ j y n there is_y. place_else s.own m x y.number (λ same. n (
    let one_ports : y.ports ≡ v.ports = k.ports_are j id y v there at (λ e. nobody_no_pass y e is_y) (λ e. nobody_no_pass v e is) in
    k.apart j id y v there at (is_y ∙ (λ i. pass_owner (one_ports i) (same i)) ∙ sym is) (λ e. nobody_no_pass y e is_y))))
    (λ j h n there hub. (
      (λ _. refl),
      (λ q le. place_else s.own m x q (λ same.
          let one_ports : v.ports ≡ h.ports = k.ports_are id j v h at there (λ e. nobody_no_pass v e is) (λ e. absurd (cc (sym hub ∙ e))) in
          (k.unmade j h there hub q le).views_of id v at (is ∙ (λ i. pass_owner (one_ports i) (sym same i))))),
    ))

-- the hub's story of a pass grows to one that is an end of the pass's own
pub hub_learns : (rows clocks : ℕ) (os : List ClockState) (t : St) (k : LogsHold rows clocks os t) (s : StoriesHold t.views) (id : ℕ) (v w : View) (m : ℕ) (x : Story) → get_elem? t.views id ≡ some v → v.owner ≡ Hub → StoryExtends (story_of v.stories m) x → StoryExtends x (s.own m)
    → w.owner ≡ v.owner → w.number ≡ v.number → w.passes ≡ v.passes → w.stories.story ≡ v.stories.story → w.stories.told ≡ v.stories.told → w.stories.stories ≡ with_story_at v.stories.stories m x → JoinTellsStories w.stories → StoriesHold (set t.views id w)
hub_learns rows clocks os t k s id v w m x at hub first whole owner number passes story told stories recalls =
    let f = s.each id v at in
    let hubs : ℕ → Story = place s.hubs m x in
    let tells : (n : ℕ) → StoryExtends (s.hubs n) (hubs n) = λ n. at_place s.hubs m x (λ q y. StoryExtends (s.hubs q) y) n (subst (λ (y : Story). StoryExtends y x) (sym (f.hub hub m)) first) (λ _. ends_refl (s.hubs n)) in
    let is : (n : ℕ) → hubs n ≡ story_of w.stories n = λ n. at_place s.hubs m x (λ q y. y ≡ story_of w.stories q) n
    (sym (ap (λ (l : List Story). Rattle.std.proofs.Common.get_or l m []) stories ∙ set_at_same v.stories.stories m x))
    (λ o. f.hub hub n ∙ sym (ap (λ (l : List Story). Rattle.std.proofs.Common.get_or l n []) stories ∙ set_at_other v.stories.stories m n x o)) in
    let hub_w : w.owner ≡ Hub = owner ∙ hub in
    restoried t.views s id w s.own hubs (λ n. ends_refl (s.own n)) tells (λ n. at_place s.hubs m x (λ q y. StoryExtends y (s.own q)) n whole (λ _. s.ends n))
    record {
      story = subst (λ (q : Story × ℕ). StoryExtends q.0 (s.own q.1)) (λ i. (sym story i, sym number i)) f.story;
      told = ends_on _ _ _ (subst (λ (q : Story × ℕ). StoryExtends q.0 (s.hubs q.1)) (λ i. (sym told i, sym number i)) f.told) (tells w.number);
      stories = λ n. ends_is _ _ (sym (is n));
      recalls = recalls;
      mine = λ p. absurd (not_hub w p hub_w);
      hub = λ _ n. is n;
      fresh = λ _ n le. f.fresh hub n (subst (λ (q : ℕ). q ≤ n) passes le);
    }
    (λ _ _ _ _ _. refl)
    (λ j y n there hub_y. absurd (n (k.apart j id y v there at (hub_y ∙ sym hub) (λ e. absurd (cc (sym hub_y ∙ e))))))

-- the hub's seat makes a pass
pub deals_story : (views : List View) (s : StoriesHold views) (id : ℕ) (v : View) → get_elem? views id ≡ some v → v.owner ≡ Hub → StoriesHold (set views id (dealt v) ++ new_pass v ∷ [])
unfolding keeps_stories same_stories restoried
deals_story views s id v at hub =
    let f = s.each id v at in
    let st = keeps_stories views s id v (dealt v) at refl refl refl (omega arith) refl in
    added_story (set views id (dealt v)) st (new_pass v) (blank_fits st.own st.hubs (new_pass v) refl (nth_not_hub v.ports v.passes (ltb v.passes v.ports)) (λ _. f.fresh hub v.passes (le_refl v.passes)))
