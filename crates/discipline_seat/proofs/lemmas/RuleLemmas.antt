-- Each step keeps the rule.
use Rattle.std.proofs.Common.{Bool, true, false, ltb, ◌≡◌, ◌≢◌, ℕ, suc, ◌-◌, ◌<◌, ◌≤◌, arith, ltb-false, ◌⊎◌, inl, inr, ⊎_elim, List, [], ◌∷◌, ◌++◌, length, get_or, set, refl, sym, ap, ◌∙◌, subst, append_assoc, length-set, get_or-set_same, get_or-set_other}
use Rattle.model_clock.specs.declared.state.ClockState.{ClockState}
use mathlib.Core.Option.{some}
use native.Mathlib.Decide.{ℕ_discrete}
use lib.ListN.{get_elem?}
use Rattle.atomic_table.specs.Table.{State}
use Rattle.atomic_table.proofs.Lists.{at_set}
use Rattle.ptp_profile.specs.declared.seats.LogEntry.{LogEntry}
use Rattle.ptp_profile.specs.declared.seats.LogEntry.TheVariants.{Order, Change}
use Rattle.discipline_seat.specs.declared.view.Owner.{Owner}
use Rattle.discipline_seat.specs.declared.view.Owner.TheVariants.{Hub, Port, Follower, Nobody}
use Rattle.discipline_seat.specs.declared.view.View.{View}
use Rattle.discipline_seat.proofs.lemmas.RowLemmas.{no_draft, rows_kept, draft_kept}
use Rattle.discipline_seat.specs.Rule.SeatRule.{DraftHolds, IsJoined, IsUnmade, LogsHold, RowsHold}
use Rattle.discipline_seat.specs.Rule.SeatLog.{AreMadeBy, GrewByOthers, HasNoCircle, HasNoneBy, IsSeatLog, SeatLog, ctrl_after, maker_of, one_owner as pick, owner_named as named, pass_owner, word_after}
use Rattle.discipline_seat.specs.Rule.SeatView.{AreDistinct, IsAmong, JoinTellsLog, after_look as saw, seen_log}
use Rattle.std.proofs.lemmas.List.{append-nil}

abbrev St : Type 0
St = State LogEntry View

abbrev choose : {P : Type 0} → Dec P → SeatLog → SeatLog → SeatLog
choose (yes _) a b = a
choose (no _) a b = b

-- f, with l at i
pub put : (ℕ → SeatLog) → ℕ → SeatLog → ℕ → SeatLog
put f i l j = choose (ℕ_discrete j i) l (f j)

pub at_put : (f : ℕ → SeatLog) (i : ℕ) (l : SeatLog) (F : ℕ → SeatLog → Type 0) (j : ℕ) → F i l → (j ≢ i → F j (f j)) → F j (put f i l j)
unfolding put
at_put f i l F j here other = go (ℕ_discrete j i)
  where
    go : (d : Dec (j ≡ i)) → F j (choose d l (f j))
    go (yes e) = subst (λ (k : ℕ). F k l) (sym e) here
    go (no n) = other n

pub put_here : (f : ℕ → SeatLog) (i : ℕ) (l : SeatLog) → put f i l i ≡ l
put_here f i l = at_put f i l (λ q x. q ≡ i → x ≡ l) i (λ _. refl) (λ n. absurd (n refl)) refl

pub put_else : (f : ℕ → SeatLog) (i : ℕ) (l : SeatLog) (j : ℕ) → j ≢ i → put f i l j ≡ f j
put_else f i l j n = at_put f i l (λ q x. q ≢ i → x ≡ f q) j (λ m. absurd (m refl)) (λ _ _. refl) n

pub seen_here : (v : View) (c : ℕ) (l : SeatLog) → c < length v.seen → seen_log (saw v c l) c ≡ l
seen_here v c l h = get_or-set_same v.seen c l [] h

pub seen_else : (v : View) (c : ℕ) (l : SeatLog) (d : ℕ) → d ≢ c → seen_log (saw v c l) d ≡ seen_log v d
seen_else v c l d n = get_or-set_other v.seen c d l [] n

pub none_append : (c : ℕ) (o : Owner) (xs ys : SeatLog) → HasNoneBy c o xs → HasNoneBy c o ys → HasNoneBy c o (xs ++ ys)
none_append c o [] ys p q = q
none_append c o (x ∷ xs) ys p q = (p.0, none_append c o xs ys p.1 q)

abbrev pub AllBy : ℕ → Owner → SeatLog → Type 0
AllBy c o [] = Unit {0}
AllBy c o (e ∷ es) = (maker_of c e ≡ o) × AllBy c o es

pub none_others : (c : ℕ) (o p : Owner) (xs : SeatLog) → AllBy c o xs → o ≢ p → HasNoneBy c p xs
none_others c o p [] a n = tt
none_others c o p (x ∷ xs) a n = ((λ e. n (sym a.0 ∙ e)), none_others c o p xs a.1 n)

pub picked : (c k : ℕ) (b : Bool) → pick b (Port k) (Follower c) ≢ Nobody
picked c k true e = absurd (cc (e))
picked c k false e = absurd (cc (e))

pub holder_somebody : (c k : ℕ) → named c k ≢ Nobody
holder_somebody c k e = picked c k (ltb k 128) e

pub maker_somebody : (c : ℕ) (e : LogEntry) → maker_of c e ≢ Nobody
maker_somebody c (Order g k) e = absurd (cc (e))
maker_somebody c (Change g k t s f) e = picked c k (ltb k 128) e

-- of a view that is not the owner's, nothing of it
others_of : (c : ℕ) (o p : Owner) (xs : SeatLog) → AllBy c o xs → (o ≡ p → o ≢ Nobody → ⊥) → HasNoneBy c p xs
others_of c o p [] a n = tt
others_of c o p (x ∷ xs) a n = ((λ e. n (sym a.0 ∙ e) (λ m. maker_somebody c x (a.0 ∙ m))), others_of c o p xs a.1 n)

pub nobody_made : (c : ℕ) (l : SeatLog) → HasNoneBy c Nobody l
nobody_made c [] = tt
nobody_made c (e ∷ es) = (maker_somebody c e, nobody_made c es)

pub blank : (p m : ℕ) (j : List ℕ) (c : ℕ) (o : Owner) (l : SeatLog) → GrewByOthers c o l l × GrewByOthers c Nobody [] l × (o ≡ Hub → (n : ℕ) → IsAmong n j → n ≢ m → GrewByOthers c (pass_owner p n) l l) × ((Nobody ≡ Nobody) ⊎ (Nobody ≡ pass_owner p m))
blank p m j c o l = (record { newer = []; is = refl; none_mine = tt }, record { newer = l; is = sym (append-nil l); none_mine = nobody_made c l }, (λ _ n _ _. record { newer = []; is = refl; none_mine = tt }), inl refl)

pub made_append : (c ports n : ℕ) (xs ys : SeatLog) → AreMadeBy c ports n xs → AreMadeBy c ports n ys → AreMadeBy c ports n (xs ++ ys)
made_append c ports n [] ys p q = q
made_append c ports n (x ∷ xs) ys p q = (p.0, made_append c ports n xs ys p.1 q)

-- one seat sees all of the log of c, to which it may have added
pub moved : (rows clocks : ℕ) (os : List ClockState) (s : St) (k : LogsHold rows clocks os s) (id : ℕ) (v : View) (c : ℕ) (add : SeatLog) → get_elem? s.views id ≡ some v → c < length v.seen → c < length s.words → c < clocks
    → ((j : ℕ) (h : View) → get_elem? s.views j ≡ some h → h.owner ≡ Hub → AreMadeBy c h.ports h.passes add) → AllBy c v.owner add → RowsHold rows clocks os s.words c (add ++ k.logs c) → IsSeatLog rows (add ++ k.logs c) → HasNoCircle (λ d. ctrl_after (put k.logs c (add ++ k.logs c) d))
    → LogsHold rows clocks os record { words = set s.words c (word_after (add ++ k.logs c)); homes = s.homes; views = set s.views id (saw v c (add ++ k.logs c)) }
moved rows clocks os s k id v c add at wide in_words near made mine new_rows lawful forest =
    let l : SeatLog = add ++ k.logs c in
    let logs' : ℕ → SeatLog = put k.logs c l in
    record {
      logs = logs';
      small = k.small;
      wide = length-set s.words c (word_after l) ∙ k.wide;
      words_are = words;
      rows_are = λ d inside. rows_kept rows clocks os s.words c (word_after l) d (logs' d) near (at_put k.logs c l (λ x m. x ≡ d → RowsHold rows clocks os s.words d m) d (λ same. subst (λ (x : ℕ). RowsHold rows clocks os s.words x l) same new_rows) (λ _ _. k.rows_are d inside) refl);
      drafts = λ j w e. ⊎_elim
          (λ (t : (j ≡ id) × (saw v c l ≡ w)). subst (DraftHolds rows clocks (set s.words c (word_after l))) t.1 (no_draft rows clocks (set s.words c (word_after l)) (saw v c l) refl))
          (λ (t : (j ≢ id) × (get_elem? s.views j ≡ some w)). draft_kept rows clocks s.words c (word_after l) w near (k.drafts j w t.1))
          (at_set s.views id j (saw v c l) w e);
      lawful = λ d. at_put k.logs c l (λ _ x. IsSeatLog rows x) d lawful (λ _. k.lawful d);
      forest = forest;
      each = λ j w e d. ⊎_elim
          (λ (t : (j ≡ id) × (saw v c l ≡ w)). subst (λ (u : View). GrewByOthers d u.owner (seen_log u d) (logs' d)) t.1 (own d))
          (λ (t : (j ≢ id) × (get_elem? s.views j ≡ some w)). at_put k.logs c l (λ x m. x ≡ d → GrewByOthers d w.owner (seen_log w d) m) d (λ same. other j w t.0 t.1 d (sym same)) (λ n _. k.each j w t.1 d) refl)
          (at_set s.views id j (saw v c l) w e);
      unmade = λ j w e hub m le. unmade j w hub m le (at_set s.views id j (saw v c l) w e);
      ports_are = λ i j x y e f a b. ports_are i j x y a b (at_set s.views id i (saw v c l) x e) (at_set s.views id j (saw v c l) y f);
      makers = λ j w e hub d. makers j w hub d (at_set s.views id j (saw v c l) w e);
      gone = λ j w e hub m in_joined. gone j w hub m in_joined (at_set s.views id j (saw v c l) w e);
      single = λ j w e. ⊎_elim
          (λ (t : (j ≡ id) × (saw v c l ≡ w)). subst (λ (u : View). AreDistinct u.joined) t.1 (k.single id v at))
          (λ (t : (j ≢ id) × (get_elem? s.views j ≡ some w)). k.single j w t.1)
          (at_set s.views id j (saw v c l) w e);
      remembers = λ j w e d. ⊎_elim
          (λ (t : (j ≡ id) × (saw v c l ≡ w)). subst (λ (u : View). JoinTellsLog u d) t.1 (blank v.ports v.stories.met v.joined d v.owner (seen_log (saw v c l) d)))
          (λ (t : (j ≢ id) × (get_elem? s.views j ≡ some w)). k.remembers j w t.1 d)
          (at_set s.views id j (saw v c l) w e);
      apart = λ i j x y e f. apart i j x y (at_set s.views id i (saw v c l) x e) (at_set s.views id j (saw v c l) y f);
    }
  where
    l : SeatLog
    l = add ++ k.logs c

    words : (d : ℕ) → d < clocks → get_or (set s.words c (word_after (add ++ k.logs c))) d 0 ≡ word_after (put k.logs c (add ++ k.logs c) d)
    words d h = at_put k.logs c l (λ x m. x ≡ d → get_or (set s.words c (word_after l)) d 0 ≡ word_after m) d
        (λ same. ap (λ (x : ℕ). get_or (set s.words c (word_after l)) x 0) (sym same) ∙ get_or-set_same s.words c (word_after l) 0 in_words)
        (λ n _. get_or-set_other s.words c d (word_after l) 0 n ∙ k.words_are d h)
        refl

    still : (o : Owner) → IsUnmade k.logs s.views o → IsUnmade (put k.logs c (add ++ k.logs c)) (set s.views id (saw v c (add ++ k.logs c))) o
    still o u = record {
      entries = λ d. at_put k.logs c l (λ x m. x ≡ d → HasNoneBy d o m) d (λ same. subst (λ (x : ℕ). HasNoneBy x o l) same (none_append c o add (k.logs c) (none_others c v.owner o add mine (u.views_of id v at)) (u.entries c))) (λ _ _. u.entries d) refl;
      views_of = λ j w e. ⊎_elim (λ (t : (j ≡ id) × (saw v c l ≡ w)). λ m. u.views_of id v at (ap (λ (x : View). x.owner) t.1 ∙ m)) (λ (t : (j ≢ id) × (get_elem? s.views j ≡ some w)). u.views_of j w t.1) (at_set s.views id j (saw v c l) w e);
    }

    unmade : (j : ℕ) (w : View) → w.owner ≡ Hub → (m : ℕ) → w.passes ≤ m → ((j ≡ id) × (saw v c (add ++ k.logs c) ≡ w)) ⊎ ((j ≢ id) × (get_elem? s.views j ≡ some w)) → IsUnmade (put k.logs c (add ++ k.logs c)) (set s.views id (saw v c (add ++ k.logs c))) (pass_owner w.ports m)
    unmade j w hub m le (inl t) = subst (λ (q : ℕ). IsUnmade (put k.logs c l) (set s.views id (saw v c l)) (pass_owner q m)) (ap (λ (x : View). x.ports) t.1) (still (pass_owner v.ports m) (k.unmade id v at (ap (λ (x : View). x.owner) t.1 ∙ hub) m (subst (λ (q : ℕ). q ≤ m) (sym (ap (λ (x : View). x.passes) t.1)) le)))
    unmade j w hub m le (inr t) = still (pass_owner w.ports m) (k.unmade j w t.1 hub m le)

    ports_are : (i j : ℕ) (x y : View) → x.owner ≢ Nobody → y.owner ≢ Nobody → ((i ≡ id) × (saw v c (add ++ k.logs c) ≡ x)) ⊎ ((i ≢ id) × (get_elem? s.views i ≡ some x)) → ((j ≡ id) × (saw v c (add ++ k.logs c) ≡ y)) ⊎ ((j ≢ id) × (get_elem? s.views j ≡ some y)) → x.ports ≡ y.ports
    ports_are i j x y a b (inl p) (inl q) = sym (ap (λ (u : View). u.ports) p.1) ∙ ap (λ (u : View). u.ports) q.1
    ports_are i j x y a b (inl p) (inr q) = sym (ap (λ (u : View). u.ports) p.1) ∙ k.ports_are id j v y at q.1 (λ n. a (sym (ap (λ (u : View). u.owner) p.1) ∙ n)) b
    ports_are i j x y a b (inr p) (inl q) = k.ports_are i id x v p.1 at a (λ n. b (sym (ap (λ (u : View). u.owner) q.1) ∙ n)) ∙ ap (λ (u : View). u.ports) q.1
    ports_are i j x y a b (inr p) (inr q) = k.ports_are i j x y p.1 q.1 a b

    all_made : (j : ℕ) (h : View) → get_elem? s.views j ≡ some h → h.owner ≡ Hub → (d : ℕ) → AreMadeBy d h.ports h.passes (put k.logs c (add ++ k.logs c) d)
    all_made j h e hub d = at_put k.logs c l (λ x m. x ≡ d → AreMadeBy d h.ports h.passes m) d (λ same. subst (λ (x : ℕ). AreMadeBy x h.ports h.passes l) same (made_append c h.ports h.passes add (k.logs c) (made j h e hub) (k.makers j h e hub c))) (λ _ _. k.makers j h e hub d) refl

    makers : (j : ℕ) (w : View) → w.owner ≡ Hub → (d : ℕ) → ((j ≡ id) × (saw v c (add ++ k.logs c) ≡ w)) ⊎ ((j ≢ id) × (get_elem? s.views j ≡ some w)) → AreMadeBy d w.ports w.passes (put k.logs c (add ++ k.logs c) d)
    makers j w hub d (inl t) = subst (λ (u : View). AreMadeBy d u.ports u.passes (put k.logs c l d)) t.1 (all_made id v at (ap (λ (u : View). u.owner) t.1 ∙ hub) d)
    makers j w hub d (inr t) = all_made j w t.1 hub d

    away : (o : Owner) → ((j : ℕ) (w : View) → get_elem? s.views j ≡ some w → w.owner ≢ o) → (j : ℕ) (w : View) → get_elem? (set s.views id (saw v c (add ++ k.logs c))) j ≡ some w → w.owner ≢ o
    away o none j w e = ⊎_elim (λ (t : (j ≡ id) × (saw v c l ≡ w)). λ m. none id v at (ap (λ (x : View). x.owner) t.1 ∙ m)) (λ (t : (j ≢ id) × (get_elem? s.views j ≡ some w)). none j w t.1) (at_set s.views id j (saw v c l) w e)

    gone : (j : ℕ) (w : View) → w.owner ≡ Hub → (m : ℕ) → IsAmong m w.joined → ((j ≡ id) × (saw v c (add ++ k.logs c) ≡ w)) ⊎ ((j ≢ id) × (get_elem? s.views j ≡ some w)) → (m < w.passes) × IsJoined (put k.logs c (add ++ k.logs c)) (set s.views id (saw v c (add ++ k.logs c))) (pass_owner w.ports m) w
    gone j w hub m has (inl t) =
        let old = k.gone id v at (ap (λ (u : View). u.owner) t.1 ∙ hub) m (subst (λ (u : View). IsAmong m u.joined) (sym t.1) has) in
        subst (λ (u : View). (m < u.passes) × IsJoined (put k.logs c l) (set s.views id (saw v c l)) (pass_owner u.ports m) u) t.1 (
          old.0,
          record {
            grew = λ d. at_put k.logs c l (λ x y. x ≡ d → GrewByOthers d (pass_owner v.ports m) (seen_log (saw v c l) d) y) d
                (λ same. record { newer = []; is = sym (ap (λ (x : ℕ). seen_log (saw v c l) x) (sym same) ∙ seen_here v c l wide); none_mine = tt })
                (λ n _. let g = old.1.grew d in record { newer = g.newer; is = g.is ∙ ap (λ (y : SeatLog). g.newer ++ y) (sym (seen_else v c l d n)); none_mine = g.none_mine })
                refl;
            views_of = away (pass_owner v.ports m) old.1.views_of;
          },
        )
    gone j w hub m has (inr t) =
        let old = k.gone j w t.1 hub m has in (
          old.0,
          record {
            grew = λ d. at_put k.logs c l (λ x y. x ≡ d → GrewByOthers d (pass_owner w.ports m) (seen_log w d) y) d
                (λ same. subst (λ (x : ℕ). GrewByOthers x (pass_owner w.ports m) (seen_log w x) l) same
                (let g = old.1.grew c in record { newer = add ++ g.newer; is = ap (λ (y : SeatLog). add ++ y) g.is ∙ sym (append_assoc add g.newer (seen_log w c)); none_mine = none_append c (pass_owner w.ports m) add g.newer (none_others c v.owner (pass_owner w.ports m) add mine (old.1.views_of id v at)) g.none_mine }))
                (λ _ _. old.1.grew d)
                refl;
            views_of = away (pass_owner w.ports m) old.1.views_of;
          },
        )

    own : (d : ℕ) → GrewByOthers d v.owner (seen_log (saw v c (add ++ k.logs c)) d) (put k.logs c (add ++ k.logs c) d)
    own d = at_put k.logs c l (λ x m. x ≡ d → GrewByOthers d v.owner (seen_log (saw v c l) d) m) d
        (λ same. record { newer = []; is = sym (ap (λ (x : ℕ). seen_log (saw v c l) x) (sym same) ∙ seen_here v c l wide); none_mine = tt })
        (λ n _. let g = k.each id v at d in record { newer = g.newer; is = g.is ∙ ap (λ (m : SeatLog). g.newer ++ m) (sym (seen_else v c l d n)); none_mine = g.none_mine })
        refl

    other : (j : ℕ) (w : View) → j ≢ id → get_elem? s.views j ≡ some w → (d : ℕ) → d ≡ c → GrewByOthers d w.owner (seen_log w d) (add ++ k.logs c)
    other j w n e d same =
        let g = k.each j w e c in
        subst (λ (x : ℕ). GrewByOthers x w.owner (seen_log w x) (add ++ k.logs c)) (sym same) record {
          newer = add ++ g.newer;
          is = ap (λ (m : SeatLog). add ++ m) g.is ∙ sym (append_assoc add g.newer (seen_log w c));
          none_mine = none_append c w.owner add g.newer (others_of c v.owner w.owner add mine (λ same_owner somebody. n (sym (k.apart id j v w at e same_owner somebody)))) g.none_mine;
        }

    apart : (i j : ℕ) (x y : View) → ((i ≡ id) × (saw v c (add ++ k.logs c) ≡ x)) ⊎ ((i ≢ id) × (get_elem? s.views i ≡ some x)) → ((j ≡ id) × (saw v c (add ++ k.logs c) ≡ y)) ⊎ ((j ≢ id) × (get_elem? s.views j ≡ some y)) → x.owner ≡ y.owner → x.owner ≢ Nobody → i ≡ j
    apart i j x y (inl a) (inl b) same somebody = a.0 ∙ sym b.0
    apart i j x y (inl a) (inr b) same somebody = a.0 ∙ k.apart id j v y at b.1 (ap (λ (u : View). u.owner) a.1 ∙ same) (λ m. somebody (sym (ap (λ (u : View). u.owner) a.1) ∙ m))
    apart i j x y (inr a) (inl b) same somebody = k.apart i id x v a.1 at (same ∙ sym (ap (λ (u : View). u.owner) b.1)) somebody ∙ sym b.0
    apart i j x y (inr a) (inr b) same somebody = k.apart i j x y a.1 b.1 same somebody

-- a pass has one number
pub one_pass : (p m n : ℕ) → pass_owner p m ≡ pass_owner p n → m ≡ n
one_pass p m n e = go (ltb m p) (ltb n p) refl refl e
  where
    go : (a b : Bool) → ltb m p ≡ a → ltb n p ≡ b → pick a (Port (suc m)) (Follower (m - p)) ≡ pick b (Port (suc n)) (Follower (n - p)) → m ≡ n
    go true true x y e = let h : suc m ≡ suc n = cc (e) in omega arith
    go true false x y e = absurd (cc (e))
    go false true x y e = absurd (cc (e))
    go false false x y e = let h : m - p ≡ n - p = cc (e) in let f = ltb-false m p x in let g = ltb-false n p y in omega arith

pub nth_somebody : (p m : ℕ) (b : Bool) → pick b (Port (suc m)) (Follower (m - p)) ≢ Nobody
nth_somebody p m true e = absurd (cc (e))
nth_somebody p m false e = absurd (cc (e))

pub nth_not_hub : (p m : ℕ) (b : Bool) → pick b (Port (suc m)) (Follower (m - p)) ≢ Hub
nth_not_hub p m true e = absurd (cc (e))
nth_not_hub p m false e = absurd (cc (e))
