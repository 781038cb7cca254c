-- The hub's seat takes in passes for good.
use Rattle.std.proofs.Common.{ltb, get_or, ◌≡◌, ℕ, ◌≤◌, inl, inr, ⊎_elim, List, [], ◌∷◌, ◌++◌, length, map, refl, sym, ap, ◌∙◌, subst, arith}
use Rattle.std.specs.List.{AllByRecursion}
use Rattle.discipline_seat.specs.declared.view.Owner.{Owner}
use Rattle.discipline_seat.specs.declared.view.Owner.TheVariants.{Hub}
use Rattle.discipline_seat.specs.declared.view.View.{View}
use Rattle.discipline_seat.specs.SeatValue.{SeatValue}
use Rattle.discipline_seat.specs.Rule.SeatLog.{GrewByOthers, pass_owner}
use Rattle.discipline_seat.specs.Rule.SeatView.{AreDistinct, IsAmong, IsPassView, IsTruthful, JoinTellsLog, after_closing, after_telling, seen_log}
use Rattle.discipline_seat.specs.WholeLogs.{AllTakenIn, IsTakenIn, TakenIn}
use Rattle.discipline_seat.proofs.lemmas.CallLemmas.{grew_on}
use Rattle.discipline_seat.proofs.lemmas.LogWordLemmas.{length-merged}
use Rattle.discipline_seat.proofs.lemmas.RuleLemmas.{nth_somebody}

-- what a join and the look after it make of the hub's view
pub record Gathered (v : View) (q : SeatValue) (w : View) : Type 0 where
  pub taken : TakenIn v q w
  pub wide : length w.seen ≡ length v.seen
  pub openings : w.openings ≡ v.openings
  pub mine : (c : ℕ) → GrewByOthers c v.owner (seen_log v c) (seen_log w c)

pub gathered : (v : View) (q : SeatValue) (j w : View) → length q.view.seen ≤ length v.seen → j ≡ after_closing v q.view → w ≡ after_telling j → ((c : ℕ) → JoinTellsLog j c) → AreDistinct j.joined → v.owner ≡ Hub → IsPassView q.view → IsTruthful q.view → Gathered v q w
gathered v q j w le js ws told once hub mine_is truth =
    let p : View = q.view in
    let is : w ≡ after_telling (after_closing v p) = ws ∙ ap after_telling js in
    let tells : (c : ℕ) → JoinTellsLog (after_closing v p) c = subst (λ (y : View). (c : ℕ) → JoinTellsLog y c) js told in
    let single : AreDistinct (p.number ∷ v.joined) = subst (λ (y : View). AreDistinct y.joined) js once in
    let mine : (c : ℕ) → GrewByOthers c v.owner (seen_log v c) (seen_log w c) = λ c. subst (λ (y : View). GrewByOthers c v.owner (seen_log v c) (seen_log y c)) (sym is) (tells c).0 in
    record {
      taken = record {
        owner = ap (λ (y : View). y.owner) is;
        ports = ap (λ (y : View). y.ports) is;
        passes = ap (λ (y : View). y.passes) is;
        joined = ap (λ (y : View). y.joined) is;
        grew = mine;
        own = λ c. subst (λ (y : View). GrewByOthers c p.owner (seen_log p c) (seen_log y c)) (sym is) (tells c).1;
        before = λ m has c. subst (λ (y : View). GrewByOthers c (pass_owner v.ports m) (seen_log v c) (seen_log y c)) (sym is) ((tells c).2 hub m (inr has) (λ same. single.0 (subst (λ (n : ℕ). IsAmong n v.joined) same has)));
        truth = truth;
        named = ⊎_elim (λ nobody. absurd (nth_somebody p.ports p.number (ltb p.number p.ports) (sym mine_is ∙ nobody))) (λ e. e) (tells 0).3;
      };
      wide = ap (λ (y : View). length y.seen) is ∙ length-merged v.seen p.seen le;
      openings = ap (λ (y : View). y.openings) is;
      mine = mine;
    }

-- none was taken in
pub none_taken : (v : View) → AllTakenIn v [] v
none_taken v = record { owner = refl; ports = refl; counted = refl; joined = refl; grew = λ c. record { newer = []; is = refl; none_mine = tt }; each = tt }

-- one more was taken in
pub one_taken : (v w x : View) (p : SeatValue) (ps : List SeatValue) → AllTakenIn v ps w → TakenIn w p x → AllTakenIn v (p ∷ ps) x
one_taken v w x p ps all t = record {
  owner = t.owner ∙ all.owner;
  ports = t.ports ∙ all.ports;
  counted = t.passes ∙ all.counted;
  joined = t.joined ∙ ap (λ (l : List ℕ). p.view.number ∷ l) all.joined;
  grew = λ c. grew_on c v.owner (seen_log v c) (seen_log w c) (seen_log x c) (all.grew c) (subst (λ (o : Owner). GrewByOthers c o (seen_log w c) (seen_log x c)) all.owner (t.grew c));
  each = (
    record { own = t.own; named = t.named ∙ ap (λ (n : ℕ). pass_owner n p.view.number) all.ports; truth = t.truth },
    later ps all.each (λ m has. subst (IsAmong m) (sym all.joined) (among m ps has)),
  );
}
  where
    among : (m : ℕ) (qs : List SeatValue) → IsAmong m (map (λ (q : SeatValue). q.view.number) qs) → IsAmong m (map (λ (q : SeatValue). q.view.number) qs ++ v.joined)
    among m [] has = absurd has
    among m (q ∷ qs) has = ⊎_elim (λ e. inl e) (λ h. inr (among m qs h)) has

    later : (qs : List SeatValue) → AllByRecursion (IsTakenIn v.ports w) qs → ((m : ℕ) → IsAmong m (map (λ (q : SeatValue). q.view.number) qs) → IsAmong m w.joined) → AllByRecursion (IsTakenIn v.ports x) qs
    later [] each has = tt
    later (q ∷ qs) each has =
        let here = each.0 in
        let is : pass_owner w.ports q.view.number ≡ q.view.owner = ap (λ (n : ℕ). pass_owner n q.view.number) all.ports ∙ sym here.named in (
          record {
            own = λ c. grew_on c q.view.owner (seen_log q.view c) (seen_log w c) (seen_log x c) (here.own c) (subst (λ (o : Owner). GrewByOthers c o (seen_log w c) (seen_log x c)) is (t.before q.view.number (has q.view.number (inl refl)) c));
            named = here.named;
            truth = here.truth;
          },
          later qs each.1 (λ m h. has m (inr h)),
        )

-- the element between two lists
pub at_middle : (xs ys : List SeatValue) (p : SeatValue) → get_or (xs ++ p ∷ ys) (length xs) p ≡ p
at_middle [] ys p = refl
at_middle (x ∷ xs) ys p = at_middle xs ys p
