-- What a note told.
use Rattle.std.proofs.Common.{Bool, true, false, ◌⊎◌, inl, inr, ⊎_elim, ◌≡◌, ℕ, ◌<◌, ◌≤◌, [], ◌++◌, append_assoc, List, length-append, length, refl, sym, ap, ◌∙◌, subst, arith}
use Rattle.ptp_profile.specs.Roles.SeatLogs.{order_count}
use Rattle.atomic_table.specs.Table.{Me}
use Rattle.ptp_profile.specs.declared.seats.LogEntry.{LogEntry}
use Rattle.discipline_seat.specs.declared.view.Owner.{Owner}
use Rattle.discipline_seat.specs.declared.view.Owner.TheVariants.{Hub}
use Rattle.discipline_seat.specs.declared.view.View.{View}
use Rattle.discipline_seat.specs.declared.view.StoryView.{StoryView}
use Rattle.discipline_seat.specs.Rule.SeatLog.{Extends, GrewByOthers, HasNoneBy, SeatLog, ctrl_after, gener_after, stamp_number}
use Rattle.discipline_seat.specs.Rule.SeatView.{IsPassView, JoinTellsLog, after_hearing as heard, after_join as both, after_learning as learnt, after_telling as forget, note_of as note, one_log as longer, seen_log, with_page}
use Rattle.discipline_seat.specs.Rule.Story.{JoinTellsStories, Story, StoryExtends, longer_story as more, story_of}
use Rattle.discipline_seat.specs.SeatCalls.{HasSameOrders, HearYields, LearnYields, RoundYields, StoryTold, IsPassSeat, MeetYields}
use Rattle.discipline_seat.proofs.lemmas.StoryEndLemmas.{ends_on, ends_both, more_second, set_at_same, set_at_other}
use Rattle.discipline_seat.proofs.lemmas.LogWordLemmas.{length-merged, no_orders, at_merged, same_end}

-- the view of a seat that joined a note, and what that tells
pub record Noted (v u w : View) : Type 0 where
  pub owner : w.owner ≡ v.owner
  pub ports : w.ports ≡ v.ports
  pub number : w.number ≡ v.number
  pub openings : w.openings ≡ v.openings
  pub passes : w.passes ≡ v.passes
  pub wide : length u.seen ≤ length v.seen → length w.seen ≡ length v.seen
  pub mine : (c : ℕ) → GrewByOthers c v.owner (seen_log v c) (seen_log w c)
  pub one : (c : ℕ) → length u.seen ≤ length v.seen → (seen_log w c ≡ seen_log v c) ⊎ (seen_log w c ≡ seen_log u c)
  pub theirs : (c : ℕ) → Extends (seen_log u c) (seen_log w c)

one_of : (t : Bool) (a b : SeatLog) → (longer t a b ≡ a) ⊎ (longer t a b ≡ b)
one_of true a b = inr refl
one_of false a b = inl refl

pub noted : (v u w j : View) (t : StoryView) → j ≡ both v (note u) t v.joined → w ≡ forget j → ((c : ℕ) → JoinTellsLog j c) → Noted v u w
noted v u w j t joined ws told =
    let is : w ≡ forget (both v (note u) t v.joined) = ws ∙ ap forget joined in
    let tells : (c : ℕ) → JoinTellsLog (both v (note u) t v.joined) c = subst (λ (y : View). (c : ℕ) → JoinTellsLog y c) joined told in
    record {
      owner = ap (λ (y : View). y.owner) is;
      ports = ap (λ (y : View). y.ports) is;
      number = ap (λ (y : View). y.number) is;
      openings = ap (λ (y : View). y.openings) is;
      passes = ap (λ (y : View). y.passes) is;
      wide = λ le. ap (λ (y : View). length y.seen) is ∙ length-merged v.seen u.seen le;
      one = λ c le. subst (λ (y : View). (seen_log y c ≡ seen_log v c) ⊎ (seen_log y c ≡ seen_log u c)) (sym is)
          (at_merged v.seen u.seen c (λ m. (m ≡ seen_log v c) ⊎ (m ≡ seen_log u c)) (λ t _. one_of t (seen_log v c) (seen_log u c)) le);
      mine = λ c. subst (λ (y : View). GrewByOthers c v.owner (seen_log v c) (seen_log y c)) (sym is) (tells c).0;
      theirs = λ c. subst (λ (y : View). Extends (seen_log u c) (seen_log y c)) (sym is) (let g = (tells c).1 in record { newer = g.newer; is = g.is });
    }

-- the hub's last stamps stay
pub stamps_stay : (v w : View) (c n : ℕ) → v.owner ≡ Hub → GrewByOthers c v.owner (seen_log v c) (seen_log w c) → (n ≡ stamp_number (seen_log v c)) × (ctrl_after (seen_log v c) < 256) → (n ≡ stamp_number (seen_log w c)) × (ctrl_after (seen_log w c) < 256)
stamps_stay v w c n hub g was =
    let same = no_orders c g.newer (seen_log v c) (subst (λ (o : Owner). HasNoneBy c o g.newer) hub g.none_mine) in
    let gener : gener_after (seen_log w c) ≡ gener_after (seen_log v c) = ap gener_after g.is ∙ same.0 in
    let ctrl : ctrl_after (seen_log w c) ≡ ctrl_after (seen_log v c) = ap ctrl_after g.is ∙ same.1 in
    (omega (arith, was.0), omega (arith, was.1))

extends_on : (a b c : SeatLog) → Extends a b → Extends b c → Extends a c
extends_on a b c p q = record { newer = q.newer ++ p.newer; is = q.is ∙ ap (λ (l : SeatLog). q.newer ++ l) p.is ∙ sym (append_assoc q.newer p.newer a) }

pub just_more : (c : ℕ) (o : Owner) (a b : SeatLog) → GrewByOthers c o a b → Extends a b
just_more c o a b g = record { newer = g.newer; is = g.is }

-- who had seen no more than the note has then seen what the note had
pub caught_up : (v u w : View) (c : ℕ) → Noted v u w → length u.seen ≤ length v.seen → length (seen_log v c) ≤ length (seen_log u c) → seen_log w c ≡ seen_log u c
caught_up v u w c n le less = ⊎_elim (λ (is : seen_log w c ≡ seen_log v c). same_end (seen_log u c) (seen_log w c) (n.theirs c) (omega (arith, ap length is))) (λ is. is) (n.one c le)

-- what the hub's view was told by a note
pub hears_it : (v u w j : View) → j ≡ heard v (note u) → w ≡ forget j → JoinTellsStories j.stories → HearYields v u w
hears_it v u w j js ws r =
    let is : w ≡ forget (heard v (note u)) = ws ∙ ap forget js in
    let m : ℕ = u.number in
    let q : JoinTellsStories (heard v (note u)).stories = subst (λ (y : View). JoinTellsStories y.stories) js r in
    let same : w.stories ≡ (heard v (note u)).stories = ap (λ (y : View). y.stories) is in
    let here : story_of (heard v (note u)).stories m ≡ more (story_of v.stories m) u.stories.story = set_at_same v.stories.stories m (more (story_of v.stories m) u.stories.story) in
    record {
      now = record { here = ap (λ (t : StoryView). story_of t m) same ∙ here; others = λ n o. ap (λ (t : StoryView). story_of t n) same ∙ set_at_other v.stories.stories m n (more (story_of v.stories m) u.stories.story) o };
      told = q.told;
      former = subst (λ (t : StoryView). StoryExtends (story_of v.stories m) (story_of t m)) (sym same) q.former;
      theirs = subst (λ (t : StoryView). StoryExtends u.stories.story (story_of t m)) (sym same) q.theirs;
    }

-- what a pass's view was told by a note of the hub's
pub learns_it : (v u w j : View) → Noted v u w → j ≡ learnt v (note u) → w ≡ forget j → (IsPassView j → StoryExtends j.stories.told j.stories.story) → IsPassView v → LearnYields v u w
learns_it v u w j n js ws r mine =
    let is : w ≡ forget (learnt v (note u)) = ws ∙ ap forget js in
    let same : w.stories ≡ (learnt v (note u)).stories = ap (λ (y : View). y.stories) is in
    let q : StoryExtends (learnt v (note u)).stories.told v.stories.story = (subst (λ (y : View). IsPassView y → StoryExtends y.stories.told y.stories.story) js r) mine in
    record {
      owner = ap (λ (y : View). y.owner) is;
      number = ap (λ (y : View). y.number) is;
      story = ap (λ (t : StoryView). t.story) same;
      now = ap (λ (t : StoryView). t.told) same;
      told = subst (λ (t : StoryView). StoryExtends t.told t.story) (sym same) q;
      grew = n.mine;
    }

-- a round
pub rounds : (xs : Story) (h p x i q : View) → x.owner ≡ p.owner → x.number ≡ p.number → x.stories.story ≡ xs ++ p.stories.story → x.stories.told ≡ p.stories.told → x.seen ≡ p.seen → HearYields h x i → LearnYields x i q → RoundYields xs h p i q
rounds xs h p x i q owner number story told seen heard learnt =
    let m : ℕ = x.number in
    let s : Story = story_of i.stories m in
    let known : q.stories.told ≡ s = learnt.now ∙ more_second x.stories.told s (ends_on _ _ _ heard.told heard.former) in
    let all : s ≡ q.stories.story = ends_both s q.stories.story (subst (λ (y : Story). StoryExtends y q.stories.story) known learnt.told) (subst (λ (y : Story). StoryExtends y s) (sym learnt.story) heard.theirs) in
    record {
      owner = learnt.owner ∙ owner;
      number = learnt.number ∙ number;
      story = learnt.story ∙ story;
      level = known ∙ all;
      now = subst (λ (n : ℕ). StoryTold h.stories n q.stories.story i.stories) number record { here = all; others = heard.now.others };
      told = subst (λ (e : Story × ℕ). StoryExtends e.0 (story_of h.stories e.1)) (λ k. (told k, number k)) heard.told;
      grew = λ c. subst (λ (e : Owner × SeatLog). GrewByOthers c e.0 e.1 (seen_log q c)) (λ k. (owner k, Rattle.std.proofs.Common.get_or (seen k) c [])) (learnt.grew c);
      former = subst (λ (e : Story × ℕ). StoryExtends (story_of h.stories e.1) e.0) (λ k. (all k, number k)) heard.former;
    }

pub extends_length : (a b : SeatLog) → Extends a b → length a ≤ length b
extends_length a b e = omega (arith, ap length e.is, length-append e.newer a)

-- a pass's seat whose story has a page more
pub seated_page : (m : Me LogEntry View) (p : List ℕ) → IsPassSeat m → IsPassSeat (with_page m.0 p, m.1)
seated_page m p s = record { no_slots = s.no_slots; wide = s.wide; pass = s.pass }

-- two rounds, one after the other
pub met_again : (h p i q j z : SeatLog) → MeetYields h p i q → MeetYields i q j z → MeetYields h p j z
met_again h p i q j z a b = (extends_on h i j a.0 b.0, extends_on p i j a.1 b.0, b.2)

-- the hub's seat sees no order that it did not make
pub orders_stay : (c : ℕ) (o : Owner) (a b : SeatLog) → o ≡ Hub → GrewByOthers c o a b → HasSameOrders a b
orders_stay c o a b hub g =
    let same = no_orders c g.newer a (subst (λ (p : Owner). HasNoneBy c p g.newer) hub g.none_mine) in
    record {
      stamp = λ i. record { gener = (ap gener_after g.is ∙ same.0) i; ctrl = (ap ctrl_after g.is ∙ same.1) i };
      count = ap order_count g.is ∙ same.2;
    }

pub orders_on : (a b d : SeatLog) → HasSameOrders a b → HasSameOrders b d → HasSameOrders a d
orders_on a b d p q = record { stamp = q.stamp ∙ p.stamp; count = q.count ∙ p.count }
