-- Once the hub's seat took in all passes, what they made is the whole logs.
use Rattle.std.proofs.Common.{◌≡◌, ℕ, ◌<◌, ◌≤◌, ◌⊎◌, inl, inr, ⊎_elim, List, [], ◌∷◌, ◌++◌, length, map, reverse, refl, sym, ap, ◌∙◌, subst, arith}
use Rattle.std.specs.Prelude.{Some}
use Rattle.std.specs.List.{AllByRecursion}
use mathlib.Core.Option.{some}
use lib.ListN.{get_elem?}
use Rattle.std.proofs.lemmas.Bool.{cases_lt}
use Rattle.std.proofs.lemmas.List.{get_or_past, get_or-map, length-map, reverse-reverse}
use Rattle.std.proofs.lemmas.List.Elements.{All-from_recursion}
use Rattle.atomic_table.specs.Table.{State}
use Rattle.model_clock.specs.declared.state.ClockState.{ClockState}
use Rattle.ptp_profile.specs.Roles.SeatLogs.{entry_at, log_at}
use Rattle.ptp_profile.specs.declared.seats.LogEntry.{LogEntry}
use Rattle.discipline_seat.specs.declared.view.Owner.{Owner}
use Rattle.discipline_seat.specs.declared.view.Owner.TheVariants.{Hub}
use Rattle.discipline_seat.specs.declared.view.View.{View}
use Rattle.discipline_seat.specs.SeatValue.{SeatValue}
use Rattle.discipline_seat.specs.SeatEntries.{most_of, placed}
use Rattle.discipline_seat.specs.Rule.SeatLog.{AreMadeBy, Extends, GrewByOthers, HasNoneBy, IsSeatLog, SeatLog, maker_of, pass_owner}
use Rattle.discipline_seat.specs.Rule.SeatRule.{LogsHold}
use Rattle.discipline_seat.specs.Rule.SeatView.{AreDistinct, IsAmong, seen_log}
use Rattle.discipline_seat.specs.Rule.Story.{AreEntriesOf, StoryAgrees, receipts_of}
use Rattle.discipline_seat.specs.WholeLogs.{AllTakenIn, AreLogsOfPass, CloseYields, IsMade, IsTakenIn, IsWhole, made_of, orders_of}
use Rattle.discipline_seat.proofs.lemmas.EntryAtLemmas.{made_at, own_covers, own_stands, placed_whole}
use Rattle.discipline_seat.proofs.lemmas.EveryPassLemmas.{all_below, among_first, distinct_first}
use Rattle.discipline_seat.proofs.lemmas.LogWordLemmas.{all_seen, split_same}
use Rattle.discipline_seat.proofs.lemmas.StoryTruthLemmas.{agrees_more, own_more}
use Rattle.discipline_seat.proofs.lemmas.WholeLogLemmas.{own_orders}

abbrev Entries : Type 0
Entries = List (ℕ × LogEntry)

abbrev numbers : List SeatValue → List ℕ
numbers passes = map (λ (pass : SeatValue). pass.view.number) passes

-- the hub's view took in the pass of each number
every_pass : (rows clocks : ℕ) (os : List ClockState) (s : State LogEntry View) (k : LogsHold rows clocks os s) (id : ℕ) (v h : View) (ps : List SeatValue) → get_elem? s.views id ≡ some h → h.owner ≡ Hub → AllTakenIn v ps h → length ps ≡ v.passes
    → (m : ℕ) → m < h.passes → IsAmong m (numbers ps)
every_pass rows clocks os s k id v h ps at hub t count =
    all_below h.passes (numbers ps)
    (distinct_first (numbers ps) v.joined (subst AreDistinct t.joined (k.single id h at)))
    (λ m has. (k.gone id h at hub m (subst (IsAmong m) (sym t.joined) (among_first m (numbers ps) v.joined has))).0)
    (length-map ps (λ (pass : SeatValue). pass.view.number) ∙ count ∙ sym t.counted)

-- the hub's view, which took in all passes, has seen all
all_was_seen : (rows clocks : ℕ) (os : List ClockState) (s : State LogEntry View) (k : LogsHold rows clocks os s) (id : ℕ) (h : View) → get_elem? s.views id ≡ some h → h.owner ≡ Hub → ((m : ℕ) → m < h.passes → IsAmong m h.joined) → (c : ℕ) → k.logs c ≡ seen_log h c
all_was_seen rows clocks os s k id h at hub all c =
    let g = k.each id h at c in
    let made = subst (AreMadeBy c h.ports h.passes) g.is (k.makers id h at hub c) in
    let nothing : g.newer ≡ [] = all_seen c h.ports h.passes g.newer (seen_log h c) made (subst (λ (o : Owner). HasNoneBy c o g.newer) hub g.none_mine)
    (λ m lt. let f = (k.gone id h at hub m (all m lt)).1.grew c in subst (HasNoneBy c (pass_owner h.ports m)) (split_same f.newer g.newer (seen_log h c) (seen_log h c) (sym f.is ∙ g.is) refl).0 f.none_mine) in
    g.is ∙ ap (λ (l : SeatLog). l ++ seen_log h c) nothing

made_split : (n : ℕ) (e : LogEntry) (es fs : Entries) → IsMade n e (es ++ fs) → IsMade n e es ⊎ IsMade n e fs
made_split n e [] fs h = inr h
made_split n e (x ∷ es) fs h = ⊎_elim (λ is. inl (inl is)) (λ later. ⊎_elim (λ a. inl (inr a)) (λ b. inr b) (made_split n e es fs later)) h

made_first : (n : ℕ) (e : LogEntry) (es fs : Entries) → IsMade n e es → IsMade n e (es ++ fs)
made_first n e [] fs h = absurd h
made_first n e (x ∷ es) fs h = ⊎_elim (λ is. inl is) (λ later. inr (made_first n e es fs later)) h

made_last : (n : ℕ) (e : LogEntry) (es fs : Entries) → IsMade n e fs → IsMade n e (es ++ fs)
made_last n e [] fs h = h
made_last n e (x ∷ es) fs h = inr (made_last n e es fs h)

-- what a pass that was taken in made of the log
pass_made : (c ports : ℕ) (h : View) (p : SeatValue) → IsTakenIn ports h p → AreEntriesOf c p.view.owner (seen_log h c) (receipts_of c p.view.stories.story)
pass_made c ports h p t = own_more c p.view.owner (seen_log p.view c) (seen_log h c) (receipts_of c p.view.stories.story) (t.own c) (t.truth.own c)

each_stands : (c ports : ℕ) (v h : View) (ps : List SeatValue) (n : ℕ) (e : LogEntry) → AreEntriesOf c Hub (seen_log h c) (orders_of (seen_log v c)) → AllByRecursion (IsTakenIn ports h) ps → IsMade n e (made_of c v ps) → entry_at n (seen_log h c) ≡ Some e
each_stands c ports v h [] n e orders each made = own_stands c Hub (seen_log h c) (orders_of (seen_log v c)) n e orders made
each_stands c ports v h (p ∷ ps) n e orders each made = ⊎_elim
    (λ its. own_stands c p.view.owner (seen_log h c) (receipts_of c p.view.stories.story) n e (pass_made c ports h p each.0) its)
    (λ others. each_stands c ports v h ps n e orders each.1 others)
    (made_split n e (receipts_of c p.view.stories.story) (made_of c v ps) made)

order_is_made : (c : ℕ) (v : View) (ps : List SeatValue) (n : ℕ) (e : LogEntry) → IsMade n e (orders_of (seen_log v c)) → IsMade n e (made_of c v ps)
order_is_made c v [] n e h = h
order_is_made c v (p ∷ ps) n e h = made_last n e (receipts_of c p.view.stories.story) (made_of c v ps) (order_is_made c v ps n e h)

change_is_made : (c ports : ℕ) (v h : View) (ps : List SeatValue) (n m : ℕ) (e : LogEntry) → AllByRecursion (IsTakenIn ports h) ps → IsAmong m (numbers ps) → maker_of c e ≡ pass_owner ports m → entry_at n (seen_log h c) ≡ Some e → IsMade n e (made_of c v ps)
change_is_made c ports v h [] n m e each has by at = absurd has
change_is_made c ports v h (p ∷ ps) n m e each has by at = ⊎_elim
    (λ is. made_first n e (receipts_of c p.view.stories.story) (made_of c v ps) (own_covers c p.view.owner (seen_log h c) (receipts_of c p.view.stories.story) n e (pass_made c ports h p each.0) at (by ∙ ap (pass_owner ports) (sym is) ∙ sym each.0.named)))
    (λ later. made_last n e (receipts_of c p.view.stories.story) (made_of c v ps) (change_is_made c ports v h ps n m e each.1 later by at))
    has

-- the logs that the hub's view has seen are whole
whole_seen : (v h : View) (ps : List SeatValue) → h.owner ≡ Hub → AllTakenIn v ps h → ((m : ℕ) → m < h.passes → IsAmong m (numbers ps)) → (c : ℕ) → AreMadeBy c h.ports h.passes (seen_log h c) → IsWhole (made_of c v ps) (seen_log h c)
whole_seen v h ps hub t all c makers =
    let grew = subst (λ (o : Owner). GrewByOthers c o (seen_log v c) (seen_log h c)) (sym t.owner ∙ hub) (t.grew c) in
    let orders : AreEntriesOf c Hub (seen_log h c) (orders_of (seen_log v c)) = own_more c Hub (seen_log v c) (seen_log h c) (orders_of (seen_log v c)) grew (own_orders c (seen_log v c)) in
    record {
      each = λ n e made. each_stands c v.ports v h ps n e orders t.each made;
      others = λ n e at. ⊎_elim
          (λ by. order_is_made c v ps n e (own_covers c Hub (seen_log h c) (orders_of (seen_log v c)) n e orders at by))
          (λ (by : (m : ℕ) × (m < h.passes) × (maker_of c e ≡ pass_owner h.ports m)). change_is_made c v.ports v h ps n by.0 e t.each (all by.0 by.1) (by.2 ∙ ap (λ (p : ℕ). pass_owner p by.0) t.ports) at)
          (made_at c h.ports h.passes (seen_log h c) n e makers at);
    }

-- lists in which all entries have their places are the logs
list_is_log : (v h : View) (ps : List SeatValue) (lists blanks : List (List LogEntry)) → length lists ≡ length h.seen → length blanks ≡ length lists → ((c : ℕ) → IsWhole (made_of c v ps) (seen_log h c))
    → ((c : ℕ) → c < length blanks → length (log_at blanks c) ≡ most_of 0 (made_of c v ps)) → ((c : ℕ) → log_at lists c ≡ placed (made_of c v ps) (log_at blanks c)) → (c : ℕ) → log_at (map reverse lists) c ≡ seen_log h c
list_is_log v h ps lists blanks long same whole sized filled c = ⊎_elim
    (λ (lt : c < length lists).
    get_or-map reverse lists c [] [] lt
    ∙ ap reverse (filled c ∙ placed_whole (made_of c v ps) (seen_log h c) (log_at blanks c) (whole c) (sized c (omega (arith, lt, same))))
    ∙ reverse-reverse (seen_log h c))
    (λ (past : length lists ≤ c).
    get_or_past (map reverse lists) c [] (omega (arith, past, length-map lists reverse))
    ∙ sym (get_or_past h.seen c [] (omega (arith, past, long))))
    (cases_lt c (length lists))

-- what the logs say of each pass
logs_of_passes : (ports : ℕ) (os : List ClockState) (h : View) (logs : List SeatLog) (ps : List SeatValue) → ((c : ℕ) → log_at logs c ≡ seen_log h c) → AllByRecursion (IsTakenIn ports h) ps → AllByRecursion (λ (p : SeatValue). p.view.openings ≡ os) ps → AllByRecursion (AreLogsOfPass os logs) ps
logs_of_passes ports os h logs [] is each opened = tt
logs_of_passes ports os h logs (p ∷ ps) is each opened =
    let ends : (c : ℕ) → Extends (seen_log p.view c) (log_at logs c) = λ c. let g = each.0.own c in record { newer = g.newer; is = is c ∙ g.is } in (
      record {
        seen = ends;
        changes = λ c. subst (λ (l : SeatLog). AreEntriesOf c p.view.owner l (receipts_of c p.view.stories.story)) (sym (is c)) (pass_made c ports h p each.0);
        answers = subst (λ (o : List ClockState). StoryAgrees o (log_at logs) p.view.stories.story) opened.0 (agrees_more p.view.openings (seen_log p.view) (log_at logs) ends p.view.stories.story each.0.truth.agree);
      },
      logs_of_passes ports os h logs ps is each.1 opened.1,
    )

-- closing gives the whole logs
pub closed_logs : (rows clocks : ℕ) (os : List ClockState) (s : State LogEntry View) (k : LogsHold rows clocks os s) (id : ℕ) (v h : View) (ps : List SeatValue) (lists blanks : List (List LogEntry)) → get_elem? s.views id ≡ some h → h.owner ≡ Hub → length h.seen ≡ length os
    → AllTakenIn v ps h → length ps ≡ v.passes → AllByRecursion (λ (p : SeatValue). p.view.openings ≡ os) ps → length blanks ≡ length os → length lists ≡ length blanks
    → ((c : ℕ) → c < length blanks → length (log_at blanks c) ≡ most_of 0 (made_of c v ps)) → ((c : ℕ) → log_at lists c ≡ placed (made_of c v ps) (log_at blanks c)) → CloseYields rows os v ps (map reverse lists)
closed_logs rows clocks os s k id v h ps lists blanks at hub wide t count opened blank same sized filled =
    let all = every_pass rows clocks os s k id v h ps at hub t count in
    let seen = all_was_seen rows clocks os s k id h at hub (λ m lt. subst (IsAmong m) (sym t.joined) (among_first m (numbers ps) v.joined (all m lt))) in
    let whole : (c : ℕ) → IsWhole (made_of c v ps) (seen_log h c) = λ c. whole_seen v h ps hub t all c (subst (AreMadeBy c h.ports h.passes) (seen c) (k.makers id h at hub c)) in
    let is = list_is_log v h ps lists blanks (same ∙ blank ∙ sym wide) (sym same) whole sized filled in
    record {
      clocks = length-map lists reverse ∙ same ∙ blank;
      lawful = λ c. subst (IsSeatLog rows) (seen c ∙ sym (is c)) (k.lawful c);
      whole = λ c. subst (IsWhole (made_of c v ps)) (sym (is c)) (whole c);
      orders = λ c. subst (GrewByOthers c Hub (seen_log v c)) (sym (is c)) (subst (λ (o : Owner). GrewByOthers c o (seen_log v c) (seen_log h c)) (sym t.owner ∙ hub) (t.grew c));
      passes_are = All-from_recursion (AreLogsOfPass os (map reverse lists)) ps (logs_of_passes v.ports os h (map reverse lists) ps is t.each opened);
    }
