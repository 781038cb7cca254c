use Rattle.std.proofs.Common.{◌≡◌, ℕ, suc, ◌+◌, ◌*◌, ◌-◌, ◌<◌, ◌≤◌, List, ◌∷◌, ◌++◌, [], length, set, get_or, refl, sym, ap, ◌∙◌, subst, arith, get_or-set_same, get_or-set_other, length-set, add-one, slice_index}
use native.Mathlib.Decide.{ℕ_discrete}
use mathlib.Core.Logic.{dite}
use Rattle.discipline_seat.specs.SeatValue.{SeatValue}
use Rattle.ptp_profile.specs.declared.seats.LogEntry.TheVariants.{Order}
use Rattle.discipline_seat.specs.declared.view.View.{View}
use Rattle.discipline_seat.specs.Rule.SeatLog.{HasNoCircle, MayComeNext, SeatLog, ctrl_after, stamp_number}
use Rattle.discipline_seat.specs.Rule.SeatView.{after_look as saw, seen_log}
use Rattle.discipline_seat.specs.SeatCalls.{LeavesOthers, EntryAdded}
use Rattle.discipline_seat.proofs.lemmas.RuleLemmas.{put, at_put, seen_here, seen_else}
use Rattle.discipline_seat.proofs.lemmas.StepLemmas.{appoints, same_forest}
use Rattle.ptp_base.specs.Room.{Reserved}
use Rattle.discipline_seat.specs.declared.entries.Numbered.{Numbered}
use Rattle.discipline_seat.specs.SeatEntries.{KeepsOrders}
use Rattle.discipline_seat.proofs.lemmas.SeatEntryLemmas.{keeps_order}
use Rattle.discipline_seat.proofs.lemmas.CallLemmas.{saw_leaves, unpacks, makes}
use Rattle.discipline_seat.proofs.table.Seats.appoint.Goals as goal

-- the stamp never falls
rises : (rows : ℕ) (l : SeatLog) (g k : ℕ) → MayComeNext rows l (Order g k) → ctrl_after l < 256 → stamp_number l ≤ g * 256 + k
rises rows l g k f b = dite (ℕ_discrete (ctrl_after l) 0) (λ z. let le = f.0 in omega arith) (λ busy. let lt = f.1 busy in omega arith)

-- what the look at the last stamp told
old_is : (stamps : _) (v : View) (clock c old n : ℕ) → ((d : ℕ) → d < length stamps → (slice_index stamps d ≡ stamp_number (seen_log v d)) × (ctrl_after (seen_log v d) < 256)) → clock < n → length stamps ≡ n → c ≡ clock → old ≡ get_or stamps c old
    → (old ≡ stamp_number (seen_log v clock)) × (ctrl_after (seen_log v clock) < 256)
old_is stamps v clock c old n each h long is at =
    let inside : c < length stamps = omega arith in
    let e = each c inside in
    subst (λ (d : ℕ). (old ≡ stamp_number (seen_log v d)) × (ctrl_after (seen_log v d) < 256)) is (at ∙ get_or_any stamps c old 0 inside ∙ e.0, e.1)
  where
    get_or_any : (l : _) (c a b : ℕ) → c < length l → get_or l c a ≡ get_or l c b
    get_or_any [] c a b h = absurd (omega arith)
    get_or_any (x ∷ xs) ℕ.zero a b h = refl
    get_or_any (x ∷ xs) (suc c) a b h = get_or_any xs c a b (omega arith)

seen_put : (v : View) (c : ℕ) (l : SeatLog) (d : ℕ) → c < length v.seen → seen_log (saw v c l) d ≡ put (seen_log v) c l d
seen_put v c l d wide = at_put (seen_log v) c l (λ x m. x ≡ d → seen_log (saw v c l) d ≡ m) d (λ e. ap (seen_log (saw v c l)) (sym e) ∙ seen_here v c l wide) (λ n _. seen_else v c l d n) refl

pub overflow_sub-step : goal.overflow_sub-step
overflow_sub-step c =
    let i = c.hub.invariant in
    let table : c.hub.inside.seat.table_id ≡ c.args.self.now.table.shared.table_id = ap (λ (p : SeatValue). p.table) c.hub.view_is ∙ c.requires.table.table_is in
    let words : length c.hub.inside.seat.me.0.openings ≡ c.args.self.now.table.shared.key.clocks = ap (λ (p : SeatValue). length p.view.openings) c.hub.view_is ∙ ap length c.requires.table.openings_are ∙ c.args.self.now.counted in
    let old = old_is c.hub.inside.stamps.items c.hub.inside.seat.me.0 c.args.clock c.from.result c.index-old.result.now c.args.self.now.table.shared.key.clocks i.4 (omega (arith, c.args.self.now.counted, c.requires.clock)) (i.3 ∙ words) c.from.ensures c.index-old.ensures in
    let v = ap (λ (p : SeatValue). p.view) c.hub.view_is in
    let f = subst (λ (u : View). MayComeNext c.args.self.now.rows (seen_log u c.args.clock) (Order c.args.gener c.args.ctrl)) (sym v) c.requires.follows in
    omega (arith, rises c.args.self.now.rows (seen_log c.hub.inside.seat.me.0 c.args.clock) c.args.gener c.args.ctrl f old.1, old.0, c.from-2.ensures, c.from-3.ensures)

-- the sum
sum_is : (rows g k g' k' old : ℕ) (l : SeatLog) → g' ≡ g → k' ≡ k → MayComeNext rows l (Order g k) → ctrl_after l < 256 → old ≡ stamp_number l → (g' * 256 + k' - old) * 274877906944 + 524288 + stamp_number l * 274877906944 ≡ (g * 256 + k) * 274877906944 + 524288
sum_is rows g k g' k' old l a b f few is = let r = rises rows l g k f few in omega arith

pub fetch_add-found-requires : goal.fetch_add-found-requires
fetch_add-found-requires c =
    let i = c.hub.invariant in
    let table : c.hub.inside.seat.table_id ≡ c.args.self.now.table.shared.table_id = ap (λ (p : SeatValue). p.table) c.hub.view_is ∙ c.requires.table.table_is in
    let words : length c.hub.inside.seat.me.0.openings ≡ c.args.self.now.table.shared.key.clocks = ap (λ (p : SeatValue). length p.view.openings) c.hub.view_is ∙ ap length c.requires.table.openings_are ∙ c.args.self.now.counted in
    let u : View = c.hub.inside.seat.me.0 in
    let old = old_is c.hub.inside.stamps.items u c.from-4.result c.from.result c.index-old.result.now c.args.self.now.table.shared.key.clocks i.4 (omega (arith, c.args.self.now.counted, c.requires.clock, c.from-4.ensures)) (i.3 ∙ words) (c.from.ensures ∙ sym c.from-4.ensures) c.index-old.ensures in
    let v = ap (λ (p : SeatValue). p.view) c.hub.view_is in
    let e = c.from-4.ensures in
    let wide : c.from-4.result < length u.seen = omega (arith, c.args.self.now.counted, c.requires.clock, e, i.1) in
    let new = Order c.args.gener c.args.ctrl in
    let f = subst (λ (q : View × ℕ). MayComeNext c.args.self.now.rows (seen_log q.0 q.1) new) (λ j. (sym v j, sym e j)) c.requires.follows in
    let rows = c.args.self.now.rows_are in
    let forest : HasNoCircle (λ d. ctrl_after (seen_log (saw u c.from-4.result (new ∷ seen_log u c.from-4.result)) d))
    = subst (λ (q : View × ℕ). HasNoCircle (λ d. ctrl_after (seen_log (saw q.0 q.1 (new ∷ seen_log q.0 q.1)) d))) (λ j. (sym v j, sym e j)) c.requires.forest in (
      table,
      omega (arith, c.args.self.now.counted, c.args.self.now.sized, c.requires.clock, e),
      appoints _ _ _ _ _ c.hub.inside.seat.me c.from-4.result _ c.args.gener c.args.ctrl wide (omega (arith, c.args.self.now.counted, c.requires.clock, e)) i.2
          (sum_is c.args.self.now.rows c.args.gener c.args.ctrl c.from-2.result c.from-3.result c.index-old.result.now (seen_log u c.from-4.result) c.from-2.ensures c.from-3.ensures f old.1 old.0)
          (subst (λ (r : ℕ). MayComeNext r (seen_log u c.from-4.result) new) rows f)
          (same_forest (λ d. ctrl_after (seen_log (saw u c.from-4.result (new ∷ seen_log u c.from-4.result)) d)) (λ d. ctrl_after (put (seen_log u) c.from-4.result (new ∷ seen_log u c.from-4.result) d)) (λ d. ap ctrl_after (seen_put u c.from-4.result (new ∷ seen_log u c.from-4.result) d wide)) forest),
    )

-- the last stamps, after the order
stamps_kept : (stamps : _) (v w : View) (c c5 d g k new : ℕ) (log : SeatLog) → ((d : ℕ) → d < length stamps → (slice_index stamps d ≡ stamp_number (seen_log v d)) × (ctrl_after (seen_log v d) < 256)) → w ≡ saw v c (Order g k ∷ log) → c < length v.seen → c < length stamps → c5 ≡ c → new ≡ g * 256 + k → k < 256
    → d < length (set stamps c5 new) → (slice_index (set stamps c5 new) d ≡ stamp_number (seen_log w d)) × (ctrl_after (seen_log w d) < 256)
stamps_kept stamps v w c c5 d g k new log each is wide inside same value few h =
    subst (λ (q : View × ℕ). (slice_index (set stamps q.1 new) d ≡ stamp_number (seen_log q.0 d)) × (ctrl_after (seen_log q.0 d) < 256)) (λ i. (sym is i, sym same i))
    (dite (ℕ_discrete d c)
    (λ e. subst (λ (x : ℕ). (slice_index (set stamps c new) x ≡ stamp_number (seen_log (saw v c l) x)) × (ctrl_after (seen_log (saw v c l) x) < 256)) (sym e)
    (get_or-set_same stamps c new 0 inside ∙ value ∙ ap stamp_number (sym (seen_here v c l wide)), subst (λ (m : SeatLog). ctrl_after m < 256) (sym (seen_here v c l wide)) few))
    (λ n. let old = each d (subst (λ (x : ℕ). d < x) (length-set stamps c5 new) h) in (get_or-set_other stamps c d new 0 n ∙ old.0 ∙ ap stamp_number (sym (seen_else v c l d n)), subst (λ (m : SeatLog). ctrl_after m < 256) (sym (seen_else v c l d n)) old.1)))
  where
    l : SeatLog
    l = Order g k ∷ log

pub invariant_of-hub : goal.invariant_of-hub
invariant_of-hub c =
    let i = c.hub.invariant in
    let a = c.fetch_add-found.ensures in
    let table : c.hub.inside.seat.table_id ≡ c.args.self.now.table.shared.table_id = ap (λ (p : SeatValue). p.table) c.hub.view_is ∙ c.requires.table.table_is in
    let words : length c.hub.inside.seat.me.0.openings ≡ c.args.self.now.table.shared.key.clocks = ap (λ (p : SeatValue). length p.view.openings) c.hub.view_is ∙ ap length c.requires.table.openings_are ∙ c.args.self.now.counted in
    let u : View = c.hub.inside.seat.me.0 in
    let e = c.from-4.ensures in
    let old = old_is c.hub.inside.stamps.items u c.from-4.result c.from.result c.index-old.result.now c.args.self.now.table.shared.key.clocks i.4 (omega (arith, c.args.self.now.counted, c.requires.clock, e)) (i.3 ∙ words) (c.from.ensures ∙ sym e) c.index-old.ensures in
    let v = ap (λ (p : SeatValue). p.view) c.hub.view_is in
    let wide : c.from-4.result < length u.seen = omega (arith, c.args.self.now.counted, c.requires.clock, e, i.1) in
    let new = Order c.args.gener c.args.ctrl in
    let f = subst (λ (q : View × ℕ). MayComeNext c.args.self.now.rows (seen_log q.0 q.1) new) (λ j. (sym v j, sym e j)) c.requires.follows in
    let made = makes u c.fetch_add-found.new.seat.me.0 c.from-4.result c.fetch_add-found.result _ c.args.gener c.args.ctrl i.2 a.2.1
    (sum_is c.args.self.now.rows c.args.gener c.args.ctrl c.from-2.result c.from-3.result c.index-old.result.now (seen_log u c.from-4.result) c.from-2.ensures c.from-3.ensures f old.1 old.0) f.2 f.3 in
    let now_words : length u.openings ≡ length c.fetch_add-found.new.seat.me.0.openings = ap (λ (y : View). length y.openings) (sym made.is) in (
      a.2.0 ∙ i.0,
      ap (λ (y : View). length y.seen) made.is ∙ length-set u.seen c.from-4.result (new ∷ made.log) ∙ i.1 ∙ now_words,
      ap (λ (y : View). y.owner) made.is ∙ i.2,
      length-set c.hub.inside.stamps.items c.from-5.result (c.from-2.result * 256 + c.from-3.result) ∙ i.3 ∙ now_words,
      λ d h. stamps_kept c.hub.inside.stamps.items u c.fetch_add-found.new.seat.me.0 c.from-4.result c.from-5.result d c.args.gener c.args.ctrl (c.from-2.result * 256 + c.from-3.result) made.log i.4 made.is wide (omega (arith, i.3, i.1, wide)) (c.from-5.ensures ∙ sym e) (omega (arith, c.from-2.ensures, c.from-3.ensures)) f.3 h,
      subst (λ (es : List Numbered). KeepsOrders es c.fetch_add-found.new.seat.me.0) (sym (ap (λ (r : Reserved Numbered). r.items) c.push.ensures)) (subst (λ (n : ℕ). KeepsOrders (c.hub.inside.entries.items ++ record { clock = n; number = c.unpack-number.result.number + 1; entry = new } ∷ []) c.fetch_add-found.new.seat.me.0) e
          (keeps_order c.hub.inside.entries.items u c.fetch_add-found.new.seat.me.0 c.from-4.result (c.unpack-number.result.number + 1) c.args.gener c.args.ctrl made.log wide made.is i.2 made.grew (add-one c.unpack-number.result.number ∙ ap suc (made.number c.unpack-number.result (unpacks _ _ c.unpack-number.ensures.only))) i.5)),
    )

pub returns-clause-same : goal.returns-clause-same
returns-clause-same c =
    let i = c.hub.invariant in
    let a = c.fetch_add-found.ensures in
    let table : c.hub.inside.seat.table_id ≡ c.args.self.now.table.shared.table_id = ap (λ (p : SeatValue). p.table) c.hub.view_is ∙ c.requires.table.table_is in
    let words : length c.hub.inside.seat.me.0.openings ≡ c.args.self.now.table.shared.key.clocks = ap (λ (p : SeatValue). length p.view.openings) c.hub.view_is ∙ ap length c.requires.table.openings_are ∙ c.args.self.now.counted in
    let u : View = c.hub.inside.seat.me.0 in
    let w : View = c.fetch_add-found.new.seat.me.0 in
    let e = c.from-4.ensures in
    let old = old_is c.hub.inside.stamps.items u c.from-4.result c.from.result c.index-old.result.now c.args.self.now.table.shared.key.clocks i.4 (omega (arith, c.args.self.now.counted, c.requires.clock, e)) (i.3 ∙ words) (c.from.ensures ∙ sym e) c.index-old.ensures in
    let v = ap (λ (p : SeatValue). p.view) c.hub.view_is in
    let wide : c.from-4.result < length u.seen = omega (arith, c.args.self.now.counted, c.requires.clock, e, i.1) in
    let new = Order c.args.gener c.args.ctrl in
    let f = subst (λ (q : View × ℕ). MayComeNext c.args.self.now.rows (seen_log q.0 q.1) new) (λ j. (sym v j, sym e j)) c.requires.follows in
    let made = makes u w c.from-4.result c.fetch_add-found.result _ c.args.gener c.args.ctrl i.2 a.2.1
    (sum_is c.args.self.now.rows c.args.gener c.args.ctrl c.from-2.result c.from-3.result c.index-old.result.now (seen_log u c.from-4.result) c.from-2.ensures c.from-3.ensures f old.1 old.0) f.2 f.3 in
    subst (λ (q : View × ℕ). LeavesOthers q.0 q.1 w) (λ j. (v j, e j)) (saw_leaves u w c.from-4.result (new ∷ made.log) made.is)

pub returns-clause-made : goal.returns-clause-made
returns-clause-made c =
    let i = c.hub.invariant in
    let a = c.fetch_add-found.ensures in
    let table : c.hub.inside.seat.table_id ≡ c.args.self.now.table.shared.table_id = ap (λ (p : SeatValue). p.table) c.hub.view_is ∙ c.requires.table.table_is in
    let words : length c.hub.inside.seat.me.0.openings ≡ c.args.self.now.table.shared.key.clocks = ap (λ (p : SeatValue). length p.view.openings) c.hub.view_is ∙ ap length c.requires.table.openings_are ∙ c.args.self.now.counted in
    let u : View = c.hub.inside.seat.me.0 in
    let w : View = c.fetch_add-found.new.seat.me.0 in
    let e = c.from-4.ensures in
    let old = old_is c.hub.inside.stamps.items u c.from-4.result c.from.result c.index-old.result.now c.args.self.now.table.shared.key.clocks i.4 (omega (arith, c.args.self.now.counted, c.requires.clock, e)) (i.3 ∙ words) (c.from.ensures ∙ sym e) c.index-old.ensures in
    let v = ap (λ (p : SeatValue). p.view) c.hub.view_is in
    let wide : c.from-4.result < length u.seen = omega (arith, c.args.self.now.counted, c.requires.clock, e, i.1) in
    let new = Order c.args.gener c.args.ctrl in
    let f = subst (λ (q : View × ℕ). MayComeNext c.args.self.now.rows (seen_log q.0 q.1) new) (λ j. (sym v j, sym e j)) c.requires.follows in
    let made = makes u w c.from-4.result c.fetch_add-found.result _ c.args.gener c.args.ctrl i.2 a.2.1
    (sum_is c.args.self.now.rows c.args.gener c.args.ctrl c.from-2.result c.from-3.result c.index-old.result.now (seen_log u c.from-4.result) c.from-2.ensures c.from-3.ensures f old.1 old.0) f.2 f.3 in
    subst (λ (q : View × ℕ). EntryAdded q.0 q.1 new (c.unpack-number.result.number + 1) w) (λ j. (v j, e j)) record {
      log = made.log;
      is = ap (λ (y : View). seen_log y c.from-4.result) made.is ∙ seen_here u c.from-4.result (new ∷ made.log) wide;
      number = add-one c.unpack-number.result.number ∙ ap suc (made.number c.unpack-number.result (unpacks _ _ c.unpack-number.ensures.only));
      grew = made.grew;
    }

pub returns-clause-passes : goal.returns-clause-passes
returns-clause-passes c =
    let i = c.hub.invariant in
    let a = c.fetch_add-found.ensures in
    let table : c.hub.inside.seat.table_id ≡ c.args.self.now.table.shared.table_id = ap (λ (p : SeatValue). p.table) c.hub.view_is ∙ c.requires.table.table_is in
    let words : length c.hub.inside.seat.me.0.openings ≡ c.args.self.now.table.shared.key.clocks = ap (λ (p : SeatValue). length p.view.openings) c.hub.view_is ∙ ap length c.requires.table.openings_are ∙ c.args.self.now.counted in
    let u : View = c.hub.inside.seat.me.0 in
    let w : View = c.fetch_add-found.new.seat.me.0 in
    let e = c.from-4.ensures in
    let old = old_is c.hub.inside.stamps.items u c.from-4.result c.from.result c.index-old.result.now c.args.self.now.table.shared.key.clocks i.4 (omega (arith, c.args.self.now.counted, c.requires.clock, e)) (i.3 ∙ words) (c.from.ensures ∙ sym e) c.index-old.ensures in
    let v = ap (λ (p : SeatValue). p.view) c.hub.view_is in
    let wide : c.from-4.result < length u.seen = omega (arith, c.args.self.now.counted, c.requires.clock, e, i.1) in
    let new = Order c.args.gener c.args.ctrl in
    let f = subst (λ (q : View × ℕ). MayComeNext c.args.self.now.rows (seen_log q.0 q.1) new) (λ j. (sym v j, sym e j)) c.requires.follows in
    let made = makes u w c.from-4.result c.fetch_add-found.result _ c.args.gener c.args.ctrl i.2 a.2.1
    (sum_is c.args.self.now.rows c.args.gener c.args.ctrl c.from-2.result c.from-3.result c.index-old.result.now (seen_log u c.from-4.result) c.from-2.ensures c.from-3.ensures f old.1 old.0) f.2 f.3 in
    ap (λ (y : View). y.passes) made.is ∙ ap (λ (p : SeatValue). p.view.passes) c.hub.view_is
