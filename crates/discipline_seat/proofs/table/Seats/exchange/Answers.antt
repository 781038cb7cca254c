use mathlib.Core.Option.{some}
use Rattle.atomic_table.specs.Table.{step as the_step}
use Rattle.std.proofs.Common.{◌≡◌, ◌≢◌, ℕ, suc, ◌+◌, ◌<◌, List, ◌∷◌, [], length, sym, ap, ◌∙◌, subst, arith, to_z, of_z, w64, add-one}
use Rattle.discipline_seat.specs.SeatValue.{SeatValue}
use Rattle.ptp_profile.specs.declared.seats.LogEntry.{LogEntry}
use Rattle.ptp_profile.specs.declared.seats.LogEntry.TheVariants.{Change}
use Rattle.discipline_seat.specs.declared.view.StoryItem.TheVariants.{GaveReceipt, WasSuperseded}
use Rattle.ptp_base.specs.Room.{Reserved}
use Rattle.discipline_seat.specs.SeatEntries.{KeepsReceipts}
use Rattle.discipline_seat.specs.declared.entries.Numbered.{Numbered}
use Rattle.discipline_seat.specs.declared.view.StoryView.{StoryView}
use Rattle.discipline_seat.specs.declared.view.View.{View}
use Rattle.std.proofs.lemmas.Int.{to_z-of_z}
use Rattle.ptp_base.specs.Floor.{IsWithin}
use Rattle.ptp_base.specs.declared.time.TheConstants.{FREQ_MAX, TIME_MAX}
use Rattle.model_clock.specs.Clock.{clock_at}
use Rattle.ptp_profile.specs.Roles.SeatLogs.{clock_after}
use Rattle.discipline_seat.specs.Rule.SeatView.{row_words, seen_log}
use Rattle.discipline_seat.specs.Rule.Story.{receipt_item as receipt, refusal_item as refusal, with_items as say}
use Rattle.discipline_seat.specs.Rule.SeatLog.{ctrl_after, gener_after, last_change, owner_named as named, packed_word as pack, word_after}
use Rattle.discipline_seat.specs.Rule.SeatStep.{LookFound}
use Rattle.discipline_seat.specs.SeatCalls.{LeavesOthers, EntryAdded, WasOvertaken}
use Rattle.discipline_seat.proofs.lemmas.StepLemmas.{adjusts}
use Rattle.discipline_seat.proofs.lemmas.StoryTruthLemmas.{truth_adjusted}
use Rattle.discipline_seat.proofs.lemmas.SeatEntryLemmas.{keeps_on, keeps_receipt}
use Rattle.discipline_seat.proofs.lemmas.CallLemmas.{adjusted_others, unpacks, later, more_gains, grown_tale, gains, overtakes, finds, adjusted_pass, more_told}
use Rattle.discipline_seat.proofs.table.Seats.exchange.Goals as goal

pub compare_exchange_with-found-requires : goal.compare_exchange_with-found-requires
compare_exchange_with-found-requires c =
    let table : c.pass.inside.seat.table_id ≡ c.args.self.now.table.shared.table_id = ap (λ (p : SeatValue). p.table) c.pass.view_is ∙ c.requires.table.table_is in
    let words : length c.pass.inside.seat.me.0.openings ≡ c.args.self.now.table.shared.key.clocks = ap (λ (p : SeatValue). length p.view.openings) c.pass.view_is ∙ ap length c.requires.table.openings_are ∙ c.args.self.now.counted in
    let near : c.from.result < c.args.self.now.table.shared.key.clocks = omega (arith, c.args.self.now.counted, c.requires.clock, c.from.ensures) in
    let step : to_z w64 (of_z w64 c.args.step) ≡ c.args.step = to_z-of_z w64 c.args.step c.ranges.step in
    let freq : to_z w64 (of_z w64 c.args.freq) ≡ c.args.freq = to_z-of_z w64 c.args.freq c.ranges.freq in
    let v : View = c.pass.inside.seat.me.0 in
    let l = seen_log c.args.pass.now.view c.args.held.clock in
    let is : seen_log v c.from.result ≡ l = λ i. seen_log (c.pass.view_is i).view (c.from.ensures i) in
    let x = c.requires.word in
    let k : c.args.held.ctrl ≡ ctrl_after (seen_log v c.from.result) = sym c.requires.ctrl ∙ x.ctrl ∙ ap ctrl_after (sym is) in
    let g : c.args.held.gener ≡ gener_after (seen_log v c.from.result) = sym c.requires.gener ∙ x.gener ∙ ap gener_after (sym is) in
    let n : c.args.at.number ≡ length (seen_log v c.from.result) = x.number ∙ ap length (sym is) in
    let r : c.args.at.row ≡ last_change (seen_log v c.from.result) = x.row ∙ ap last_change (sym is) in (
      table,
      omega (arith, c.args.self.now.sized),
      adjusts _ _ _ _ _ c.pass.inside.seat.me c.from.result c.pack-old.result c.pack.result c.args.held.gener c.args.held.ctrl c.args.tick _ _ (omega (arith, c.pass.invariant.1)) near
          (c.pack-old.ensures ∙ (λ i. pack ((c.requires.gener ∙ g) i) ((c.requires.ctrl ∙ k) i) (n i) (r i)))
          (c.pack.ensures ∙ (λ i. pack ((c.requires.gener ∙ g) i) ((c.requires.ctrl ∙ k) i) ((add-one c.args.at.number ∙ ap suc n) i) ((add-one c.args.at.number ∙ ap suc n) i)))
          (g, k, c.requires.somebody, omega (arith, c.requires.room, c.args.self.now.rows_are), c.requires.tick, subst (IsWithin TIME_MAX) (sym step) c.requires.step, subst (IsWithin FREQ_MAX) (sym freq) c.requires.freq)
          (ap (λ (m : ℕ). Rattle.discipline_seat.specs.Rule.SeatLog.owner_named m c.args.held.ctrl) c.from.ensures ∙ c.requires.named ∙ ap (λ (p : SeatValue). p.view.owner) (sym c.pass.view_is))
          c.pass.invariant.2
          (ap (λ (p : SeatValue). p.view.draft_clock) c.pass.view_is ∙ c.requires.looked ∙ sym c.from.ensures)
          (ap (λ (p : SeatValue). p.view.draft) c.pass.view_is ∙ c.requires.row ∙ (λ i. row_words (clock_after (clock_at (sym c.args.self.now.openings_are i) (sym c.from.ensures i)) (Change c.args.held.gener c.args.held.ctrl c.args.tick (sym step i) (sym freq i) ∷ sym is i)))),
    )

pub returns-then-found-old-clause-told : goal.returns-then-found-old-clause-told
returns-then-found-old-clause-told c =
    let table : c.pass.inside.seat.table_id ≡ c.args.self.now.table.shared.table_id = ap (λ (p : SeatValue). p.table) c.pass.view_is ∙ c.requires.table.table_is in
    let words : length c.pass.inside.seat.me.0.openings ≡ c.args.self.now.table.shared.key.clocks = ap (λ (p : SeatValue). length p.view.openings) c.pass.view_is ∙ ap length c.requires.table.openings_are ∙ c.args.self.now.counted in
    let v : View = c.pass.inside.seat.me.0 in
    let u : View = c.compare_exchange_with-found.new.seat.me.0 in
    let wide : c.from.result < length v.seen = omega (arith, c.args.self.now.counted, c.requires.clock, c.from.ensures, c.pass.invariant.1) in
    let is : seen_log v c.from.result ≡ seen_log c.args.pass.now.view c.args.held.clock = λ i. seen_log (c.pass.view_is i).view (c.from.ensures i) in
    let x = c.requires.word in
    let k : c.args.held.ctrl ≡ ctrl_after (seen_log v c.from.result) = sym c.requires.ctrl ∙ x.ctrl ∙ ap ctrl_after (sym is) in
    let g : c.args.held.gener ≡ gener_after (seen_log v c.from.result) = sym c.requires.gener ∙ x.gener ∙ ap gener_after (sym is) in
    let n : c.args.at.number ≡ length (seen_log v c.from.result) = x.number ∙ ap length (sym is) in
    let r : c.args.at.row ≡ last_change (seen_log v c.from.result) = x.row ∙ ap last_change (sym is) in
    let old : c.pack-old.result ≡ word_after (seen_log v c.from.result) = c.pack-old.ensures ∙ (λ i. pack ((c.requires.gener ∙ g) i) ((c.requires.ctrl ∙ k) i) (n i) (r i)) in
    let step : to_z w64 (of_z w64 c.args.step) ≡ c.args.step = to_z-of_z w64 c.args.step c.ranges.step in
    let freq : to_z w64 (of_z w64 c.args.freq) ≡ c.args.freq = to_z-of_z w64 c.args.freq c.ranges.freq in
    let a = c.compare_exchange_with-found.ensures.2.1 c.if-found-old.true in
    let e : LogEntry = Change c.args.held.gener c.args.held.ctrl c.args.tick (to_z w64 (of_z w64 c.args.step)) (to_z w64 (of_z w64 c.args.freq)) in
    let won = subst (λ (y : View). EntryAdded v c.from.result e (suc (length (seen_log v c.from.result))) y) (sym a.2) (more_gains v a.0 c.from.result e _ (receipt c.from.result (some e) (suc (length (seen_log v c.from.result)))) (gains v a.0 c.from.result e wide a.1)) in
    subst (λ (q : View × ℕ × LogEntry × ℕ). EntryAdded q.0 q.1 q.2 q.3 u) (λ i. ((c.pass.view_is i).view, c.from.ensures i, Change c.args.held.gener c.args.held.ctrl c.args.tick (step i) (freq i), (sym (add-one c.args.at.number ∙ ap suc n)) i)) won

pub returns-else-found-old-clause-told : goal.returns-else-found-old-clause-told
returns-else-found-old-clause-told c =
    let table : c.pass.inside.seat.table_id ≡ c.args.self.now.table.shared.table_id = ap (λ (p : SeatValue). p.table) c.pass.view_is ∙ c.requires.table.table_is in
    let words : length c.pass.inside.seat.me.0.openings ≡ c.args.self.now.table.shared.key.clocks = ap (λ (p : SeatValue). length p.view.openings) c.pass.view_is ∙ ap length c.requires.table.openings_are ∙ c.args.self.now.counted in
    let v : View = c.pass.inside.seat.me.0 in
    let u : View = c.compare_exchange_with-found.new.seat.me.0 in
    let wide : c.from.result < length v.seen = omega (arith, c.args.self.now.counted, c.requires.clock, c.from.ensures, c.pass.invariant.1) in
    let is : seen_log v c.from.result ≡ seen_log c.args.pass.now.view c.args.held.clock = λ i. seen_log (c.pass.view_is i).view (c.from.ensures i) in
    let x = c.requires.word in
    let k : c.args.held.ctrl ≡ ctrl_after (seen_log v c.from.result) = sym c.requires.ctrl ∙ x.ctrl ∙ ap ctrl_after (sym is) in
    let g : c.args.held.gener ≡ gener_after (seen_log v c.from.result) = sym c.requires.gener ∙ x.gener ∙ ap gener_after (sym is) in
    let n : c.args.at.number ≡ length (seen_log v c.from.result) = x.number ∙ ap length (sym is) in
    let r : c.args.at.row ≡ last_change (seen_log v c.from.result) = x.row ∙ ap last_change (sym is) in
    let old : c.pack-old.result ≡ word_after (seen_log v c.from.result) = c.pack-old.ensures ∙ (λ i. pack ((c.requires.gener ∙ g) i) ((c.requires.ctrl ∙ k) i) (n i) (r i)) in
    let a = c.compare_exchange_with-found.ensures.2.2 c.if-found-old.false in
    let e : LogEntry = Change c.args.held.gener c.args.held.ctrl c.args.tick (to_z w64 (of_z w64 c.args.step)) (to_z w64 (of_z w64 c.args.freq)) in
    let lost = subst (λ (y : View). WasOvertaken v c.from.result (gener_after (seen_log v c.from.result)) c.unpack.result y) (sym a.2) (more_told v a.0 c.from.result (gener_after (seen_log v c.from.result)) c.unpack.result (refusal c.from.result (some e) (seen_log a.0 c.from.result)) (overtakes v a.0 c.from.result c.compare_exchange_with-found.result c.args.held.ctrl c.unpack.result wide a.1 (unpacks _ _ c.unpack.ensures.only) (λ e. c.if-found-old.false (e ∙ sym old)) (sym k)
    (ap (λ (m : ℕ). named m c.args.held.ctrl) c.from.ensures ∙ c.requires.named ∙ ap (λ (p : SeatValue). p.view.owner) (sym c.pass.view_is)) c.requires.somebody)) in
    subst (λ (q : View × ℕ × ℕ). WasOvertaken q.0 q.1 q.2 c.unpack.result u) (λ i. ((c.pass.view_is i).view, c.from.ensures i, sym g i)) lost

pub returns-then-found-old-clause-story : goal.returns-then-found-old-clause-story
returns-then-found-old-clause-story c =
    let v : View = c.pass.inside.seat.me.0 in
    let u : View = c.compare_exchange_with-found.new.seat.me.0 in
    let is : seen_log v c.from.result ≡ seen_log c.args.pass.now.view c.args.held.clock = λ i. seen_log (c.pass.view_is i).view (c.from.ensures i) in
    let n : c.args.at.number ≡ length (seen_log v c.from.result) = c.requires.word.number ∙ ap length (sym is) in
    let step : to_z w64 (of_z w64 c.args.step) ≡ c.args.step = to_z-of_z w64 c.args.step c.ranges.step in
    let freq : to_z w64 (of_z w64 c.args.freq) ≡ c.args.freq = to_z-of_z w64 c.args.freq c.ranges.freq in
    let a = c.compare_exchange_with-found.ensures.2.1 c.if-found-old.true in
    let e : LogEntry = Change c.args.held.gener c.args.held.ctrl c.args.tick (to_z w64 (of_z w64 c.args.step)) (to_z w64 (of_z w64 c.args.freq)) in
    let t = grown_tale v a.0 u c.from.result (a.1.entry ∷ seen_log v c.from.result) (receipt c.from.result (some e) (suc (length (seen_log v c.from.result)))) a.1.after a.2 in
    t ∙ (λ i. say (GaveReceipt (c.from.ensures i) c.args.held.gener c.args.held.ctrl c.args.tick (step i) (freq i) ((sym (add-one c.args.at.number ∙ ap suc n)) i) ∷ []) (c.pass.view_is i).view.stories)

pub returns-else-found-old-clause-story : goal.returns-else-found-old-clause-story
returns-else-found-old-clause-story c =
    let v : View = c.pass.inside.seat.me.0 in
    let u : View = c.compare_exchange_with-found.new.seat.me.0 in
    let is : seen_log v c.from.result ≡ seen_log c.args.pass.now.view c.args.held.clock = λ i. seen_log (c.pass.view_is i).view (c.from.ensures i) in
    let n : c.args.at.number ≡ length (seen_log v c.from.result) = c.requires.word.number ∙ ap length (sym is) in
    let step : to_z w64 (of_z w64 c.args.step) ≡ c.args.step = to_z-of_z w64 c.args.step c.ranges.step in
    let freq : to_z w64 (of_z w64 c.args.freq) ≡ c.args.freq = to_z-of_z w64 c.args.freq c.ranges.freq in
    let a = c.compare_exchange_with-found.ensures.2.2 c.if-found-old.false in
    let f = finds v a.0 c.from.result _ c.unpack.result (omega (arith, c.args.self.now.counted, c.requires.clock, c.from.ensures, c.pass.invariant.1, ap (λ (p : SeatValue). length p.view.openings) c.pass.view_is ∙ ap length c.requires.table.openings_are ∙ c.args.self.now.counted)) a.1 (unpacks _ _ c.unpack.ensures.only) in
    let e : LogEntry = Change c.args.held.gener c.args.held.ctrl c.args.tick (to_z w64 (of_z w64 c.args.step)) (to_z w64 (of_z w64 c.args.freq)) in
    let t = grown_tale v a.0 u c.from.result a.1.log (refusal c.from.result (some e) (seen_log a.0 c.from.result)) a.1.is a.2 in
    t ∙ (λ i. say (WasSuperseded (c.from.ensures i) c.args.held.gener c.args.held.ctrl c.args.tick (step i) (freq i) (sym f.word.gener i) (sym f.word.number i) ∷ []) (c.pass.view_is i).view.stories)

pub returns-then-found-old-clause-same : goal.returns-then-found-old-clause-same
returns-then-found-old-clause-same c =
    let v : View = c.pass.inside.seat.me.0 in
    let u : View = c.compare_exchange_with-found.new.seat.me.0 in
    let e : LogEntry = Change c.args.held.gener c.args.held.ctrl c.args.tick (to_z w64 (of_z w64 c.args.step)) (to_z w64 (of_z w64 c.args.freq)) in
    let others = adjusted_others (the_step 0 c.from.result c.pack-old.result 0 (some e)) c.pass.inside.seat.me c.compare_exchange_with-found.new.seat.me _ c.compare_exchange_with-found.ensures.2 in
    subst (λ (q : SeatValue × ℕ). LeavesOthers q.0.view q.1 u) (λ i. (c.pass.view_is i, c.from.ensures i)) others

pub returns-else-found-old-clause-same : goal.returns-else-found-old-clause-same
returns-else-found-old-clause-same c =
    let v : View = c.pass.inside.seat.me.0 in
    let u : View = c.compare_exchange_with-found.new.seat.me.0 in
    let e : LogEntry = Change c.args.held.gener c.args.held.ctrl c.args.tick (to_z w64 (of_z w64 c.args.step)) (to_z w64 (of_z w64 c.args.freq)) in
    let others = adjusted_others (the_step 0 c.from.result c.pack-old.result 0 (some e)) c.pass.inside.seat.me c.compare_exchange_with-found.new.seat.me _ c.compare_exchange_with-found.ensures.2 in
    subst (λ (q : SeatValue × ℕ). LeavesOthers q.0.view q.1 u) (λ i. (c.pass.view_is i, c.from.ensures i)) others

pub invariant_of-pass : goal.invariant_of-pass
invariant_of-pass c =
    let i = c.pass.invariant in
    let l = c.compare_exchange_with-found.ensures in
    let e : LogEntry = Change c.args.held.gener c.args.held.ctrl c.args.tick (to_z w64 (of_z w64 c.args.step)) (to_z w64 (of_z w64 c.args.freq)) in
    let after = adjusted_pass (the_step 0 c.from.result c.pack-old.result 0 (some e)) c.pass.inside.seat.me c.compare_exchange_with-found.new.seat.me _ l.2 i.1 i.2 i.3 in
    let table : c.pass.inside.seat.table_id ≡ c.args.self.now.table.shared.table_id = ap (λ (p : SeatValue). p.table) c.pass.view_is ∙ c.requires.table.table_is in
    let words : length c.pass.inside.seat.me.0.openings ≡ c.args.self.now.table.shared.key.clocks = ap (λ (p : SeatValue). length p.view.openings) c.pass.view_is ∙ ap length c.requires.table.openings_are ∙ c.args.self.now.counted in
    let v : View = c.pass.inside.seat.me.0 in
    let is : seen_log v c.from.result ≡ seen_log c.args.pass.now.view c.args.held.clock = λ i. seen_log (c.pass.view_is i).view (c.from.ensures i) in
    let x = c.requires.word in
    let k : c.args.held.ctrl ≡ ctrl_after (seen_log v c.from.result) = sym c.requires.ctrl ∙ x.ctrl ∙ ap ctrl_after (sym is) in
    let g : c.args.held.gener ≡ gener_after (seen_log v c.from.result) = sym c.requires.gener ∙ x.gener ∙ ap gener_after (sym is) in
    let n : c.args.at.number ≡ length (seen_log v c.from.result) = x.number ∙ ap length (sym is) in
    let r : c.args.at.row ≡ last_change (seen_log v c.from.result) = x.row ∙ ap last_change (sym is) in
    let old : c.pack-old.result ≡ word_after (seen_log v c.from.result) = c.pack-old.ensures ∙ (λ i. pack ((c.requires.gener ∙ g) i) ((c.requires.ctrl ∙ k) i) (n i) (r i)) in
    let mine = ap (λ (m : ℕ). named m c.args.held.ctrl) c.from.ensures ∙ c.requires.named ∙ ap (λ (p : SeatValue). p.view.owner) (sym c.pass.view_is) in
    let wide : c.from.result < length v.seen = omega (arith, c.args.self.now.counted, c.requires.clock, c.from.ensures, i.1) in
    let lost : (w : View) → LookFound c.from.result v c.compare_exchange_with-found.result w → c.compare_exchange_with-found.result ≢ c.pack-old.result → c.args.held.gener < gener_after (seen_log w c.from.result)
    = λ w told miss. later v w c.from.result c.compare_exchange_with-found.result c.args.held.gener c.args.held.ctrl wide told (λ e. miss (e ∙ sym old)) (sym g) (sym k) mine c.requires.somebody in (
      l.2.0 ∙ i.0,
      after.0,
      after.1,
      after.2,
      truth_adjusted c.pass.inside.seat.me c.compare_exchange_with-found.new.seat.me c.from.result c.pack-old.result 0 c.args.held.gener c.args.held.ctrl c.args.tick _ _ _ l.2 (omega (arith, c.args.self.now.counted, c.requires.clock, c.from.ensures, i.1)) (ap (λ (m : ℕ). named m c.args.held.ctrl) c.from.ensures ∙ c.requires.named ∙ ap (λ (p : SeatValue). p.view.owner) (sym c.pass.view_is)) lost i.4,
      (let a = l.2.1 c.if-found-old.true in
          let t = grown_tale v a.0 c.compare_exchange_with-found.new.seat.me.0 c.from.result (a.1.entry ∷ seen_log v c.from.result) (receipt c.from.result (some e) (suc (length (seen_log v c.from.result)))) a.1.after a.2 in
          let story = ap (λ (t : StoryView). t.story) t ∙ (λ j. GaveReceipt (c.from.ensures j) c.args.held.gener c.args.held.ctrl c.args.tick (to_z w64 (of_z w64 c.args.step)) (to_z w64 (of_z w64 c.args.freq)) (sym (add-one c.args.at.number ∙ ap suc n) j) ∷ v.stories.story) in
          subst (λ (es : List Numbered). KeepsReceipts es c.compare_exchange_with-found.new.seat.me.0) (sym (ap (λ (r : Reserved Numbered). r.items) c.push.ensures)) (keeps_receipt c.pass.inside.entries.items v c.compare_exchange_with-found.new.seat.me.0 c.args.held.clock (c.args.at.number + 1) c.args.held.gener c.args.held.ctrl c.args.tick (to_z w64 (of_z w64 c.args.step)) (to_z w64 (of_z w64 c.args.freq)) story i.5)),
    )

pub invariant_of-pass-else-found-old : goal.invariant_of-pass-else-found-old
invariant_of-pass-else-found-old c =
    let i = c.pass.invariant in
    let l = c.compare_exchange_with-found.ensures in
    let e : LogEntry = Change c.args.held.gener c.args.held.ctrl c.args.tick (to_z w64 (of_z w64 c.args.step)) (to_z w64 (of_z w64 c.args.freq)) in
    let after = adjusted_pass (the_step 0 c.from.result c.pack-old.result 0 (some e)) c.pass.inside.seat.me c.compare_exchange_with-found.new.seat.me _ l.2 i.1 i.2 i.3 in
    let table : c.pass.inside.seat.table_id ≡ c.args.self.now.table.shared.table_id = ap (λ (p : SeatValue). p.table) c.pass.view_is ∙ c.requires.table.table_is in
    let words : length c.pass.inside.seat.me.0.openings ≡ c.args.self.now.table.shared.key.clocks = ap (λ (p : SeatValue). length p.view.openings) c.pass.view_is ∙ ap length c.requires.table.openings_are ∙ c.args.self.now.counted in
    let v : View = c.pass.inside.seat.me.0 in
    let is : seen_log v c.from.result ≡ seen_log c.args.pass.now.view c.args.held.clock = λ i. seen_log (c.pass.view_is i).view (c.from.ensures i) in
    let x = c.requires.word in
    let k : c.args.held.ctrl ≡ ctrl_after (seen_log v c.from.result) = sym c.requires.ctrl ∙ x.ctrl ∙ ap ctrl_after (sym is) in
    let g : c.args.held.gener ≡ gener_after (seen_log v c.from.result) = sym c.requires.gener ∙ x.gener ∙ ap gener_after (sym is) in
    let n : c.args.at.number ≡ length (seen_log v c.from.result) = x.number ∙ ap length (sym is) in
    let r : c.args.at.row ≡ last_change (seen_log v c.from.result) = x.row ∙ ap last_change (sym is) in
    let old : c.pack-old.result ≡ word_after (seen_log v c.from.result) = c.pack-old.ensures ∙ (λ i. pack ((c.requires.gener ∙ g) i) ((c.requires.ctrl ∙ k) i) (n i) (r i)) in
    let mine = ap (λ (m : ℕ). named m c.args.held.ctrl) c.from.ensures ∙ c.requires.named ∙ ap (λ (p : SeatValue). p.view.owner) (sym c.pass.view_is) in
    let wide : c.from.result < length v.seen = omega (arith, c.args.self.now.counted, c.requires.clock, c.from.ensures, i.1) in
    let lost : (w : View) → LookFound c.from.result v c.compare_exchange_with-found.result w → c.compare_exchange_with-found.result ≢ c.pack-old.result → c.args.held.gener < gener_after (seen_log w c.from.result)
    = λ w told miss. later v w c.from.result c.compare_exchange_with-found.result c.args.held.gener c.args.held.ctrl wide told (λ e. miss (e ∙ sym old)) (sym g) (sym k) mine c.requires.somebody in (
      l.2.0 ∙ i.0,
      after.0,
      after.1,
      after.2,
      truth_adjusted c.pass.inside.seat.me c.compare_exchange_with-found.new.seat.me c.from.result c.pack-old.result 0 c.args.held.gener c.args.held.ctrl c.args.tick _ _ _ l.2 (omega (arith, c.args.self.now.counted, c.requires.clock, c.from.ensures, i.1)) (ap (λ (m : ℕ). named m c.args.held.ctrl) c.from.ensures ∙ c.requires.named ∙ ap (λ (p : SeatValue). p.view.owner) (sym c.pass.view_is)) lost i.4,
      (let a = l.2.2 c.if-found-old.false in
          let t = grown_tale v a.0 c.compare_exchange_with-found.new.seat.me.0 c.from.result a.1.log (refusal c.from.result (some e) (seen_log a.0 c.from.result)) a.1.is a.2 in
          keeps_on c.pass.inside.entries.items v c.compare_exchange_with-found.new.seat.me.0 (refusal c.from.result (some e) (seen_log a.0 c.from.result)) (tt, tt) (ap (λ (t : StoryView). t.story) t) i.5),
    )
