use Rattle.std.proofs.Common.{refl, [], arith, ◌≡◌, ⊎_elim, ap, ◌∙◌, subst, to_z, of_z, w64, ◌∷◌}
use Rattle.std.proofs.lemmas.Int.{to_z-of_z}
use Rattle.ptp_profile.specs.declared.seats.LogEntry.{LogEntry}
use Rattle.ptp_profile.specs.declared.seats.LogEntry.TheVariants.{Change}
use Rattle.discipline_seat.specs.declared.view.Owner.{Owner}
use Rattle.discipline_seat.specs.declared.view.View.{View}
use Rattle.discipline_seat.specs.declared.view.StoryItem.TheVariants.{GaveReceipt, WasSuperseded}
use Rattle.discipline_seat.specs.SeatValue.{SeatValue}
use Rattle.discipline_seat.specs.SeatCalls.{LeavesOthers, EntryAdded, WasOvertaken}
use Rattle.discipline_seat.specs.Rule.Story.{Story, with_items as say}
use Rattle.discipline_seat.specs.Rule.SeatView.{seen_log, with_row}
use Rattle.discipline_seat.specs.Rule.SeatLog.{GrewByOthers}
use Rattle.discipline_seat.proofs.lemmas.StoryTruthLemmas.{asked_agrees}
use Rattle.discipline_seat.proofs.lemmas.CallLemmas.{look_leaves, leaves_row, leaves_on, nothing_said, ordered_in, newer_than, no_page_asked, passed, grew_on}
use Rattle.discipline_seat.proofs.table.Seats.adjust.Goals as goal

pub returns-then-at-held-clause-answer : goal.returns-then-at-held-clause-answer
returns-then-at-held-clause-answer c =
    let s = c.look-at.ensures.sees in
    (passed _ _ _ _ _ _ _ _ s (ordered_in _ _ _ c.requires.ordered) c.requires.somebody (λ both. ⊎_elim (λ a. a both.0) (λ b. b.1 both.1) c.then-at-held.either), s.word.gener, s.word.number, s.grew)

pub look-at-requires : goal.look-at-requires
look-at-requires c =
    let e : LogEntry = Change c.args.held.gener c.args.held.ctrl c.args.tick (to_z w64 (of_z w64 c.args.step)) (to_z w64 (of_z w64 c.args.freq)) in
    record {
      table = c.requires.table;
      clock = c.requires.clock;
      limit = refl;
      quiet = λ d l. no_page_asked c.args.self.now.rows e d l;
      truth = λ m r law ext. asked_agrees c.args.self.now.openings.items c.args.self.now.rows e m c.args.held.clock (newer_than r (seen_log c.args.pass.now.view c.args.held.clock) (m c.args.held.clock) c.args.held.gener c.args.held.ctrl ext law (ordered_in _ _ _ c.requires.ordered) c.requires.somebody);
    }

pub returns-in-Ok-clause-answer : goal.returns-in-Ok-clause-answer
returns-in-Ok-clause-answer c =
    let s = c.look-at.ensures.sees in
    let v : View = c.args.pass.now.view in
    let p : SeatValue = c.look-at.new.pass in
    let m : View = with_row p.view c.change-state.result in
    let before : c.prepare.new.pass ≡ record { table = p.table; view = m; spare = p.spare } = c.prepare.ensures.row ∙ (λ i. record { table = (c.state.ensures.same i).table; view = with_row (c.state.ensures.same i).view c.change-state.result; spare = (c.state.ensures.same i).spare }) in
    let owner = ap (λ (y : View). y.owner) s.is in
    let step : to_z w64 (of_z w64 c.args.step) ≡ c.args.step = to_z-of_z w64 c.args.step c.ranges.step in
    let freq : to_z w64 (of_z w64 c.args.freq) ≡ c.args.freq = to_z-of_z w64 c.args.freq c.ranges.freq in
    let e : LogEntry = Change c.args.held.gener c.args.held.ctrl c.args.tick (to_z w64 (of_z w64 c.args.step)) (to_z w64 (of_z w64 c.args.freq)) in
    let g = subst (λ (q : SeatValue). EntryAdded q.view c.args.held.clock e c.in-Ok.number c.exchange.new.pass.view) before c.in-Ok.ensures.told in
    record { log = g.log; is = g.is ∙ (λ i. Change c.args.held.gener c.args.held.ctrl c.args.tick (step i) (freq i) ∷ g.log); number = g.number; grew = grew_on _ _ _ _ _ s.grew (subst (λ (o : Owner). GrewByOthers c.args.held.clock o (seen_log m c.args.held.clock) g.log) owner g.grew) }

pub returns-in-Ok-clause-story : goal.returns-in-Ok-clause-story
returns-in-Ok-clause-story c =
    let s = c.look-at.ensures.sees in
    let v : View = c.args.pass.now.view in
    let p : SeatValue = c.look-at.new.pass in
    let m : View = with_row p.view c.change-state.result in
    let before : c.prepare.new.pass ≡ record { table = p.table; view = m; spare = p.spare } = c.prepare.ensures.row ∙ (λ i. record { table = (c.state.ensures.same i).table; view = with_row (c.state.ensures.same i).view c.change-state.result; spare = (c.state.ensures.same i).spare }) in
    let owner = ap (λ (y : View). y.owner) s.is in
    let step : to_z w64 (of_z w64 c.args.step) ≡ c.args.step = to_z-of_z w64 c.args.step c.ranges.step in
    let freq : to_z w64 (of_z w64 c.args.freq) ≡ c.args.freq = to_z-of_z w64 c.args.freq c.ranges.freq in
    let nothing = nothing_said c.args.self.now.rows c.args.held.clock c.args.held.gener c.args.held.ctrl c.args.tick (to_z w64 (of_z w64 c.args.step)) (to_z w64 (of_z w64 c.args.freq)) (seen_log p.view c.args.held.clock) c.look-at.result s.word (omega (arith, c.if-at-held.false)) (omega (arith, c.if-at-held-2.false)) (omega (arith, c.if-at-self.false)) in
    let tale : m.stories ≡ v.stories = ap (λ (y : View). y.stories) s.is ∙ ap (λ (xs : Story). say xs v.stories) nothing in
    c.in-Ok.ensures.story ∙ (λ i. say (GaveReceipt c.args.held.clock c.args.held.gener c.args.held.ctrl c.args.tick (step i) (freq i) c.in-Ok.number ∷ []) (before i).view.stories) ∙ ap (say (GaveReceipt c.args.held.clock c.args.held.gener c.args.held.ctrl c.args.tick c.args.step c.args.freq c.in-Ok.number ∷ [])) tale

pub returns-in-Err-clause-answer : goal.returns-in-Err-clause-answer
returns-in-Err-clause-answer c =
    let s = c.look-at.ensures.sees in
    let v : View = c.args.pass.now.view in
    let p : SeatValue = c.look-at.new.pass in
    let m : View = with_row p.view c.change-state.result in
    let before : c.prepare.new.pass ≡ record { table = p.table; view = m; spare = p.spare } = c.prepare.ensures.row ∙ (λ i. record { table = (c.state.ensures.same i).table; view = with_row (c.state.ensures.same i).view c.change-state.result; spare = (c.state.ensures.same i).spare }) in
    let owner = ap (λ (y : View). y.owner) s.is in
    let e = subst (λ (q : SeatValue). WasOvertaken q.view c.args.held.clock c.args.held.gener c.in-Err.now c.exchange.new.pass.view) before c.in-Err.ensures.told in
    (e.newer, e.gener, e.number, grew_on _ _ _ _ _ s.grew (subst (λ (o : Owner). GrewByOthers c.args.held.clock o (seen_log m c.args.held.clock) (seen_log c.exchange.new.pass.view c.args.held.clock)) owner e.grew))

pub returns-in-Err-clause-story : goal.returns-in-Err-clause-story
returns-in-Err-clause-story c =
    let s = c.look-at.ensures.sees in
    let v : View = c.args.pass.now.view in
    let p : SeatValue = c.look-at.new.pass in
    let m : View = with_row p.view c.change-state.result in
    let before : c.prepare.new.pass ≡ record { table = p.table; view = m; spare = p.spare } = c.prepare.ensures.row ∙ (λ i. record { table = (c.state.ensures.same i).table; view = with_row (c.state.ensures.same i).view c.change-state.result; spare = (c.state.ensures.same i).spare }) in
    let owner = ap (λ (y : View). y.owner) s.is in
    let step : to_z w64 (of_z w64 c.args.step) ≡ c.args.step = to_z-of_z w64 c.args.step c.ranges.step in
    let freq : to_z w64 (of_z w64 c.args.freq) ≡ c.args.freq = to_z-of_z w64 c.args.freq c.ranges.freq in
    let nothing = nothing_said c.args.self.now.rows c.args.held.clock c.args.held.gener c.args.held.ctrl c.args.tick (to_z w64 (of_z w64 c.args.step)) (to_z w64 (of_z w64 c.args.freq)) (seen_log p.view c.args.held.clock) c.look-at.result s.word (omega (arith, c.if-at-held.false)) (omega (arith, c.if-at-held-2.false)) (omega (arith, c.if-at-self.false)) in
    let tale : m.stories ≡ v.stories = ap (λ (y : View). y.stories) s.is ∙ ap (λ (xs : Story). say xs v.stories) nothing in
    c.in-Err.ensures.story ∙ (λ i. say (WasSuperseded c.args.held.clock c.args.held.gener c.args.held.ctrl c.args.tick (step i) (freq i) c.in-Err.now.gener c.in-Err.now.number ∷ []) (before i).view.stories) ∙ ap (say (WasSuperseded c.args.held.clock c.args.held.gener c.args.held.ctrl c.args.tick c.args.step c.args.freq c.in-Err.now.gener c.in-Err.now.number ∷ [])) tale

pub returns-then-at-held-clause-same : goal.returns-then-at-held-clause-same
returns-then-at-held-clause-same c = look_leaves _ _ _ _ _ _ c.look-at.ensures.sees

pub returns-then-at-self-clause-same : goal.returns-then-at-self-clause-same
returns-then-at-self-clause-same c = look_leaves _ _ _ _ _ _ c.look-at.ensures.sees

pub returns-in-Ok-clause-same : goal.returns-in-Ok-clause-same
returns-in-Ok-clause-same c =
    let p : SeatValue = c.look-at.new.pass in
    let m : View = with_row p.view c.change-state.result in
    let before : c.prepare.new.pass ≡ record { table = p.table; view = m; spare = p.spare } = c.prepare.ensures.row ∙ (λ i. record { table = (c.state.ensures.same i).table; view = with_row (c.state.ensures.same i).view c.change-state.result; spare = (c.state.ensures.same i).spare }) in
    let first = leaves_row _ p.view c.args.held.clock c.change-state.result (look_leaves _ _ _ _ _ _ c.look-at.ensures.sees) in
    leaves_on _ m _ c.args.held.clock first (subst (λ (q : SeatValue). LeavesOthers q.view c.args.held.clock c.exchange.new.pass.view) before c.in-Ok.ensures.same)

pub returns-in-Err-clause-same : goal.returns-in-Err-clause-same
returns-in-Err-clause-same c =
    let p : SeatValue = c.look-at.new.pass in
    let m : View = with_row p.view c.change-state.result in
    let before : c.prepare.new.pass ≡ record { table = p.table; view = m; spare = p.spare } = c.prepare.ensures.row ∙ (λ i. record { table = (c.state.ensures.same i).table; view = with_row (c.state.ensures.same i).view c.change-state.result; spare = (c.state.ensures.same i).spare }) in
    let first = leaves_row _ p.view c.args.held.clock c.change-state.result (look_leaves _ _ _ _ _ _ c.look-at.ensures.sees) in
    leaves_on _ m _ c.args.held.clock first (subst (λ (q : SeatValue). LeavesOthers q.view c.args.held.clock c.exchange.new.pass.view) before c.in-Err.ensures.same)
