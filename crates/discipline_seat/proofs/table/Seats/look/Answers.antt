use Rattle.std.proofs.Common.{sym, ◌≡◌, ℕ, ◌<◌, List, length, ap, ◌∙◌, subst, arith}
use Rattle.model_clock.specs.declared.state.ClockState.{ClockState}
use Rattle.discipline_seat.specs.SeatValue.{SeatValue}
use Rattle.discipline_seat.specs.declared.view.View.{View}
use Rattle.discipline_seat.specs.Rule.SeatLog.{Extends, IsSeatLog, SeatLog}
use Rattle.discipline_seat.specs.Rule.Story.{HasNoReceipts, IsAnswerOfLook, Story, StoryAgrees}
use Rattle.discipline_seat.specs.Rule.SeatStep.{LookFound}
use Rattle.discipline_seat.specs.Rule.SeatView.{seen_log, with_more_story}
use Rattle.discipline_seat.specs.SeatCalls.{LookYields}
use Rattle.discipline_seat.specs.SeatCalls.{LookYields}
use Rattle.discipline_seat.proofs.lemmas.StepLemmas.{looks}
use Rattle.discipline_seat.proofs.lemmas.RuleLemmas.{seen_here}
use Rattle.discipline_seat.proofs.lemmas.StoryTruthLemmas.{truth_looked}
use Rattle.discipline_seat.proofs.lemmas.SeatEntryLemmas.{keeps_on}
use Rattle.discipline_seat.proofs.lemmas.CallLemmas.{unpacks, sees, still_pass}
use Rattle.discipline_seat.proofs.table.Seats.look.Goals as goal

pub load-requires : goal.load-requires
load-requires g c =
    let table : c.pass.inside.seat.table_id ≡ c.args.self.now.table.shared.table_id = ap (λ (p : SeatValue). p.table) c.pass.view_is ∙ c.requires.table.table_is in
    let words : length c.pass.inside.seat.me.0.openings ≡ c.args.self.now.table.shared.key.clocks = ap (λ (p : SeatValue). length p.view.openings) c.pass.view_is ∙ ap length c.requires.table.openings_are ∙ c.args.self.now.counted in
    let near : c.from.result < c.args.self.now.table.shared.key.clocks = omega (arith, c.args.self.now.counted, c.requires.clock, c.from.ensures) in (
      table,
      omega (arith, c.args.self.now.sized),
      looks _ _ _ _ _ c.pass.inside.seat.me c.from.result g.A.Answer.rows g.A.Answer.says (omega (arith, c.pass.invariant.1)) near c.pass.invariant.2 (c.requires.limit ∙ c.args.self.now.rows_are),
    )

pub returns-clause-sees : goal.returns-clause-sees
returns-clause-sees g c =
    let table : c.pass.inside.seat.table_id ≡ c.args.self.now.table.shared.table_id = ap (λ (p : SeatValue). p.table) c.pass.view_is ∙ c.requires.table.table_is in
    let words : length c.pass.inside.seat.me.0.openings ≡ c.args.self.now.table.shared.key.clocks = ap (λ (p : SeatValue). length p.view.openings) c.pass.view_is ∙ ap length c.requires.table.openings_are ∙ c.args.self.now.counted in
    let near : c.args.clock < c.args.self.now.table.shared.key.clocks = omega (arith, c.args.self.now.counted, c.requires.clock) in
    let t = c.load.ensures.2.1 in
    let n : ℕ = c.args.clock in
    let told : LookFound n c.pass.inside.seat.me.0 c.load.result t.0 = subst (λ (n : ℕ). LookFound n c.pass.inside.seat.me.0 c.load.result t.0) c.from.ensures t.1 in
    let is : c.load.new.seat.me.0 ≡ with_more_story t.0 (g.A.Answer.says n (seen_log t.0 n)) = subst (λ (n : ℕ). c.load.new.seat.me.0 ≡ with_more_story t.0 (g.A.Answer.says n (seen_log t.0 n))) c.from.ensures t.2 in
    let law : IsSeatLog c.args.self.now.rows (seen_log t.0 n) = subst (λ (q : ℕ × ℕ). IsSeatLog q.0 (seen_log t.0 q.1)) (λ i. (c.requires.limit i, c.from.ensures i)) t.3 in
    subst (λ (p : SeatValue). LookYields c.args.self.now.rows g.A.Answer.says p.view c.args.clock c.unpack.result c.load.new.seat.me.0) c.pass.view_is (sees _ _ _ _ _ _ _ _ (omega (arith, c.pass.invariant.1)) told is law (unpacks _ _ c.unpack.ensures.only))

pub invariant_of-pass : goal.invariant_of-pass
invariant_of-pass g c =
    let i = c.pass.invariant in
    let l = c.load.ensures in
    let t = l.2.1 in
    let v : View = c.pass.inside.seat.me.0 in
    let z : View = c.load.new.seat.me.0 in
    let n : ℕ = c.from.result in
    let xs : Story = g.A.Answer.says n (seen_log t.0 n) in
    let table : c.pass.inside.seat.table_id ≡ c.args.self.now.table.shared.table_id = ap (λ (p : SeatValue). p.table) c.pass.view_is ∙ c.requires.table.table_is in
    let words : length c.pass.inside.seat.me.0.openings ≡ c.args.self.now.table.shared.key.clocks = ap (λ (p : SeatValue). length p.view.openings) c.pass.view_is ∙ ap length c.requires.table.openings_are ∙ c.args.self.now.counted in
    let wide : n < length v.seen = omega (arith, c.args.self.now.counted, c.requires.clock, c.from.ensures, i.1) in
    let after = still_pass v t.0 z n t.1.log xs t.1.is t.2 (c.requires.quiet n (seen_log t.0 n)) i.1 i.2 i.3 in
    let here : seen_log t.0 n ≡ t.1.log = ap (λ (y : View). seen_log y n) t.1.is ∙ seen_here v n t.1.log wide in
    let law : IsSeatLog t.1.rows (seen_log t.0 c.args.clock) = subst (λ (x : ℕ). IsSeatLog t.1.rows (seen_log t.0 x)) c.from.ensures (subst (IsSeatLog t.1.rows) (sym here) t.1.lawful) in
    let first : Extends (seen_log v n) (seen_log t.0 n) = record { newer = t.1.grew.newer; is = here ∙ t.1.grew.is } in
    let ext : Extends (seen_log c.args.pass.now.view c.args.clock) (seen_log t.0 c.args.clock) = subst (λ (q : SeatValue × ℕ). Extends (seen_log q.0.view q.1) (seen_log t.0 q.1)) (λ i. (c.pass.view_is i, c.from.ensures i)) first in
    let m : ℕ → SeatLog = seen_log t.0 in
    let opened : v.openings ≡ c.args.self.now.openings.items = ap (λ (p : SeatValue). p.view.openings) c.pass.view_is ∙ c.requires.table.openings_are in
    let truth = subst (λ (x : ℕ). StoryAgrees c.args.self.now.openings.items m (g.A.Answer.says x (m x)) × HasNoReceipts (g.A.Answer.says x (m x)) × IsAnswerOfLook m (g.A.Answer.says x (m x))) (sym c.from.ensures) (c.requires.truth m t.1.rows law ext) in (
      l.2.0 ∙ i.0,
      after.0,
      after.1,
      after.2,
      truth_looked v t.0 z n t.1.log xs t.1.is t.2 wide t.1.grew (subst (λ (os : List ClockState). StoryAgrees os m xs) (sym opened) truth.0) truth.1 truth.2 i.4,
      keeps_on c.pass.inside.entries.items v z xs truth.1 (ap (λ (y : View). y.stories.story) (t.2 ∙ ap (λ (y : View). with_more_story y xs) t.1.is)) i.5,
    )
