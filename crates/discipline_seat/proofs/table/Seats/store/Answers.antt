use Rattle.std.proofs.Common.{◌≡◌, ℕ, ◌<◌, ◌+◌, ◌*◌, length, sym, ap, ◌∙◌, subst, arith}
use Rattle.discipline_seat.specs.SeatValue.{SeatValue}
use Rattle.discipline_seat.specs.declared.view.View.{View}
use Rattle.discipline_seat.specs.Rule.SeatView.{IsTruthful, seen_log, with_row_word}
use Rattle.discipline_seat.specs.Rule.SeatLog.{ctrl_after, owner_named as named, pass_owner}
use Rattle.discipline_seat.specs.Rule.Story.{GrewWithoutPages, receipts_of}
use Rattle.discipline_seat.specs.Rule.SeatRule.{row_place}
use Rattle.discipline_seat.proofs.lemmas.RowLemmas.{place_within}
use Rattle.discipline_seat.proofs.lemmas.RowStepLemmas.{writes}
use Rattle.discipline_seat.proofs.table.Seats.store.Goals as goal

pub store-requires : goal.store-requires
store-requires c =
    let v : View = c.pass.inside.seat.me.0 in
    let s = c.args.self.now in
    let table : c.pass.inside.seat.table_id ≡ s.table.shared.table_id = ap (λ (p : SeatValue). p.table) c.pass.view_is ∙ c.requires.table.table_is in
    let counted = s.counted in
    let rows = s.rows_are in
    let near : c.args.clock < s.table.shared.key.clocks = omega (arith, c.requires.clock, counted) in
    let room : c.args.row < s.table.shared.key.rows = omega (arith, c.requires.rows, rows) in
    let place : c.place_of-place.result ≡ row_place s.table.shared.key.rows s.table.shared.key.clocks c.args.clock c.args.row c.args.word = c.place_of-place.ensures ∙ (λ i. row_place (rows i) ((c.clock_count.ensures ∙ counted) i) c.args.clock c.args.row c.args.word) in
    let fits = place_within s.table.shared.key.rows s.table.shared.key.clocks c.args.clock c.args.row c.args.word near room c.requires.word in
    let sized : s.table.shared.table_id.words ≡ s.table.shared.key.clocks + s.table.shared.key.clocks * s.table.shared.key.rows * 3 = s.sized ∙ ap (λ (r : ℕ). s.table.shared.key.clocks + s.table.shared.key.clocks * r * 3) rows in
    let looked : v.draft_clock ≡ c.args.clock = ap (λ (p : SeatValue). p.view.draft_clock) c.pass.view_is ∙ c.requires.looked in
    let row : length (seen_log v v.draft_clock) ≡ c.args.row = (λ i. length (seen_log (c.pass.view_is i).view (looked i))) ∙ c.requires.row in
    let next : length v.draft ≡ c.args.word = ap (λ (p : SeatValue). length p.view.draft) c.pass.view_is ∙ c.requires.next in
    let holds : named v.draft_clock (ctrl_after (seen_log v v.draft_clock)) ≡ v.owner = (λ i. named (looked i) (ctrl_after (seen_log (c.pass.view_is i).view (looked i)))) ∙ c.requires.holds ∙ ap (λ (p : SeatValue). p.view.owner) (sym c.pass.view_is) in
    let here : c.place_of-place.result ≡ row_place s.table.shared.key.rows s.table.shared.key.clocks v.draft_clock (length (seen_log v v.draft_clock)) (length v.draft) = place ∙ (λ i. row_place s.table.shared.key.rows s.table.shared.key.clocks (sym looked i) (sym row i) (sym next i)) in
    (table, omega (arith, fits, sized, place), writes _ _ _ _ _ c.pass.inside.seat.me c.place_of-place.result c.args.value (omega (arith, near, looked)) (omega (arith, room, row)) (omega (arith, next, c.requires.word)) holds here)

pub invariant_of-pass : goal.invariant_of-pass
invariant_of-pass c =
    let i = c.pass.invariant in
    let a = c.store.ensures in
    let v : View = c.pass.inside.seat.me.0 in
    let w : View = with_row_word v c.args.value in
    let t = i.4 in
    let truth : IsTruthful w = record { agree = t.agree; rising = t.rising; own = t.own } in
    let all : (length w.seen ≡ length w.openings) × (w.owner ≡ pass_owner w.ports w.number) × GrewWithoutPages w.stories.told w.stories.story × IsTruthful w = (i.1, i.2, i.3, truth) in
    let z = subst (λ (y : View). (length y.seen ≡ length y.openings) × (y.owner ≡ pass_owner y.ports y.number) × GrewWithoutPages y.stories.told y.stories.story × IsTruthful y) (sym a.2.1) all in
    (a.2.0 ∙ i.0, z.0, z.1, z.2, z.3, λ d. i.5 d ∙ ap (λ (y : View). receipts_of d y.stories.story) (sym a.2.1))
