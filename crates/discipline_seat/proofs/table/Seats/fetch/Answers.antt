use Rattle.std.proofs.Common.{◌≡◌, ℕ, ◌<◌, ◌+◌, ◌*◌, suc, sym, ap, ◌∙◌, arith, add-one}
use Rattle.std.specs.Prelude.{slice_index}
use Rattle.model_clock.specs.Clock.{clock_at}
use Rattle.ptp_profile.specs.Roles.SeatLogs.{clock_after}
use Rattle.discipline_seat.specs.SeatValue.{SeatValue}
use Rattle.discipline_seat.specs.declared.view.View.{View}
use Rattle.discipline_seat.specs.Rule.SeatView.{row_words, seen_log}
use Rattle.discipline_seat.specs.Rule.SeatLog.{last_change}
use Rattle.discipline_seat.specs.Rule.SeatRule.{row_place}
use Rattle.discipline_seat.proofs.lemmas.RowLemmas.{place_within}
use Rattle.discipline_seat.proofs.lemmas.RowStepLemmas.{fetches}
use Rattle.discipline_seat.proofs.table.Seats.fetch.Goals as goal

pub load-requires : goal.load-requires
load-requires g c =
    let v : View = c.pass.inside.seat.me.0 in
    let s = c.args.self.now in
    let table : c.pass.inside.seat.table_id ≡ s.table.shared.table_id = ap (λ (p : SeatValue). p.table) c.pass.view_is ∙ c.requires.table.table_is in
    let counted = s.counted in
    let rows = s.rows_are in
    let near : c.args.clock < s.table.shared.key.clocks = omega (arith, c.requires.clock, counted) in
    let room : c.args.row < s.table.shared.key.rows = omega (arith, c.requires.rows, rows) in
    let place : c.place_of-place.result ≡ row_place s.table.shared.key.rows s.table.shared.key.clocks c.args.clock c.args.row c.args.word = c.place_of-place.ensures ∙ (λ i. row_place (rows i) ((c.clock_count.ensures ∙ counted) i) c.args.clock c.args.row c.args.word) in
    let fits = place_within s.table.shared.key.rows s.table.shared.key.clocks c.args.clock c.args.row c.args.word near room c.requires.word in
    let sized : s.table.shared.table_id.words ≡ s.table.shared.key.clocks + s.table.shared.key.clocks * s.table.shared.key.rows * 3 = s.sized ∙ ap (λ (r : ℕ). s.table.shared.key.clocks + s.table.shared.key.clocks * r * 3) rows in
    let row : last_change (seen_log v c.args.clock) ≡ suc c.args.row = ap (λ (p : SeatValue). last_change (seen_log p.view c.args.clock)) c.pass.view_is ∙ c.requires.row ∙ add-one c.args.row in
    let wanted = c.requires.wanted ∙ (λ i. slice_index (row_words (clock_after (clock_at (sym s.openings_are i) c.args.clock) (seen_log (sym c.pass.view_is i).view c.args.clock))) c.args.word) in
    (table, omega (arith, fits, sized, place), fetches _ _ _ _ _ c.pass.inside.seat.me c.args.clock c.args.row c.args.word c.place_of-place.result g.W.Wanted.word near row c.requires.word place wanted)
