use Rattle.std.proofs.Common.{◌≡◌, ℕ, ℤ, suc, ◌-◌, sym, ap, ◌∙◌, subst, arith, to_z, of_z, w64, slice_index}
use Rattle.std.proofs.lemmas.Int.{to_z-of_z}
use Rattle.model_clock.specs.declared.state.ClockState.{ClockState}
use Rattle.model_clock.specs.Clock.{IsClock, clock_at}
use Rattle.ptp_profile.specs.Roles.SeatLogs.{clock_after}
use Rattle.discipline_seat.specs.SeatValue.{SeatValue}
use Rattle.discipline_seat.specs.Rule.SeatLog.{SeatLog, last_change}
use Rattle.discipline_seat.specs.Rule.SeatView.{row_words, seen_log}
use Rattle.discipline_seat.proofs.lemmas.LogWordLemmas.{small}
use Rattle.discipline_seat.proofs.lemmas.RowLemmas.{none_changed, one_drift}
use Rattle.discipline_seat.proofs.lemmas.ClockStateLemmas.{clock_stays, changed_fits, opening_is, opening_clock}
use Rattle.discipline_seat.proofs.table.Seats.state.Goals as goal

pub returns-then-at-eq0-clause-state : goal.returns-then-at-eq0-clause-state
returns-then-at-eq0-clause-state c =
    opening_is c.args.self.now.openings.items c.args.clock c.from.result c.index.result.now c.from.ensures c.requires.clock c.index.ensures
    ∙ sym (none_changed (clock_at c.args.self.now.openings.items c.args.clock) (seen_log c.args.pass.now.view c.args.clock) (sym c.requires.word.row ∙ c.if-at-eq0.true))

pub returns-then-at-eq0-clause-clock : goal.returns-then-at-eq0-clause-clock
returns-then-at-eq0-clause-clock c =
    subst IsClock (sym (opening_is c.args.self.now.openings.items c.args.clock c.from.result c.index.result.now c.from.ensures c.requires.clock c.index.ensures))
    (opening_clock c.args.self.now.openings.items c.args.clock c.args.self.now.clocks_are c.requires.clock)

pub row_word-tick-requires-clause-rows : goal.row_word-tick-requires-clause-rows
row_word-tick-requires-clause-rows c =
    let b = (small c.args.self.now.rows (seen_log c.args.pass.now.view c.args.clock) c.requires.lawful).row in
    let r = c.requires.word.row in
    let n = c.if-at-eq0.false in
    omega (arith, b, r, n)

pub row_word-time-requires-clause-rows : goal.row_word-time-requires-clause-rows
row_word-time-requires-clause-rows c =
    let b = (small c.args.self.now.rows (seen_log c.args.pass.now.view c.args.clock) c.requires.lawful).row in
    let r = c.requires.word.row in
    let n = c.if-at-eq0.false in
    omega (arith, b, r, n)

pub row_word-freq-requires-clause-rows : goal.row_word-freq-requires-clause-rows
row_word-freq-requires-clause-rows c =
    let b = (small c.args.self.now.rows (seen_log c.args.pass.now.view c.args.clock) c.requires.lawful).row in
    let r = c.requires.word.row in
    let n = c.if-at-eq0.false in
    omega (arith, b, r, n)

-- what the words of a row say
said : (rows r : ℕ) (o opening : ClockState) (l : SeatLog) (tick time freq : ℕ) (t f : ℤ) → opening ≡ o
    → tick ≡ slice_index (row_words (clock_after o l)) 0 → time ≡ slice_index (row_words (clock_after o l)) 1 → freq ≡ slice_index (row_words (clock_after o l)) 2
    → t ≡ to_z w64 time → f ≡ to_z w64 freq → Rattle.discipline_seat.specs.Rule.SeatLog.IsSeatLog rows l → last_change l ≡ suc r
    → record { tick = tick; time = t; freq = f; drift = opening.drift } ≡ clock_after o l
said rows r o opening l tick time freq t f is a b d x y law changed =
    let s : ClockState = clock_after o l in
    let fits = changed_fits rows r o l law changed in
    let times : t ≡ s.time = x ∙ ap (to_z w64) b ∙ to_z-of_z w64 s.time fits.0 in
    let freqs : f ≡ s.freq = y ∙ ap (to_z w64) d ∙ to_z-of_z w64 s.freq fits.1 in
    let drifts : opening.drift ≡ s.drift = ap (λ (z : ClockState). z.drift) is ∙ sym (one_drift o l) in
    λ i. record { tick = a i; time = times i; freq = freqs i; drift = drifts i }

pub returns-clause-state : goal.returns-clause-state
returns-clause-state c =
    let o : ClockState = clock_at c.args.self.now.openings.items c.args.clock in
    let l : SeatLog = seen_log c.args.pass.now.view c.args.clock in
    let opening = opening_is c.args.self.now.openings.items c.args.clock c.from.result c.index.result.now c.from.ensures c.requires.clock c.index.ensures in
    let first = c.row_word-tick.ensures.same in
    let second = c.row_word-time.ensures.same ∙ first in
    let n = c.if-at-eq0.false in
    let row : last_change l ≡ suc (c.args.at.now.row - 1) = (let r = c.requires.word.row in omega (arith, r, n)) in
    c.state_of_row.ensures ∙ said c.args.self.now.rows (c.args.at.now.row - 1) o c.index.result.now l c.row_word-tick.result c.row_word-time.result c.row_word-freq.result (to_z w64 (of_z w64 c.cast_signed.result)) (to_z w64 (of_z w64 c.cast_signed-2.result)) opening
    c.row_word-tick.ensures.word
    (c.row_word-time.ensures.word ∙ ap (λ (p : SeatValue). slice_index (row_words (clock_after o (seen_log p.view c.args.clock))) 1) first)
    (c.row_word-freq.ensures.word ∙ ap (λ (p : SeatValue). slice_index (row_words (clock_after o (seen_log p.view c.args.clock))) 2) second)
    (to_z-of_z w64 c.cast_signed.result (record { sfits = c.cast_signed.type_inv }) ∙ c.cast_signed.ensures) (to_z-of_z w64 c.cast_signed-2.result (record { sfits = c.cast_signed-2.type_inv }) ∙ c.cast_signed-2.ensures) c.requires.lawful row

pub returns-clause-clock : goal.returns-clause-clock
returns-clause-clock c =
    let o : ClockState = clock_at c.args.self.now.openings.items c.args.clock in
    let l : SeatLog = seen_log c.args.pass.now.view c.args.clock in
    subst IsClock (sym (returns-clause-state c)) (clock_stays c.args.self.now.rows o l c.requires.lawful (opening_clock c.args.self.now.openings.items c.args.clock c.args.self.now.clocks_are c.requires.clock))
