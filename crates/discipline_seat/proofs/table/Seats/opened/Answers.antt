use Rattle.std.proofs.Common.{◌≡◌, ℕ, ◌+◌, ◌*◌, List, [], ◌∷◌, length, replicate, sym, ap, ◌∙◌, subst, arith}
use Rattle.discipline_seat.specs.Rule.SeatRule.{SeatRule}
use Rattle.discipline_seat.specs.Rule.SeatView.{view_at_opening as opened}
use Rattle.discipline_seat.proofs.lemmas.StepLemmas.{begins}
use Rattle.discipline_seat.proofs.table.Seats.opened.Goals as goal

pub of_words-requires : goal.of_words-requires
of_words-requires c =
    let n : ℕ = length c.args.clocks.now in
    let os = c.in_ok-from_slice.field-0.items in
    let items : c.as_slice.result.now ≡ replicate (n + n * c.args.rows * 3) 0 = c.as_slice.ensures.value ∙ c.in_ok-words.ensures.items_if_clones_equal (λ y e. e) ∙ ap (λ (m : ℕ). replicate m 0) c.word_count.ensures in
    subst (λ (ws : List ℕ). SeatRule c.args.rows n os record { words = ws; homes = []; views = opened n c.args.ports os ∷ [] }) (sym items) (begins c.args.rows n os c.args.ports (omega (arith, c.requires.rows)))
