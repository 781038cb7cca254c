use Rattle.std.proofs.Common.{ap, ◌∙◌, arith}
use Rattle.discipline_seat.specs.SeatValue.{SeatValue}
use Rattle.discipline_seat.proofs.lemmas.StepLemmas.{deals}
use Rattle.discipline_seat.proofs.table.Seats.deal.Goals as goal

pub split_seat-seat-requires : goal.split_seat-seat-requires
split_seat-seat-requires c = (
  ap (λ (p : SeatValue). p.table) c.hub.view_is ∙ c.requires.table.table_is,
  omega (arith, c.args.self.now.sized, c.args.self.now.some_clock),
  deals _ _ _ _ _ c.hub.invariant.2,
)
