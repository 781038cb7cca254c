use Rattle.std.proofs.Common.{◌∙◌, ap}
use Rattle.discipline_seat.specs.SeatEntries.{most_of}
use Rattle.discipline_seat.specs.SeatValue.{SeatValue}
use Rattle.discipline_seat.specs.WholeLogs.{orders_of}
use Rattle.discipline_seat.specs.Rule.SeatView.{seen_log}
use Rattle.discipline_seat.proofs.lemmas.WholeLogLemmas.{orders_are}
use Rattle.discipline_seat.proofs.pass.HubSeat.longest.Goals as goal

pub returns : goal.returns
returns c =
    c.longest.ensures
    ∙ ap (most_of c.args.least) (orders_are c.args.clock _ _ (c.self.invariant.5 c.args.clock))
    ∙ ap (λ (p : SeatValue). most_of c.args.least (orders_of (seen_log p.view c.args.clock))) c.self.view_is
