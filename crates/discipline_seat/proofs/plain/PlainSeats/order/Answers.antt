use Rattle.std.proofs.Common.{◌<◌, ap, ◌∙◌, length}
use Rattle.ptp_profile.specs.declared.seats.LogEntry.TheVariants.{Order}
use Rattle.ptp_profile.specs.declared.seats.Receipt.{Receipt}
use Rattle.discipline_seat.proofs.lemmas.SeatInvariantLemmas.{line-there, number-added, seen-added}
use Rattle.discipline_seat.proofs.plain.PlainSeats.order.Goals as goal

pub returns-clause-log : goal.returns-clause-log
returns-clause-log c =
    let there : c.args.clock < length c.self.inside.seats.items =
    line-there c.self.inside.rows c.self.inside.spare c.self.inside.seats.items c.args.clock c.args.self.now c.self.view_is c.requires.there in
    seen-added c.self.inside.rows c.self.inside.spare c.self.inside.seats.items c.args.clock c.order-receipt.new.self c.index_mut-seat.result.now
    (Order c.args.gener c.args.ctrl) c.args.self.now there c.index_mut-seat.ensures.value c.order-receipt.ensures.log c.self.view_is

pub returns-clause-number : goal.returns-clause-number
returns-clause-number c =
    let there : c.args.clock < length c.self.inside.seats.items =
    line-there c.self.inside.rows c.self.inside.spare c.self.inside.seats.items c.args.clock c.args.self.now c.self.view_is c.requires.there in
    ap (λ (r : Receipt). r.number) c.order-receipt.ensures.number
    ∙ number-added c.self.inside.seats.items c.args.clock c.order-receipt.new.self c.index_mut-seat.result.now (Order c.args.gener c.args.ctrl) there c.order-receipt.ensures.log
