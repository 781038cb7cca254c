use Rattle.discipline_seat.proofs.lemmas.SeatInvariantLemmas.{seen-opened, IsTable-opened}
use Rattle.discipline_seat.proofs.plain.PlainSeats.new.Goals as goal

pub invariant_of-result : goal.invariant_of-result
invariant_of-result c =
    IsTable-opened c.args.rows c.args.clocks.now c.in_ok-opened.field-0.items c.in_ok-with.field-0 c.requires.rows c.requires.few c.in_ok-opened.ensures c.in_ok-with.ensures

pub returns : goal.returns
returns c = seen-opened c.args.rows c.args.clocks.now c.in_ok-opened.field-0.items c.in_ok-opened.ensures
