use Rattle.discipline_seat.proofs.lemmas.SeatInvariantLemmas.{IsTable-grown}
use Rattle.discipline_seat.proofs.plain.PlainSeats.reserve.Goals as goal

pub invariant_of-self : goal.invariant_of-self
invariant_of-self c =
    IsTable-grown c.self.inside.rows c.self.inside.spare c.self.inside.spare c.self.inside.seats.items c.reserve.new.seats.items c.self.inside.places
    c.self.invariant c.reserve.ensures.logs (c.reserve.ensures.rooms c.self.inside.spare c.self.invariant.rooms)

pub invariant_of-self-then-more-self : goal.invariant_of-self-then-more-self
invariant_of-self-then-more-self c =
    IsTable-grown c.self.inside.rows c.self.inside.spare c.args.more c.self.inside.seats.items c.reserve.new.seats.items c.self.inside.places
    c.self.invariant c.reserve.ensures.logs c.in_ok-reserve.ensures.ok
