use Rattle.std.proofs.Common.{arith, sym, subst}
use Rattle.discipline_seat.specs.SeatsView.{Seats}
use Rattle.bc_roles.specs.RolesInvariant.{SeatsAgree}
use Rattle.bc_roles.specs.Stamps.{with_stamp}
use Rattle.bc_roles.proofs.lemmas.SeatsAgreeLemmas.{seats-take, SeatsAgree-given, SeatsTake}
use Rattle.bc_roles.proofs.orders.give.Goals as goal

pub order-requires : goal.order-requires
order-requires c =
    let take : SeatsTake c.args.seats.now c.args.order.now =
    seats-take c.args.stamps.now.items c.args.seats.now c.args.order.now c.requires.agree c.requires.allowed in
    record {
      there = take.there;
      spare = c.requires.spare;
      ctrl = take.ctrl;
      gener = let last = c.requires.allowed.gener in omega arith;
      follows = take.follows;
      forest = take.forest;
      few = take.few;
    }

pub returns-clause-agree : goal.returns-clause-agree
returns-clause-agree c =
    subst (λ (seats : Seats). SeatsAgree (with_stamp c.args.stamps.now.items c.args.order.now) seats) (sym c.order.ensures.log)
    (SeatsAgree-given c.args.stamps.now.items c.args.seats.now c.args.order.now c.requires.agree c.requires.allowed)
