use Rattle.std.proofs.Common.{◌<◌, arith, ⊎_elim}
use Rattle.discipline_seat.proofs.lemmas.ControllerLemmas.{no_circle_with}
use Rattle.discipline_seat.proofs.table.Seats.order.Goals as goal

pub appoint-number-requires : goal.appoint-number-requires
appoint-number-requires c =
    let f = c.requires.follows in
    let clocks = c.args.self.now.few_clocks in
    let counted = c.args.self.now.counted in
    let small : c.args.ctrl < 256 = ⊎_elim (λ low. omega (arith, low)) (λ high. let h = high.1 in omega (arith, h, clocks, counted)) c.requires.ctrl in
    record {
      table = c.requires.table;
      clock = c.requires.clock;
      spare = c.requires.spare;
      follows = (f.0, f.1, omega (arith, c.requires.gener), small, c.requires.few);
      forest = no_circle_with c.args.hub.now.view c.args.clock c.args.gener c.args.ctrl c.requires.forest;
    }
