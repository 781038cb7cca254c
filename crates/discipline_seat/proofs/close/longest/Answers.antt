use Rattle.std.proofs.Common.{◌∙◌, ap, arith, get_or, ◌-◌}
use Rattle.discipline_seat.specs.SeatValue.{SeatValue}
use Rattle.discipline_seat.specs.SeatEntries.{most_of}
use Rattle.discipline_seat.specs.Rule.Story.{receipts_of}
use Rattle.discipline_seat.proofs.lemmas.WholeLogLemmas.{most_with}
use Rattle.discipline_seat.proofs.close.longest.Goals as goal

pub loop-left-preserved : goal.loop-left-preserved
loop-left-preserved c =
    let i = c.loop-left.invariant in
    record {
      within = omega (arith, i.within);
      most =
          c.longest-most-in-loop-left.ensures
          ∙ ap (λ (p : SeatValue). most_of c.loop-left.most (receipts_of c.args.clock p.view.stories.story)) {y = get_or c.args.passes.now (c.loop-left.left - 1) c.index-passes-left.result} c.index-passes-left.is
          ∙ most_with c.args.clock c.args.hub.now.view c.args.passes.now c.loop-left.left c.loop-left.most c.index-passes-left.result (omega (arith, c.loop-left-test.true)) i.within i.most;
    }
