use Rattle.std.proofs.Common.{arith}
use Rattle.std.proofs.lemmas.Int.{ints}
use mir.Syntax.{w8}
use mir.Val.{to_z, of_z}
use Rattle.ptp_base.proofs.lemmas.IntervalLemmas.{interval_of-le}
use Rattle.port_engine.proofs.intervals.interval_of.Goals as goal

pub returns-clause-few : goal.returns-clause-few
returns-clause-few c =
    let high = c.requires.high in
    let few = interval_of-le (to_z w8 (of_z w8 c.args.log)) (omega (arith, ints, high)) in
    omega (arith, few, c.interval.ensures)
