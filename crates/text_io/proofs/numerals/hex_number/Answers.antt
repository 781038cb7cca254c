use Rattle.std.proofs.Common.{◌<◌, lit<, arith}
use Rattle.text_io.proofs.lemmas.NumeralLemmas.{power_below, hex_below}
use Rattle.text_io.proofs.numerals.hex_number.Goals as goal

pub numeral-requires-clause-room : goal.numeral-requires-clause-room
numeral-requires-clause-room c = let up = power_below 16 c.args.most 32 (lit< tt) (omega arith) in up

pub overflow_cast-result : goal.overflow_cast-result
overflow_cast-result c =
    let below : c.in_ok-n.n < 18446744073709551616 = hex_below _ 16 _ c.in_ok-n.ensures.bound (omega (arith, c.in_ok-n.ensures.short)) in
    omega (arith, below)
