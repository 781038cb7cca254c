use Rattle.std.proofs.Common.{◌≡◌, ◌<◌, get_or, arith, ◌∙◌}
use Rattle.std.specs.Char.{digit_value}
use Rattle.text_io.proofs.lemmas.NumeralLemmas.{bound_more, more_fits, value_more, digits_more}
use Rattle.text_io.proofs.numerals.numeral.Goals as goal

pub overflow_mul-value : goal.overflow_mul-value
overflow_mul-value c =
    let loop = c.loop-octet in
    let fits = more_fits loop.value 0 c.args.radix c.from-in-loop-octet.result loop.octet-index c.args.most c.from-in-loop-octet.ensures loop.invariant.bound (omega arith) (omega arith) c.requires.room in
    omega (arith, fits)

pub overflow_add-value : goal.overflow_add-value
overflow_add-value c =
    let loop = c.loop-octet in
    let below : c.from-in-loop-octet-2.result < c.args.radix = omega (arith, c.in_ok-digit.ensures.value, c.from-in-loop-octet-2.ensures) in
    let fits = more_fits loop.value c.from-in-loop-octet-2.result c.args.radix c.from-in-loop-octet.result loop.octet-index c.args.most c.from-in-loop-octet.ensures loop.invariant.bound below (omega arith) c.requires.room in
    omega (arith, fits)

pub loop-octet-preserved : goal.loop-octet-preserved
loop-octet-preserved c =
    let loop = c.loop-octet in
    let word = c.args.word.now in
    let within = c.loop-octet-test.true in
    let octet : digit_value (get_or word loop.octet-index 0) < c.args.radix = rw c.from.ensures at c.in_ok-digit.ensures.value.0 in
    let digit : c.in_ok-digit.digit ≡ digit_value (get_or word loop.octet-index 0) = rw c.from.ensures at c.in_ok-digit.ensures.value.1 in
    let below : c.from-in-loop-octet-2.result < c.args.radix = omega (arith, octet, digit, c.from-in-loop-octet-2.ensures) in
    record {
      digits = digits_more c.args.radix word loop.octet-index within loop.invariant.digits octet;
      value = value_more c.args.radix word loop.octet-index loop.value c.from-in-loop-octet.result c.from-in-loop-octet-2.result within loop.invariant.value c.from-in-loop-octet.ensures (c.from-in-loop-octet-2.ensures ∙ digit);
      bound = bound_more loop.value c.from-in-loop-octet-2.result c.args.radix c.from-in-loop-octet.result loop.octet-index c.from-in-loop-octet.ensures loop.invariant.bound below;
    }
