use Rattle.text_io.proofs.lemmas.NumeralLemmas.{number_bound}
use Rattle.text_io.proofs.numerals.number.Goals as goal

pub returns-clause-bound : goal.returns-clause-bound
returns-clause-bound c = number_bound c.args.word.now c.numeral.result c.numeral.ensures.bound c.numeral.ensures.short
