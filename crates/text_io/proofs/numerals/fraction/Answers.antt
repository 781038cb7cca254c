use Rattle.std.proofs.Common.{length}
use Rattle.text_io.proofs.lemmas.NumeralLemmas.{padded}
use Rattle.text_io.proofs.numerals.fraction.Goals as goal

pub returns-clause-bound : goal.returns-clause-bound
returns-clause-bound c =
    let below = padded c.in_ok-n.n (length c.args.digits.now) c.in_ok-n.ensures.bound c.in_ok-n.ensures.short in
    rw c.pow.ensures below
