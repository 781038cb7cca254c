use Rattle.std.proofs.Common.{◌≡◌, length, arith}
use Rattle.std.proofs.lemmas.Int.{to_z-of_z}
use Rattle.std.proofs.lemmas.List.Sorted.{All-permutation}
use Rattle.delay_mech.specs.DelaysView.{IsDelay}
use Rattle.delay_mech.proofs.lemmas.MedianLemmas.{median_of_sorted}
use Rattle.delay_mech.proofs.median.median.Goals as goal

pub middle-requires-clause-small : goal.middle-requires-clause-small
middle-requires-clause-small c = All-permutation IsDelay _ _ c.sort_unstable.ensures.permutation c.requires

pub returns : goal.returns
returns c =
    let some : length c.args.numbers.now ≡ 0 → ⊥ = grind arith in
    let is = median_of_sorted c.args.numbers.now c.sort_unstable.new.self some c.sort_unstable.ensures.permutation c.sort_unstable.ensures.sorted in
    grind (arith, to_z-of_z, is, c.middle.ensures)
