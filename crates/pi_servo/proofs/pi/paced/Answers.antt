use Rattle.std.proofs.Common.{◌^◌, pos, ◌≡◌, ◌*ℤ◌, arith, rules, sym, subst, to_z, of_z, SFits}
use Rattle.std.specs.Int.{w128}
use Rattle.std.proofs.lemmas.Int.{to_z-of_z}
use Rattle.ptp_base.specs.Floor.{IsWithin}
use Rattle.pi_servo.proofs.lemmas.QuotientLemmas.{product-few}
use Rattle.pi_servo.proofs.lemmas.WordSizeLemmas.{fits_wide}
use Rattle.pi_servo.proofs.pi.paced.Goals as goal

pub returns : goal.returns
returns c =
    let few : IsWithin (pos (2 ^ 113)) (c.args.change *ℤ c.args.pace) = product-few c.args.change c.args.pace c.requires.change c.requires.pace in
    let f : SFits w128 (c.args.change *ℤ c.args.pace) = fits_wide _ _ (omega arith) few in
    let value : to_z w128 (of_z w128 (to_z w128 (of_z w128 c.args.change) *ℤ to_z w128 (of_z w128 c.args.pace))) ≡ c.args.change *ℤ c.args.pace = search (rules, to_z-of_z) in
    record {
      value = value;
      few = subst (IsWithin (pos (2 ^ 113))) (sym value) few;
    }
