use Rattle.std.proofs.Common.{◌^◌, pos, ◌≡◌, ◌≤ℤ◌, arith, rules, sym, subst, to_z, of_z}
use Rattle.std.specs.Int.{w128}
use Rattle.std.proofs.lemmas.Int.{ints, to_z-of_z}
use Rattle.ptp_base.specs.Floor.{IsWithin}
use Rattle.ptp_profile.specs.Timing.Servo.{part}
use Rattle.pi_servo.proofs.lemmas.PartLemmas.{part-few, part-rises, part-falls}
use Rattle.pi_servo.proofs.pi.part.Goals as goal

value : (c : goal.After-floor_div) → to_z w128 (of_z w128 c.floor_div.result) ≡ part c.args.gain c.args.offset
value c = search (rules, to_z-of_z)

pub returns-clause-few : goal.returns-clause-few
returns-clause-few c =
    let all : IsWithin (pos (2 ^ 111)) (part c.args.gain c.args.offset) = part-few c.args.gain c.args.offset (omega (arith, c.ranges.gain.fits)) (omega (arith, ints, c.ranges.offset.sfits)) (omega (arith, ints, c.ranges.offset.sfits)) in
    subst (IsWithin (pos (2 ^ 111))) (sym (value c)) all

pub returns-clause-rises : goal.returns-clause-rises
returns-clause-rises c = λ h. subst (λ z. pos 0 ≤ℤ z) (sym (value c)) (part-rises c.args.gain c.args.offset h)

pub returns-clause-falls : goal.returns-clause-falls
returns-clause-falls c = λ h. subst (λ z. z ≤ℤ pos 0) (sym (value c)) (part-falls c.args.gain c.args.offset h)
