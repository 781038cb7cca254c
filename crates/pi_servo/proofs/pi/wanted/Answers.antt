use Rattle.std.proofs.Common.{◌^◌, pos, ◌≡◌, ◌+ℤ◌, arith, rules, to_z, of_z, SFits}
use Rattle.std.specs.Int.{w128}
use Rattle.std.proofs.lemmas.Int.{ints, to_z-of_z}
use Rattle.ptp_base.specs.Floor.{IsWithin}
use Rattle.ptp_profile.specs.Timing.Servo.{part}
use Rattle.pi_servo.proofs.lemmas.WordSizeLemmas.{fits_wide}
use Rattle.pi_servo.proofs.pi.wanted.Goals as goal

pub returns : goal.returns
returns c = λ gener freq local.
    let few : IsWithin (pos (2 ^ 115)) (c.plus.result +ℤ c.part-2.result) = omega (arith, ints, c.plus.ensures.few, c.part-2.ensures.few) in
    let f : SFits w128 (c.plus.result +ℤ c.part-2.result) = fits_wide _ _ (omega arith) few in
    let both : to_z w128 (of_z w128 (to_z w128 (of_z w128 c.plus.result) +ℤ to_z w128 (of_z w128 c.part-2.result))) ≡ c.plus.result +ℤ c.part-2.result = search (rules, to_z-of_z) in
    let first : c.plus.result ≡ c.args.drift +ℤ part c.args.conf.now.kp c.args.offset = search (rules, to_z-of_z) in
    let second : c.part-2.result ≡ part c.args.conf.now.ki c.args.offset = search (rules, to_z-of_z) in
    search (rules, both, first, second)
