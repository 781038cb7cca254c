use Rattle.std.proofs.Common.{◌^◌, ◌≡◌, ◌+ℤ◌, arith, rules, sym, subst, to_z, of_z, SFits, w64}
use Rattle.std.specs.Int.{w128}
use Rattle.std.proofs.lemmas.Int.{to_z-of_z}
use Rattle.ptp_profile.specs.Timing.Servo.{part}
use Rattle.pi_servo.proofs.lemmas.WordSizeLemmas.{fits}
use Rattle.pi_servo.proofs.pi.with_integral.Goals as goal

pub overflow_cast-result : goal.overflow_cast-result
overflow_cast-result c =
    let value : to_z w128 (of_z w128 c.plus.result) ≡ c.args.drift +ℤ part c.args.conf.now.ki c.args.offset = search (rules, to_z-of_z) in
    subst (SFits w64) (sym value) (fits (2 ^ 48) _ (omega arith) c.requires)

pub returns : goal.returns
returns c =
    let value : to_z w128 (of_z w128 c.plus.result) ≡ c.args.drift +ℤ part c.args.conf.now.ki c.args.offset = search (rules, to_z-of_z) in
    let f : SFits w64 (c.args.drift +ℤ part c.args.conf.now.ki c.args.offset) = fits (2 ^ 48) _ (omega arith) c.requires in
    search (rules, to_z-of_z, value)
