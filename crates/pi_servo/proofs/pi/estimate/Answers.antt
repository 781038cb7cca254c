use Rattle.std.proofs.Common.{pos, ◌≡◌, ◌*ℤ◌, ◌+ℤ◌, ◌-ℤ◌, rules, to_z, of_z}
use Rattle.std.specs.Int.{w128}
use Rattle.std.proofs.lemmas.Int.{to_z-of_z}
use Rattle.ptp_base.specs.Floor.{floor_of}
use Rattle.pi_servo.proofs.pi.estimate.Goals as goal

pub returns-clause-value : goal.returns-clause-value
returns-clause-value c = λ gener freq.
    let p = c.args.point.now in
    let o = c.args.first.now in
    let product : to_z w128 (of_z w128 c.paced-paced.result) ≡ (p.offset -ℤ o.offset) *ℤ (pos 65536000000000 -ℤ c.args.drift) = search (rules, to_z-of_z) in
    let quotient : to_z w128 (of_z w128 c.shown-shown.result) ≡ floor_of ((p.offset -ℤ o.offset) *ℤ (pos 65536000000000 -ℤ c.args.drift)) (pos p.local -ℤ pos o.local) = search (rules, to_z-of_z, product) in
    let sum : to_z w128 (of_z w128 c.plus.result) ≡ c.args.drift +ℤ floor_of ((p.offset -ℤ o.offset) *ℤ (pos 65536000000000 -ℤ c.args.drift)) (pos p.local -ℤ pos o.local) = search (rules, to_z-of_z, quotient) in
    search (rules, to_z-of_z, sum)
