use Rattle.std.proofs.Common.{◌^◌, pos, ◌≡◌, ◌+ℤ◌, true, false, arith, rules, sym, subst, to_z, of_z, w64}
use Rattle.std.specs.Int.{w128}
use Rattle.std.proofs.lemmas.Int.{ints, to_z-of_z}
use Rattle.ptp_base.specs.Floor.{IsWithin}
use Rattle.ptp_profile.specs.Timing.Servo.{limit, part, counteraction, is_past_limit}
use Rattle.pi_servo.specs.ServoView.{sample_at}
use Rattle.pi_servo.proofs.lemmas.CounteractionLemmas.{raised, same_test, chosen_first, chosen_second}
use Rattle.pi_servo.proofs.pi.running_drift.Goals as goal

pub with_integral-requires : goal.with_integral-requires
with_integral-requires c =
    let x = sample_at 0 (pos 0) c.args.offset 0 in
    let asked : to_z w128 (of_z w128 c.wanted.result) ≡ counteraction c.args.conf.now x c.args.drift = search (rules, to_z-of_z, c.wanted.ensures 0 (pos 0) 0) in
    let in_it : is_past_limit c.args.conf.now x c.args.drift ≡ false = same_test c.args.conf.now x c.args.drift _ _ _ false c.if-is_outside.false c.is_outside.ensures c.limit.ensures.value asked in
    let sum : IsWithin (pos (limit c.args.conf.now)) (c.args.drift +ℤ part c.args.conf.now.ki c.args.offset) = raised c.args.conf.now x c.args.drift c.requires in_it in
    let few : IsWithin (pos (2 ^ 48)) (c.args.drift +ℤ part c.args.conf.now.ki c.args.offset) = omega (arith, ints, sum, c.limit.ensures.value, c.limit.ensures.few) in
    search (rules, to_z-of_z, few)

pub returns-then-is_outside-clause-value : goal.returns-then-is_outside-clause-value
returns-then-is_outside-clause-value c = λ gener freq local.
    let x = sample_at gener freq c.args.offset local in
    let asked : to_z w128 (of_z w128 c.wanted.result) ≡ counteraction c.args.conf.now x c.args.drift = search (rules, to_z-of_z, c.wanted.ensures gener freq local) in
    let passed : is_past_limit c.args.conf.now x c.args.drift ≡ true = same_test c.args.conf.now x c.args.drift _ _ _ true c.if-is_outside.true c.is_outside.ensures c.limit.ensures.value asked in
    chosen_first _ _ _ _ passed (to_z-of_z w64 _ c.ranges.drift)

pub returns-else-is_outside-clause-value : goal.returns-else-is_outside-clause-value
returns-else-is_outside-clause-value c = λ gener freq local.
    let x = sample_at gener freq c.args.offset local in
    let asked : to_z w128 (of_z w128 c.wanted.result) ≡ counteraction c.args.conf.now x c.args.drift = search (rules, to_z-of_z, c.wanted.ensures gener freq local) in
    let in_it : is_past_limit c.args.conf.now x c.args.drift ≡ false = same_test c.args.conf.now x c.args.drift _ _ _ false c.if-is_outside.false c.is_outside.ensures c.limit.ensures.value asked in
    let sum : to_z w64 (of_z w64 c.with_integral.result) ≡ c.args.drift +ℤ part c.args.conf.now.ki c.args.offset = search (rules, to_z-of_z) in
    chosen_second _ _ _ _ in_it sum

pub returns-else-is_outside-clause-within : goal.returns-else-is_outside-clause-within
returns-else-is_outside-clause-within c =
    let x = sample_at 0 (pos 0) c.args.offset 0 in
    let asked : to_z w128 (of_z w128 c.wanted.result) ≡ counteraction c.args.conf.now x c.args.drift = search (rules, to_z-of_z, c.wanted.ensures 0 (pos 0) 0) in
    let in_it : is_past_limit c.args.conf.now x c.args.drift ≡ false = same_test c.args.conf.now x c.args.drift _ _ _ false c.if-is_outside.false c.is_outside.ensures c.limit.ensures.value asked in
    let sum : to_z w64 (of_z w64 c.with_integral.result) ≡ c.args.drift +ℤ part c.args.conf.now.ki c.args.offset = search (rules, to_z-of_z) in
    subst (IsWithin (pos (limit c.args.conf.now))) (sym sum) (raised c.args.conf.now x c.args.drift c.requires in_it)
