use Rattle.std.proofs.Common.{◌^◌, pos, ◌≡◌, neg_ℤ, ◌-ℤ◌, arith, rules, ◌∙◌, ap, to_z, of_z, w64}
use Rattle.std.specs.Int.{w128}
use Rattle.std.proofs.lemmas.Int.{ints, to_z-of_z}
use Rattle.ptp_base.specs.Floor.{IsWithin}
use Rattle.ptp_profile.specs.declared.timing.Action.TheVariants.{Locked}
use Rattle.ptp_profile.specs.Timing.Servo.{held_within, limit, counteraction}
use Rattle.pi_servo.specs.ServoView.{sample_at}
use Rattle.pi_servo.proofs.lemmas.WordSizeLemmas.{negated}
use Rattle.pi_servo.proofs.pi.running_action.Goals as goal

pub returns-clause-value : goal.returns-clause-value
returns-clause-value c = λ gener freq local.
    let x = sample_at gener freq c.args.offset local in
    let few : IsWithin (pos (2 ^ 48)) c.held_within-held.result = omega (arith, ints, c.held_within-held.ensures.within, c.limit.ensures.few) in
    let tuned : to_z w64 (of_z w64 (pos 0 -ℤ to_z w64 (of_z w64 c.held_within-held.result))) ≡ neg_ℤ c.held_within-held.result = negated (2 ^ 48) _ (omega arith) few in
    let asked : to_z w128 (of_z w128 c.wanted.result) ≡ counteraction c.args.conf.now x c.args.drift = search (rules, to_z-of_z, c.wanted.ensures gener freq local) in
    let held : c.held_within-held.result ≡ held_within (limit c.args.conf.now) (counteraction c.args.conf.now x c.args.drift) =
    c.held_within-held.ensures.value ∙ ap (held_within c.limit.result) asked ∙ ap (λ n. held_within n (counteraction c.args.conf.now x c.args.drift)) c.limit.ensures.value in
    ap (λ z. Locked z) (tuned ∙ ap (λ z. neg_ℤ z) held)
