use Rattle.std.proofs.Common.{◌≡◌, ◌+ℤ◌, neg_ℤ, false, cond, rules, ap, to_z, of_z, w64}
use Rattle.std.proofs.lemmas.Int.{to_z-of_z}
use Rattle.ptp_profile.specs.declared.timing.Action.TheVariants.{Locked}
use Rattle.ptp_profile.specs.Timing.Servo.{is_beyond, is_past_limit, part, limit, held_within, counteraction}
use Rattle.pi_servo.specs.ServoView.{sample_at}
use Rattle.pi_servo.specs.ServoView.{ServoView}
use Rattle.pi_servo.proofs.lemmas.ServoViewLemmas.{later_drift}
use Rattle.pi_servo.proofs.lemmas.CounteractionLemmas.{chosen_second}
use Rattle.pi_servo.proofs.servo.Servo.run.Goals as goal

pub returns-clause-drift : goal.returns-clause-drift
returns-clause-drift c = λ gener freq.
    let now = c.args.self.now in
    let x = sample_at gener freq c.args.point.now.offset c.args.point.now.local in
    let conf_is : c.self.inside.conf ≡ now.conf = ap (λ (p : ServoView). p.conf) c.self.view_is in
    let drift_is : c.self.inside.drift ≡ now.drift = ap (λ (p : ServoView). p.drift) c.self.view_is in
    let near : is_beyond now.conf.step c.args.point.now.offset ≡ false = search (rules, to_z-of_z, conf_is, c.is_beyond.ensures, c.if-is_beyond.false) in
    let rest : to_z w64 (of_z w64 c.running_drift-self-inside.result) ≡ cond (is_past_limit now.conf x now.drift) now.drift (now.drift +ℤ part now.conf.ki c.args.point.now.offset) =
    search (rules, to_z-of_z, conf_is, drift_is, c.running_drift-self-inside.ensures.value gener freq c.args.point.now.local) in
    later_drift _ _ _ _ _ near rest

pub returns-clause-action : goal.returns-clause-action
returns-clause-action c = λ gener freq.
    let now = c.args.self.now in
    let x = sample_at gener freq c.args.point.now.offset c.args.point.now.local in
    let conf_is : c.self.inside.conf ≡ now.conf = ap (λ (p : ServoView). p.conf) c.self.view_is in
    let drift_is : c.self.inside.drift ≡ now.drift = ap (λ (p : ServoView). p.drift) c.self.view_is in
    let near : is_beyond now.conf.step c.args.point.now.offset ≡ false = search (rules, to_z-of_z, conf_is, c.is_beyond.ensures, c.if-is_beyond.false) in
    let tuned : c.running_action-action.result ≡ Locked (neg_ℤ (held_within (limit now.conf) (counteraction now.conf x now.drift))) =
    search (rules, to_z-of_z, conf_is, drift_is, c.running_action-action.ensures.value gener freq c.args.point.now.local) in
    chosen_second _ _ _ _ near tuned
