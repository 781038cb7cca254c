use Rattle.std.proofs.Common.{◌≡◌, rules, ap}
use Rattle.std.proofs.lemmas.Int.{to_z-of_z}
use Rattle.pi_servo.specs.ServoView.{ServoView}
use Rattle.pi_servo.proofs.servo.Servo.lock.Goals as goal

pub returns-clause-drift : goal.returns-clause-drift
returns-clause-drift c = λ gener freq.
    let conf_is : c.self.inside.conf ≡ c.args.self.now.conf = ap (λ (p : ServoView). p.conf) c.self.view_is in
    let drift_is : c.self.inside.drift ≡ c.args.self.now.drift = ap (λ (p : ServoView). p.drift) c.self.view_is in
    let e = c.estimate-self-inside.ensures.value gener freq in
    search (rules, to_z-of_z, conf_is, drift_is, e)

pub returns-clause-action : goal.returns-clause-action
returns-clause-action c = λ gener freq.
    let conf_is : c.self.inside.conf ≡ c.args.self.now.conf = ap (λ (p : ServoView). p.conf) c.self.view_is in
    let locked_is : c.self.inside.locked ≡ c.args.self.now.locked = ap (λ (p : ServoView). p.locked) c.self.view_is in
    let e = c.first_action-action.ensures.value gener freq c.args.point.now.local in
    search (rules, to_z-of_z, conf_is, locked_is, e)
