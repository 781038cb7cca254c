use Rattle.std.proofs.Common.{pos, ◌≡◌, true, arith, ap, sym, ◌∙◌}
use Rattle.std.specs.Prelude.{int_lt}
use Rattle.std.proofs.lemmas.Bool.Decides.{nat_tests}
use Rattle.ptp_profile.specs.Timing.Servo.{OneSample, Running}
use Rattle.pi_servo.specs.ServoView.{ServoView, phase_of}
use Rattle.pi_servo.proofs.lemmas.ServoViewLemmas.{ServoYields-lock, ServoYields-run}
use Rattle.pi_servo.proofs.servo.Servo.take.Goals as goal

pub returns-then-first-point-clause-yields : goal.returns-then-first-point-clause-yields
returns-then-first-point-clause-yields c = λ gener freq.
    let was : c.args.self.now.phase ≡ OneSample c.in-OneSample.first.offset (pos c.in-OneSample.first.local) = sym (ap (λ (p : ServoView). p.phase) c.self.view_is) ∙ ap phase_of c.in-OneSample.is in
    let later : int_lt (pos c.in-OneSample.first.local) (pos c.args.point.now.local) ≡ true = grind (arith, nat_tests, c.if-first-point.true) in
    ServoYields-lock _ c.args.self.now c.lock.new.self c.lock.result _ _ was later c.lock.ensures.conf c.lock.ensures.phase c.lock.ensures.locked (c.lock.ensures.drift gener freq) (c.lock.ensures.action gener freq)

pub returns-in-Running-clause-yields : goal.returns-in-Running-clause-yields
returns-in-Running-clause-yields c = λ gener freq.
    let was : c.args.self.now.phase ≡ Running = sym (ap (λ (p : ServoView). p.phase) c.self.view_is) ∙ ap phase_of c.in-Running.is in
    ServoYields-run _ c.args.self.now c.run.new.self c.run.result was c.run.ensures.conf (c.run.ensures.phase gener freq) c.run.ensures.locked (c.run.ensures.drift gener freq) (c.run.ensures.action gener freq)
