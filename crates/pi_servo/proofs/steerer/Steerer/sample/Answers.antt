use Rattle.std.proofs.Common.{◌≡◌, ◌≢◌, ℤ, List, [], ◌∷◌, Some, refl, rules, ap, sym, subst}
use Rattle.std.proofs.lemmas.Int.{to_z-of_z}
use Rattle.ptp_profile.specs.Timing.Servo.{Sample, action_after}
use Rattle.pi_servo.specs.ServoView.{sample_at}
use Rattle.pi_servo.specs.ServoView.{ServoView, ServoRepresents}
use Rattle.pi_servo.specs.SteererView.{SteererView}
use Rattle.pi_servo.proofs.lemmas.SteererViewLemmas.{action-same, SteererRepresents-same, action-new, SteererRepresents-new}
use Rattle.pi_servo.proofs.steerer.Steerer.sample.Goals as goal

pub returns-then-goes_on-clause-answer : goal.returns-then-goes_on-clause-answer
returns-then-goes_on-clause-answer c = λ conf samples s.
    let x = sample_at c.args.gener c.args.freq c.args.offset c.args.local in
    let servo_is : c.self.inside.servo ≡ c.args.self.now.servo = ap (λ (p : SteererView). p.servo) c.self.view_is in
    let same : c.args.self.now.generation ≡ Some c.args.gener = search (rules, c.goes_on.ensures.same c.if-goes_on.true) in
    let more : (freq : ℤ) (before : List Sample) → ServoRepresents c.args.self.now.servo conf freq before → c.sample.result ≡ action_after conf freq x before =
    λ freq before r.
    let e = c.sample.ensures.answer conf freq before (subst (λ (p : ServoView). ServoRepresents p conf freq before) (sym servo_is) r) c.args.gener c.args.freq in
    search (rules, to_z-of_z, e) in
    action-same conf x samples c.args.self.now c.sample.result s same more

pub returns-then-goes_on-clause-steers : goal.returns-then-goes_on-clause-steers
returns-then-goes_on-clause-steers c = λ conf samples s.
    let x = sample_at c.args.gener c.args.freq c.args.offset c.args.local in
    let conf_is : c.self.inside.conf ≡ c.args.self.now.conf = ap (λ (p : SteererView). p.conf) c.self.view_is in
    let generation_is : c.self.inside.generation ≡ c.args.self.now.generation = ap (λ (p : SteererView). p.generation) c.self.view_is in
    let servo_is : c.self.inside.servo ≡ c.args.self.now.servo = ap (λ (p : SteererView). p.servo) c.self.view_is in
    let same : c.args.self.now.generation ≡ Some c.args.gener = search (rules, c.goes_on.ensures.same c.if-goes_on.true) in
    let more : (freq : ℤ) (before : List Sample) → ServoRepresents c.args.self.now.servo conf freq before → ServoRepresents c.sample.new.self conf freq (x ∷ before) =
    λ freq before r.
    let e = c.sample.ensures.runs conf freq before (subst (λ (p : ServoView). ServoRepresents p conf freq before) (sym servo_is) r) c.args.gener c.args.freq in
    search (rules, to_z-of_z, e) in
    SteererRepresents-same conf x samples c.args.self.now (record { conf = c.self.inside.conf; generation = c.self.inside.generation; servo = c.sample.new.self }) s same conf_is generation_is more

pub returns-clause-answer : goal.returns-clause-answer
returns-clause-answer c = λ conf samples s.
    let x = sample_at c.args.gener c.args.freq c.args.offset c.args.local in
    let now = c.args.self.now in
    let conf_is : c.self.inside.conf ≡ now.conf = ap (λ (p : SteererView). p.conf) c.self.view_is in
    let other : now.generation ≢ Some c.args.gener = search (rules, c.goes_on.ensures.other c.if-goes_on.false) in
    let begun : ServoRepresents c.new-self-inside.result now.conf c.args.freq [] = search (rules, to_z-of_z, conf_is, c.new-self-inside.ensures.begun) in
    let e = c.sample-2.ensures.answer now.conf c.args.freq [] begun c.args.gener c.args.freq in
    let first : c.sample-2.result ≡ action_after now.conf c.args.freq x [] = search (rules, e) in
    action-new conf x samples now c.sample-2.result s other first

pub returns-clause-steers : goal.returns-clause-steers
returns-clause-steers c = λ conf samples s.
    let x = sample_at c.args.gener c.args.freq c.args.offset c.args.local in
    let now = c.args.self.now in
    let conf_is : c.self.inside.conf ≡ now.conf = ap (λ (p : SteererView). p.conf) c.self.view_is in
    let other : now.generation ≢ Some c.args.gener = search (rules, c.goes_on.ensures.other c.if-goes_on.false) in
    let begun : ServoRepresents c.new-self-inside.result now.conf c.args.freq [] = search (rules, to_z-of_z, conf_is, c.new-self-inside.ensures.begun) in
    let e = c.sample-2.ensures.runs now.conf c.args.freq [] begun c.args.gener c.args.freq in
    let first : ServoRepresents c.sample-2.new.self now.conf c.args.freq (x ∷ []) = search (rules, to_z-of_z, e) in
    SteererRepresents-new conf x samples now (record { conf = c.self.inside.conf; generation = Some c.args.gener; servo = c.sample-2.new.self }) s other conf_is refl first
