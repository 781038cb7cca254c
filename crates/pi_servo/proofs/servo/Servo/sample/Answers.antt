use Rattle.std.proofs.Common.{pos, rules, ◌∙◌}
use Rattle.std.proofs.lemmas.Int.{to_z-of_z}
use Rattle.pi_servo.specs.ServoView.{sample_at}
use Rattle.pi_servo.specs.ServoView.{ServoYields}
use Rattle.pi_servo.proofs.lemmas.ServoViewLemmas.{action-run, ServoRepresents-more, drift-held}
use Rattle.pi_servo.proofs.servo.Servo.sample.Goals as goal

pub returns-clause-answer : goal.returns-clause-answer
returns-clause-answer c = λ conf freq before runs gener at.
    let x = sample_at gener at c.args.offset c.args.local in
    let s : ServoYields x c.args.self.now c.take.new.self c.take.result = search (rules, to_z-of_z, c.take.ensures.yields gener at) in
    action-run conf freq before x c.args.self.now c.take.new.self c.take.result s runs

pub returns-clause-runs : goal.returns-clause-runs
returns-clause-runs c = λ conf freq before runs gener at.
    let x = sample_at gener at c.args.offset c.args.local in
    let s : ServoYields x c.args.self.now c.take.new.self c.take.result = search (rules, to_z-of_z, c.take.ensures.yields gener at) in
    ServoRepresents-more conf freq before x c.args.self.now c.take.new.self c.take.result s runs

pub returns-clause-held : goal.returns-clause-held
returns-clause-held c = λ gener at held.
    let x = sample_at gener at c.args.offset c.args.local in
    let s : ServoYields x c.args.self.now c.take.new.self c.take.result = search (rules, to_z-of_z, c.take.ensures.yields gener at) in
    s.drift ∙ drift-held c.args.self.now.conf x c.args.self.now.phase c.args.self.now.drift held

pub returns-clause-conf : goal.returns-clause-conf
returns-clause-conf c = (c.take.ensures.yields 0 (pos 0)).configured
