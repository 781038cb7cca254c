use Rattle.std.proofs.Common.{◌^◌, pos, ◌≡◌, neg_ℤ, true, false, ◌-ℤ◌, arith, rules, to_z, of_z, w64}
use Rattle.std.proofs.lemmas.Int.{to_z-of_z}
use Rattle.ptp_profile.specs.Timing.Servo.{is_stepped_away}
use Rattle.pi_servo.specs.ServoView.{sample_at}
use Rattle.pi_servo.proofs.lemmas.WordSizeLemmas.{negated}
use Rattle.pi_servo.proofs.lemmas.CounteractionLemmas.{chosen_first, chosen_second}
use Rattle.pi_servo.proofs.pi.first_action.Goals as goal

pub returns-then-jumps-clause-value : goal.returns-then-jumps-clause-value
returns-then-jumps-clause-value c = λ gener freq local.
    let step : to_z w64 (of_z w64 (pos 0 -ℤ to_z w64 (of_z w64 c.args.offset))) ≡ neg_ℤ c.args.offset = negated 8589934591999999999 _ (omega arith) c.requires.offset in
    let tuned : to_z w64 (of_z w64 (pos 0 -ℤ to_z w64 (of_z w64 c.args.drift))) ≡ neg_ℤ c.args.drift = negated (2 ^ 48) _ (omega arith) c.requires.few in
    let is : is_stepped_away c.args.conf.now (sample_at gener freq c.args.offset local) c.args.locked ≡ true = search (rules, to_z-of_z, c.jumps.ensures gener freq local, c.if-jumps.true) in
    chosen_first _ _ _ _ is cc

pub returns-else-jumps-clause-value : goal.returns-else-jumps-clause-value
returns-else-jumps-clause-value c = λ gener freq local.
    let tuned : to_z w64 (of_z w64 (pos 0 -ℤ to_z w64 (of_z w64 c.args.drift))) ≡ neg_ℤ c.args.drift = negated (2 ^ 48) _ (omega arith) c.requires.few in
    let is : is_stepped_away c.args.conf.now (sample_at gener freq c.args.offset local) c.args.locked ≡ false = search (rules, to_z-of_z, c.jumps.ensures gener freq local, c.if-jumps.false) in
    chosen_second _ _ _ _ is cc
