use Rattle.std.proofs.Common.{refl, ap, subst, ◌∙◌, []}
use Rattle.pi_servo.specs.SteererView.{SteererRepresents}
use Rattle.ptp_profile.specs.declared.timing.ServoConf.{ServoConf}
use Rattle.bc_history.specs.declared.scenario.Scenario.{Scenario}
use Rattle.bc_history.specs.Phases.OpeningState.{servo_of}
use Rattle.bc_steps.proofs.lemmas.FollowerOpeningLemmas.{follower-opened}
use Rattle.bc_steps.proofs.follower.actor.FollowerActor.new.Goals as goal

pub invariant_of-result : goal.invariant_of-result
invariant_of-result c =
    let servo = c.servo_of.ensures ∙ ap (λ (x : Scenario). servo_of x.options) c.s.view_is in
    follower-opened _ c.args.s.now c.of.ensures c.rules.ensures c.requires.there (c.of-2.ensures ∙ c.new-none.ensures) refl refl
    (ap (λ (x : Scenario). x.options.follow_interval) c.s.view_is) (ap (λ (x : Scenario). x.options.duration) c.s.view_is)
    (subst (λ (o : ServoConf). SteererRepresents c.new.result.steerer o []) servo c.new.ensures.begun)
