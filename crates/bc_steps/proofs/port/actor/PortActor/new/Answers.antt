use Rattle.std.proofs.Common.{refl, ap, subst, ◌∙◌, List, [], filter}
use Rattle.std.specs.Prelude.{◌==◌}
use Rattle.pi_servo.specs.SteererView.{SteererRepresents}
use Rattle.ptp_profile.specs.declared.timing.ServoConf.{ServoConf}
use Rattle.bc_history.specs.declared.scenario.Record.{Record}
use Rattle.bc_history.specs.declared.scenario.Scenario.{Scenario}
use Rattle.bc_history.specs.Phases.OpeningState.{servo_of}
use Rattle.bc_steps.specs.RecordQueue.{QueueRepresents}
use Rattle.bc_steps.proofs.lemmas.PortOpeningLemmas.{actor-opened}
use Rattle.bc_steps.proofs.port.actor.PortActor.new.Goals as goal

pub invariant_of-result : goal.invariant_of-result
invariant_of-result c =
    let servo = c.servo_of.ensures ∙ ap (λ (x : Scenario). servo_of x.options) c.s.view_is in
    let records = c.items.ensures ∙ ap (λ (x : Scenario). x.records) c.s.view_is in
    actor-opened _ c.args.s.now c.of.ensures c.rules.ensures c.requires.there (c.of-2.ensures ∙ c.new-none.ensures) refl
    (ap (λ (x : Scenario). x.options.duration) c.s.view_is)
    (subst (λ (o : ServoConf). SteererRepresents c.new.result o []) servo c.new.ensures.begun)
    (subst (λ (rs : List Record). QueueRepresents c.in_ok-queue_of.field-0 (filter (λ (r : Record). r.port == c.args.number) rs)) records
    c.in_ok-queue_of.ensures)
