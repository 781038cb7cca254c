use Rattle.std.proofs.Common.{◌∙◌, ap, subst}
use Rattle.bc_history.specs.declared.scenario.Scenario.{Scenario}
use Rattle.bc_actors.specs.ActingState.{IsActing}
use Rattle.bc_actors.proofs.lemmas.ActingLemmas.{acting-opening}
use Rattle.bc_actors.proofs.acting.Acting.new.Goals as goal
use Rattle.hub_core.specs.HubView.{HubState, with_window}

pub invariant_of-result : goal.invariant_of-result
invariant_of-result g c =
    let hub = c.window.ensures ∙ ap (λ (h : HubState). with_window h 0) c.in_ok-hub.ensures in
    subst (λ (s : Scenario). IsActing s (record { hub = c.window.new.self; actors = c.in_ok-actors_of.field-0.items })) c.requires.named
    (acting-opening c.args.s.now c.window.new.self c.in_ok-actors_of.field-0.items c.rules.ensures hub c.in_ok-actors_of.ensures)
