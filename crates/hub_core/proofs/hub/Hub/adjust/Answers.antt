use Rattle.std.proofs.Common.{refl, ap, ◌∙◌}
use Rattle.bc_history.specs.Phases.Step.{state_of}
use Rattle.bc_roles.specs.RolesView.{RolesView}
use Rattle.hub_core.specs.HubView.{history_of}
use Rattle.hub_core.specs.declared.hub.Hub.TheInside.{Inside}
use Rattle.hub_core.proofs.lemmas.HubLemmas.{IsRoomier, gener-roomier, hub-same, machine-exchanged, machine-roomier}
use Rattle.hub_core.proofs.hub.Hub.adjust.Goals as goal

pub invariant_of-self-2 : goal.invariant_of-self-2
invariant_of-self-2 c =
    let i : Inside = c.self.inside in
    let h = state_of i.scenario.value (history_of i) in
    let more : IsRoomier i.machine.roles c.reserve.new.self = record { spare = c.reserve.new.self.seats.spare; same = c.reserve.ensures.same } in
    let roomy = machine-roomier i.scenario.value i.machine h c.reserve.new.self c.self.invariant.machine more in
    hub-same i _ c.self.invariant refl refl refl refl refl
    (machine-exchanged i.scenario.value (record { port_clocks = i.machine.port_clocks; core = i.machine.core; roles = c.reserve.new.self; states = i.machine.states; notices = i.machine.notices; drafts = i.machine.drafts })
    h c.adjust.new.self c.adjust.result c.args.held.clock _ roomy
    (c.adjust.ensures.history h.roles roomy.roles) c.adjust.ensures.kept c.adjust.ensures.taken c.adjust.ensures.same)
    (ap (λ (r : RolesView). r.generation.gener) c.adjust.ensures.kept ∙ gener-roomier i.machine.roles c.reserve.new.self more) refl
