use Rattle.std.proofs.Common.{◌≡◌, ◌∙◌, ◌-◌, ◌<◌, List, length, refl, ap, subst, arith, Some}
use Rattle.std.specs.Prelude.{slice_get, option_and_then}
use Rattle.std.proofs.lemmas.Option.{slice_get_read}
use Rattle.ptp_profile.specs.Port.PortTimers.{due_of}
use Rattle.bc_history.specs.Phases.Inputs.{port_at}
use Rattle.bc_history.specs.Phases.HubPort.{HubPort}
use Rattle.bc_history.specs.Phases.Step.{state_of}
use Rattle.bc_ports.specs.declared.hub_port.HubPort.{HubPort as KeptPort}
use Rattle.hub_core.specs.HubView.{HubState, history_of}
use Rattle.hub_core.specs.declared.hub.Hub.TheInside.{Inside}
use Rattle.hub_core.proofs.lemmas.HubLemmas.{due-some}
use Rattle.hub_core.proofs.hub.Hub.due.Goals as goal

pub returns : goal.returns
returns c =
    let i : Inside = c.self.inside in
    let q = c.in_ok-port.port.now in
    let at = c.in_ok-port.ensures.lookup in
    let within : c.args.port - 1 < length c.deref.result.now = at.3.0 in
    let found = slice_get_read c.deref.result.now (length c.deref.result.now) (c.args.port - 1) q refl within at.1 in
    let is = subst (λ (qs : List KeptPort). slice_get qs (c.args.port - 1) ≡ Some q) c.deref.ensures.value found in
    c.due.ensures ∙ due-some i.scenario.value i.machine (state_of i.scenario.value (history_of i)) c.args.port q c.self.invariant.machine (omega arith) is
    ∙ ap (λ (x : HubState). option_and_then (λ (h : HubPort). due_of h.port.timers) (port_at (state_of x.scenario x.entries).core.ports c.args.port)) c.self.view_is
