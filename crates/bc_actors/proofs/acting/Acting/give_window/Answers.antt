use Rattle.std.proofs.Common.{◌≡◌, sym, subst, min, ◌*◌, ◌<◌}
use Rattle.std.specs.Prelude.{IfSome}
use Rattle.bc_history.specs.declared.scenario.Scenario.{Scenario}
use Rattle.hub_core.specs.HubView.{HubState}
use Rattle.run_legal.specs.Runs.LegalRuns.{window_at}
use Rattle.bc_windows.specs.Windows.{MayBegin, bound_of}
use Rattle.bc_actors.specs.ActingState.{ActingState, IsActing}
use Rattle.bc_actors.specs.LeastDue.{IsLeastTick}
use Rattle.bc_actors.proofs.lemmas.ActingLemmas.{acting-window, may-begin}
use Rattle.bc_actors.proofs.acting.Acting.give_window.Goals as goal

pub window-requires : goal.window-requires
window-requires g c =
    let i = c.self.inside in
    let is = c.self.invariant in
    let least = subst (λ (a : ActingState). IsLeastTick a.hub a.actors c.args.tick) (sym c.self.view_is) c.requires.least in
    record {
      begins = subst (λ (s : Scenario). MayBegin s i.hub.windows i.hub.entries) (sym is.all.scenario)
          (may-begin g.N.Naming.scenario i.hub i.actors.items is c.args.tick least
          (subst (λ (a : ActingState). IfSome (bound_of a.hub.windows) (λ end. end < c.args.tick)) (sym c.self.view_is) c.requires.beyond));
    }

pub invariant_of-self : goal.invariant_of-self
invariant_of-self g c =
    let i = c.self.inside in
    let is = c.self.invariant in
    let least = subst (λ (a : ActingState). IsLeastTick a.hub a.actors c.args.tick) (sym c.self.view_is) c.requires.least in
    let end = subst (λ (s : Scenario). c.window_end.result ≡ min (window_at s c.args.tick * s.options.window) s.options.duration) c.requires.named c.window_end.ensures in
    subst (λ (h : HubState). IsActing g.N.Naming.scenario (record { hub = h; actors = i.actors.items })) (sym c.window.ensures)
    (acting-window g.N.Naming.scenario i.hub i.actors.items is c.args.tick c.window_end.result least end)
