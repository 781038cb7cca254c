use Rattle.std.proofs.Common.{◌≡◌, ◌∙◌, ap, sym, subst, length}
use Rattle.ptp_base.specs.declared.limits.TheConstants.{ENTRIES_MAX}
use Rattle.bc_history.specs.declared.entry.Run.{Run}
use Rattle.bc_history.specs.declared.scenario.Scenario.{Scenario}
use Rattle.bc_history.specs.Run.History.{Continues}
use Rattle.bc_windows.specs.Windows.{IsMadeBy}
use Rattle.bc_actors.specs.ActingState.{ActingState}
use Rattle.bc_actors.specs.LeastDue.{AreIdle, IsSomebodyDue}
use Rattle.bc_actors.proofs.lemmas.ActingLemmas.{run-full, run-in_windows, run-legal}
use Rattle.bc_actors.proofs.acting.Acting.part.Goals as goal

pub returns-clause-legal : goal.returns-clause-legal
returns-clause-legal g c = λ idle.
    let i = c.self.inside in
    let is = c.self.invariant in
    let entries = ap (λ (r : Run). r.entries) c.assemble.ensures ∙ c.part-entries.ensures.entries in
    let logs = ap (λ (r : Run). r.logs) c.assemble.ensures ∙ c.part-entries.ensures.logs in
    run-legal g.N.Naming.scenario i.hub i.actors.items is c.assemble.result entries logs
    (subst (λ (a : ActingState). AreIdle a.hub a.actors) (sym c.self.view_is) idle)

pub returns-clause-windowed : goal.returns-clause-windowed
returns-clause-windowed g c =
    let i = c.self.inside in
    let is = c.self.invariant in
    let entries = ap (λ (r : Run). r.entries) c.assemble.ensures ∙ c.part-entries.ensures.entries in
    let logs = ap (λ (r : Run). r.logs) c.assemble.ensures ∙ c.part-entries.ensures.logs in
    let continues = subst (λ (s : Scenario). Continues s i.hub.entries) is.all.scenario c.rules.ensures.history.continues in
    let made = subst (λ (s : Scenario). IsMadeBy s i.hub.windows i.hub.entries) is.all.scenario c.rules.ensures.windows in
    run-in_windows g.N.Naming.scenario i.hub i.actors.items is c.assemble.result entries logs continues made

pub returns-clause-full : goal.returns-clause-full
returns-clause-full g c = λ full somebody.
    let i = c.self.inside in
    let is = c.self.invariant in
    let entries = ap (λ (r : Run). r.entries) c.assemble.ensures ∙ c.part-entries.ensures.entries in
    let logs = ap (λ (r : Run). r.logs) c.assemble.ensures ∙ c.part-entries.ensures.logs in
    let continues = subst (λ (s : Scenario). Continues s i.hub.entries) is.all.scenario c.rules.ensures.history.continues in
    let made = subst (λ (s : Scenario). IsMadeBy s i.hub.windows i.hub.entries) is.all.scenario c.rules.ensures.windows in
    run-full g.N.Naming.scenario i.hub i.actors.items is c.assemble.result entries logs continues made
    (subst (λ (a : ActingState). length a.hub.entries ≡ ENTRIES_MAX) (sym c.self.view_is) full) (subst (λ (a : ActingState). IsSomebodyDue a.hub a.actors) (sym c.self.view_is) somebody)
