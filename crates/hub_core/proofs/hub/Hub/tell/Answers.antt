use Rattle.std.proofs.Common.{◌≡◌, ◌∙◌, ◌-◌, ℕ, List, length, sym, ap, subst}
use Rattle.std.specs.Prelude.{slice_index_or}
use Rattle.bc_history.specs.declared.entry.Effects.{Effects}
use Rattle.bc_history.specs.declared.entry.Entry.{Entry}
use Rattle.hub_core.specs.EffectRooms.{AreFew}
use Rattle.hub_core.specs.HubView.{HubState, HubYields, entry_by, newest_seen}
use Rattle.hub_core.proofs.lemmas.HubLemmas.{newest-last}
use Rattle.hub_core.proofs.hub.Hub.tell.Given.{Over}
use Rattle.hub_core.proofs.hub.Hub.tell.Goals as goal

-- the entry that the input makes
abbrev made : (g : Over) → goal.After-index-items-newest g → Entry
made g c = entry_by c.args.self.now c.args.input (newest_seen c.serve.new.self.entries)

-- the newest entry is the one that the input makes
newest-made : (g : Over) (c : goal.After-index-items-newest g) → c.index-items-newest.result ≡ made g c
newest-made g c =
    let es = c.self-2.inside.entries in
    let history = ap (λ (h : HubState). h.entries) (c.self-2.view_is ∙ c.in_ok-serve.ensures.yields.entry) in
    c.index-items-newest.is
    ∙ (ap (λ (xs : List Entry). slice_index_or xs (c.len-newest.result - 1) c.index-items-newest.result) c.items.ensures
    ∙ newest-last es c.args.self.now.entries (made g c) c.index-items-newest.result c.len-newest.result c.len-newest.ensures history)

pub of-requires : goal.of-requires
of-requires g c =
    let s = c.args.self.now.scenario in
    let few = c.in_ok-serve.ensures.few in
    let ports = c.len-ports.ensures ∙ c.self.invariant.machine.ports ∙ ap (λ (h : HubState). length h.scenario.ports) c.self.view_is in
    let clocks = c.clocks-clocks.ensures.number ∙ c.self.invariant.machine.stamps ∙ ap (λ (h : HubState). length h.scenario.clocks) c.self.view_is in
    let F : Entry → Type 0 = λ e. AreFew (length s.ports) (length s.clocks) e.effects in
    let at = slice_index_or c.items.result.now (c.len-newest.result - 1) c.index-items-newest.result in
    let told = subst F (sym (sym c.index-items-newest.is ∙ newest-made g c)) few in
    record {
      places = (
        c.len-ports.result,
        (
          c.clocks-clocks.result,
          (
            c.in_ok-copies.ensures,
            subst (λ (n : ℕ). AreFew n c.clocks-clocks.result at.effects) (sym ports)
                (subst (λ (n : ℕ). AreFew (length s.ports) n at.effects) (sym clocks) told),
          ),
        ),
      );
    }

pub returns-clause-yields : goal.returns-clause-yields
returns-clause-yields g c =
    let told = c.of.ensures ∙ ap (λ (e : Entry). e.effects) (sym c.index-items-newest.is ∙ newest-made g c.before) in
    subst (λ (f : Effects). HubYields c.args.self.now c.args.input c.serve.new.self f) (sym told) c.in_ok-serve.ensures.yields
