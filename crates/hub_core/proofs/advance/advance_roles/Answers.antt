use Rattle.std.proofs.Common.{◌≡◌, ◌∙◌, Bool, true, false, List, [], ◌∷◌, length, refl, sym, ap, subst, arith, Option, Some, None}
use Rattle.std.specs.Prelude.{is_some, not}
use Rattle.ptp_base.specs.declared.identity.PortId.{PortId}
use Rattle.ptp_profile.specs.declared.roles.RoleOrder.{RoleOrder}
use Rattle.ptp_profile.specs.Best.MasterData.{Master}
use Rattle.bc_history.specs.declared.entry.Moved.{Moved}
use Rattle.bc_history.specs.Phases.Step.{state_of}
use Rattle.bc_roles.specs.RolesView.{AdvanceYields}
use Rattle.hub_core.proofs.lemmas.RolesStayLemmas.{advances-nowhere}
use Rattle.hub_core.proofs.advance.advance_roles.Goals as goal

no-moves : (moves : List Moved) → length moves ≡ 0 → moves ≡ []
no-moves [] none = refl
no-moves (m ∷ moves) none = absurd (omega (arith, none))

nobody : (parent : Option PortId) (b : Bool) → is_some parent ≡ not b → b ≡ true → parent ≡ None
nobody None b is none = refl
nobody (Some p) b is none = let other : true ≡ false = is ∙ ap not none in cc

pub returns-then-is_none-clause-advanced : goal.returns-then-is_none-clause-advanced
returns-then-is_none-clause-advanced c = λ s entries core is clock map roles.
    let nothing : length c.args.told.now.states ≡ 0 = omega (arith, c.len.ensures, c.if-len-eq0.true) in
    let states = no-moves c.args.told.now.states nothing in
    let parent = nobody c.args.told.now.parent c.is_none.result c.is_none.ensures c.if-is_none.true in
    let Y : List RoleOrder → Type 0 = λ orders. AdvanceYields core (state_of s entries).roles c.args.roles.now orders in
    subst Y (sym (c.done.ensures ∙ c.requires.empty)) (advances-nowhere s entries core c.args.told.now c.args.roles.now is states parent roles)

pub returns-clause-advanced : goal.returns-clause-advanced
returns-clause-advanced c = λ s entries core is clock map roles.
    let parent = ap (λ (m : Master). m.parent) clock.master in
    let states = c.items.ensures ∙ c.states.ensures.states s.options core clock in
    c.advance.ensures.advanced core (state_of s entries).roles parent states map roles
