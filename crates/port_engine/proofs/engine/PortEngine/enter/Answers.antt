use Rattle.std.proofs.Common.{◌∙◌, ◌==◌, ap, sym, subst}
use Rattle.ptp_base.specs.declared.port_state.PortState.{PortState}
use Rattle.ptp_base.specs.declared.port_state.PortState.TheVariants.{Uncalibrated}
use Rattle.ptp_profile.specs.Port.PortStates.{next, state_number}
use Rattle.ptp_profile.specs.Port.Port.{after_clearing, after_entering, gets_parent, with_receipt_renewed}
use Rattle.port_engine.specs.EngineView.{EngineRepresents}
use Rattle.port_engine.proofs.lemmas.EngineStateLemmas.{state_of, first_holds, none_holds}
use Rattle.port_engine.proofs.engine.PortEngine.enter.Goals as goal

pub returns-then-gets_parent : goal.returns-then-gets_parent
returns-then-gets_parent c = λ length p is.
    let state = ap state_of c.self.view_is ∙ is.state in
    let gets = ap (λ (s : PortState). gets_parent c.args.cause c.args.new_parent s) (sym state) ∙ sym c.gets_parent.ensures ∙ c.if-gets_parent.true in
    first_holds length c.follow_another.new.self (with_receipt_renewed c.args.moment (record (after_clearing p) { state = Uncalibrated })) p
    (after_entering c.args.moment c.args.steps c.args.cause (next p.state c.args.cause c.args.new_parent) p)
    (gets_parent c.args.cause c.args.new_parent p.state)
    (state_number (next p.state c.args.cause c.args.new_parent) == state_number p.state)
    gets (c.follow_another.ensures length p is)

pub returns-then-not-is_same : goal.returns-then-not-is_same
returns-then-not-is_same c = λ length p is.
    let state = ap state_of c.self.view_is ∙ is.state in
    let gets = ap (λ (s : PortState). gets_parent c.args.cause c.args.new_parent s) (sym state) ∙ sym c.gets_parent.ensures ∙ c.if-gets_parent.false in
    let new = c.requires.next ∙ ap (λ (s : PortState). next s c.args.cause c.args.new_parent) is.state in
    let other = ap (λ (s : PortState). state_number s == state_number p.state) (sym new)
    ∙ ap (λ (s : PortState). state_number c.args.new == state_number s) (sym state) ∙ sym c.is_same.ensures ∙ c.if-not-is_same.true in
    let P : PortState → Type 0 = λ s. EngineRepresents length c.enter_state.new.self (after_entering c.args.moment c.args.steps c.args.cause s p) in
    none_holds length c.enter_state.new.self (with_receipt_renewed c.args.moment (record (after_clearing p) { state = Uncalibrated })) p
    (after_entering c.args.moment c.args.steps c.args.cause (next p.state c.args.cause c.args.new_parent) p)
    (gets_parent c.args.cause c.args.new_parent p.state)
    (state_number (next p.state c.args.cause c.args.new_parent) == state_number p.state)
    gets other (subst P new (c.enter_state.ensures length p is))
