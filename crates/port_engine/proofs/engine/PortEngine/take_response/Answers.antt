use Rattle.std.proofs.Common.{rules, ◌≡◌, ◌∙◌, ap, refl, sym, subst}
use Rattle.std.proofs.lemmas.Int.{to_z-of_z}
use Rattle.ptp_profile.specs.Port.Port.{response_fate}
use Rattle.delay_mech.specs.DelaysView.{answered_by}
use Rattle.port_engine.specs.EngineView.{Engine, EngineRepresents}
use Rattle.port_engine.proofs.lemmas.TimingMessageLemmas.{matched_fate, unmatched_fate, response_kept, same_answer, delay_resp_fate}
use Rattle.port_engine.proofs.engine.PortEngine.take_response.Goals as goal
use Rattle.port_engine.proofs.engine.PortEngine.take_response.Goals.{in-Matched, in-Unmatched}

pub returns-clause-port : goal.returns-clause-port
returns-clause-port c = λ length p seen is.
    let P : Engine → Type 0 = λ e. EngineRepresents length e p in
    let own = subst P (sym c.self.view_is) is in
    let fate : c.match-response.result ≡ response_fate (answered_by c.self.inside.delays c.args.m.now.seq c.args.requesting.now) = elim c.match-response.branch [
      | in-Matched w ↦ matched_fate _ _ _ c.response.ensures.answer w.in-Matched.is w.result-is
      | in-Unmatched w ↦ unmatched_fate _ _ _ c.response.ensures.answer w.in-Unmatched.is w.result-is
    ] in
    response_kept length _ p c.args.m.now seen c.args.receive.now _ _ c.args.requesting.now _ (answered_by c.self.inside.delays c.args.m.now.seq c.args.requesting.now) _ own c.requires
    c.response.ensures.exact (c.response.ensures.all p.delays own.delays) refl fate (search (rules, to_z-of_z)) (search (rules, to_z-of_z))

pub returns-clause-told : goal.returns-clause-told
returns-clause-told c = λ length p parent seen is takes.
    let P : Engine → Type 0 = λ e. EngineRepresents length e p in
    let own = subst P (sym c.self.view_is) is in
    let fate : c.match-response.result ≡ response_fate (answered_by c.self.inside.delays c.args.m.now.seq c.args.requesting.now) = elim c.match-response.branch [
      | in-Matched w ↦ matched_fate _ _ _ c.response.ensures.answer w.in-Matched.is w.result-is
      | in-Unmatched w ↦ unmatched_fate _ _ _ c.response.ensures.answer w.in-Unmatched.is w.result-is
    ] in
    fate ∙ ap response_fate (same_answer length _ p c.args.m.now c.args.receive.now c.args.requesting.now own c.self.invariant.own c.requires)
    ∙ sym (delay_resp_fate parent c.args.m.now seen p _ c.args.receive.now c.args.requesting.now c.requires takes)
