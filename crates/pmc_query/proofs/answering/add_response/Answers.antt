use Rattle.std.proofs.Common.{◌≡◌, ℕ, List, [], ◌∷◌, ◌++◌, ap, sym, subst, ◌∙◌, true, rules}
use Rattle.std.specs.Prelude.{OnOk, ◌==◌, ◌||◌}
use Rattle.ptp_management.specs.ManagementQueries.{all_ports}
use Rattle.pmc_query.specs.AnsweredSets.{answering, ports_answers}
use Rattle.pmc_query.proofs.lemmas.AnswerLemmas.{port_asked}
use Rattle.pmc_query.proofs.answering.add_response.Goals as goal

pub returns-clause-made : goal.returns-clause-made
returns-clause-made c =
    let asked : ((c.args.r.now.target.port == all_ports) || (c.args.r.now.target.port == c.args.port.now.id.port)) ≡ true = search rules in
    let one : c.in_ok-port_response.field-0 ∷ [] ≡ ports_answers (answering c.args.d.now) c.args.r.now (c.args.port.now ∷ []) =
    ap (λ (x : List ℕ). x ∷ []) c.in_ok-port_response.ensures.octets ∙ sym (port_asked (answering c.args.d.now) c.args.r.now c.args.port.now asked) in
    let Q : List (List ℕ) → Type 0 = λ l. OnOk c.push.result (c.push.new.self ≡ c.args.made.now ++ l) in
    subst Q one c.push.ensures.ok
