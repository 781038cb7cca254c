use Rattle.std.proofs.Common.{◌≡◌, ℕ, List, ◌++◌, codes, ap, subst, ◌∙◌, rules}
use Rattle.std.specs.Prelude.{OnOk}
use Rattle.std.specs.Fmt.{decimal}
use Rattle.ptp_profile.specs.Port.PrintedNames.{port_text}
use Rattle.ptp_management.specs.ManagementQueries.{action_text, origin_text}
use Rattle.pmc_query.proofs.lemmas.PrintedLineLemmas.{five_more}
use Rattle.pmc_query.proofs.printing.add_origin.Goals as goal

pub returns : goal.returns
unfolding origin_text
returns c =
    let first : c.add_port.new.out ≡ c.args.out.now ++ port_text c.args.m.now.sender = search rules in
    let third : c.add_decimal.new.out ≡ c.append.new.self ++ decimal c.args.m.now.seq = search rules in
    let name : c.as_bytes.result.now ≡ action_text c.args.m.now.action = c.as_bytes.ensures.value ∙ c.action_name.ensures in
    let Q : List ℕ → Type 0 = λ l. OnOk c.append-3.result (c.append-3.new.self ≡ l) in
    subst Q (ap (λ (l : List ℕ). c.append-2.new.self ++ l) name
    ∙ five_more c.args.out.now (port_text c.args.m.now.sender) (codes " seq ") (decimal c.args.m.now.seq) (codes " ") (action_text c.args.m.now.action)
    c.add_port.new.out c.append.new.self c.add_decimal.new.out c.append-2.new.self first c.in_ok-append.ensures.ok third c.in_ok-append-2.ensures.ok) c.append-3.ensures.ok
