use Rattle.std.proofs.Common.{◌≡◌, ℕ, List, ◌++◌, codes, subst, rules}
use Rattle.std.specs.Prelude.{OnOk}
use Rattle.ptp_management.specs.ManagementFields.{id_numbered}
use Rattle.ptp_management.specs.ManagementQueries.{name_text, origin_text}
use Rattle.ptp_tlv.specs.LentMessages.{managed_of}
use Rattle.pmc_query.proofs.lemmas.PrintedLineLemmas.{three_pieces}
use Rattle.pmc_query.proofs.printing.add_title.Goals as goal

pub returns : goal.returns
returns c =
    let first : c.add_origin.new.out ≡ c.args.out.now ++ origin_text (managed_of c.args.m.now) = search rules in
    let third : c.add_name.new.out ≡ c.append.new.self ++ name_text c.args.id (id_numbered c.args.id) = search rules in
    let Q : List ℕ → Type 0 = λ l. OnOk c.append-2.result (c.append-2.new.self ≡ l) in
    subst Q (three_pieces c.args.out.now (origin_text (managed_of c.args.m.now)) (codes " MANAGEMENT ") (name_text c.args.id (id_numbered c.args.id))
    c.add_origin.new.out c.append.new.self c.add_name.new.out first c.in_ok-append.ensures.ok third) c.append-2.ensures.ok
