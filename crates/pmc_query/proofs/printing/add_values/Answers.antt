use Rattle.std.proofs.Common.{◌≡◌, ℕ, List, [], ◌∷◌, ◌++◌, subst, rules}
use Rattle.std.specs.Prelude.{OnOk, Option}
use Rattle.ptp_management.specs.declared.table.ManagementId.{ManagementId}
use Rattle.ptp_management.specs.ManagementFields.{id_numbered}
use Rattle.ptp_management.specs.ManagementQueries.{lines_text, title_line, values_lines}
use Rattle.ptp_tlv.specs.LentMessages.{managed_of}
use Rattle.pmc_query.proofs.lemmas.PrintedLineLemmas.{more_lines}
use Rattle.pmc_query.proofs.printing.add_values.Goals as goal

pub returns : goal.returns
returns c =
    let title : c.add_title.new.out ≡ c.args.out.now ++ lines_text (title_line (managed_of c.args.m.now) c.args.id ∷ []) = search rules in
    let P : Option ManagementId → Type 0 = λ o. OnOk c.add_known.result (c.add_known.new.out ≡ c.add_title.new.out ++ lines_text (values_lines o c.args.octets.now)) in
    let told : OnOk c.add_known.result (c.add_known.new.out ≡ c.add_title.new.out ++ lines_text (values_lines (id_numbered c.args.id) c.args.octets.now)) = subst P c.numbered.ensures c.add_known.ensures in
    let Q : List ℕ → Type 0 = λ l. OnOk c.add_known.result (c.add_known.new.out ≡ l) in
    subst Q (more_lines _ _ _ _ title) told
