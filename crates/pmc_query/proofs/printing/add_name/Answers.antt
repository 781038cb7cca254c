use Rattle.std.proofs.Common.{◌≡◌, ℕ, List, ◌++◌, codes, ap, subst, ◌∙◌, append_assoc}
use Rattle.std.specs.Prelude.{OnOk, Option}
use Rattle.hex.specs.Hex.{encode_lower}
use Rattle.ptp_management.specs.declared.table.ManagementId.{ManagementId}
use Rattle.ptp_management.specs.ManagementFields.{id_numbered}
use Rattle.ptp_management.specs.ManagementQueries.{name_text}
use Rattle.pmc_query.proofs.printing.add_name.Goals as goal

pub returns-in-Some : goal.returns-in-Some
unfolding name_text
returns-in-Some c =
    let name : c.as_bytes.result.now ≡ name_text c.args.id (id_numbered c.args.id) =
    c.as_bytes.ensures.value ∙ c.name_of.ensures ∙ ap (name_text c.args.id) c.in-Some.ensures in
    let Q : List ℕ → Type 0 = λ l. OnOk c.append.result (c.append.new.self ≡ c.args.out.now ++ l) in
    subst Q name c.append.ensures.ok

pub returns-in_ok-append-in-None : goal.returns-in_ok-append-in-None
unfolding name_text
returns-in_ok-append-in-None c =
    let whole : c.append-in-None.new.self ++ encode_lower c.two.result ≡ c.args.out.now ++ name_text c.args.id (id_numbered c.args.id) =
    ap (λ (l : List ℕ). l ++ encode_lower c.two.result) c.in_ok-append-in-None.ensures.ok ∙ append_assoc c.args.out.now (codes "0x") (encode_lower c.two.result)
    ∙ ap (λ (t : List ℕ). c.args.out.now ++ (codes "0x" ++ encode_lower t)) c.two.ensures
    ∙ ap (λ (o : Option ManagementId). c.args.out.now ++ name_text c.args.id o) c.in-None.ensures in
    let Q : List ℕ → Type 0 = λ l. OnOk c.add_hex.result (c.add_hex.new.out ≡ l) in
    subst Q whole c.add_hex.ensures
