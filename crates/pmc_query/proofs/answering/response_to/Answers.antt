use Rattle.std.proofs.Common.{◌≡◌, List, sym, ap, subst, ◌∙◌}
use Rattle.std.specs.Prelude.{IsTrue}
use Rattle.ptp_management.specs.declared.managed.Action.{Action}
use Rattle.ptp_management.specs.declared.managed.Action.TheVariants.{Response}
use Rattle.ptp_management.specs.declared.managed.Managed.{Managed}
use Rattle.ptp_management.specs.declared.table.Field.{Field}
use Rattle.ptp_management.specs.declared.managed.Tlv.{Tlv}
use Rattle.ptp_management.specs.declared.managed.Tlv.TheVariants.{Management}
use Rattle.ptp_management.specs.ManagementFields.{fields_octets, id_fields, id_number}
use Rattle.ptp_management.specs.ManagementMessages.{IsShort}
use Rattle.ptp_management.specs.ManagementQueries.{can_show}
use Rattle.pmc_query.proofs.lemmas.AnswerLemmas.{response_short, response_shows}
use Rattle.pmc_query.proofs.answering.response_to.Goals as goal

pub octets_of-requires-clause-short : goal.octets_of-requires-clause-short
octets_of-requires-clause-short c =
    let octets : c.in_ok-fields_octets.field-0 ≡ fields_octets (id_fields c.args.id) c.args.values.now =
    c.in_ok-fields_octets.ensures ∙ ap (λ (f : List Field). fields_octets f c.args.values.now) c.fields_of.ensures in
    let tlv : c.answer_to-m.result.tlv ≡ Management (id_number c.args.id) (fields_octets (id_fields c.args.id) c.args.values.now) =
    ap (λ (m : Managed). m.tlv) c.answer_to-m.ensures ∙ (λ i. Management (c.number_of.ensures i) (octets i)) in
    let P : Tlv → Type 0 = λ t. IsShort t in
    subst P (sym tlv) (response_short c.args.id c.args.values.now c.requires.each)

pub octets_of-requires-clause-shown : goal.octets_of-requires-clause-shown
octets_of-requires-clause-shown c =
    let octets : c.in_ok-fields_octets.field-0 ≡ fields_octets (id_fields c.args.id) c.args.values.now =
    c.in_ok-fields_octets.ensures ∙ ap (λ (f : List Field). fields_octets f c.args.values.now) c.fields_of.ensures in
    let tlv : c.answer_to-m.result.tlv ≡ Management (id_number c.args.id) (fields_octets (id_fields c.args.id) c.args.values.now) =
    ap (λ (m : Managed). m.tlv) c.answer_to-m.ensures ∙ (λ i. Management (c.number_of.ensures i) (octets i)) in
    let action : c.answer_to-m.result.action ≡ Response = ap (λ (m : Managed). m.action) c.answer_to-m.ensures in
    let Q : Tlv → Type 0 = λ t. IsTrue (can_show c.answer_to-m.result.action t) in
    let R : Action → Type 0 = λ a. IsTrue (can_show a (Management (id_number c.args.id) (fields_octets (id_fields c.args.id) c.args.values.now))) in
    subst Q (sym tlv) (subst R (sym action) (response_shows c.args.id c.args.values.now c.requires.each c.requires.state))
