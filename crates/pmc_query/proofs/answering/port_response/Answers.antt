use Rattle.std.proofs.Common.{◌≡◌, ℕ, List, subst, ◌∙◌}
use Rattle.std.specs.Prelude.{IfOk}
use Rattle.ptp_management.specs.declared.table.ManagementId.TheVariants.{PortDataSet}
use Rattle.ptp_management.specs.ManagementMessages.{managed_octets}
use Rattle.ptp_management.specs.ManagementQueries.{port_values, response_to}
use Rattle.pmc_query.specs.AnsweredSets.{answering, answering_port}
use Rattle.pmc_query.proofs.answering.port_response.Goals as goal

pub returns-clause-octets : goal.returns-clause-octets
returns-clause-octets c =
    let values : c.as_slice.result.now ≡ port_values (answering_port c.args.port.now) = c.as_slice.ensures.value ∙ c.in_ok-values.ensures in
    let P : List ℕ → Type 0 = λ v. IfOk c.response_to.result (λ octets. octets ≡ managed_octets c.args.d.now.domain (response_to (answering c.args.d.now) c.args.r.now c.args.port.now.id.port PortDataSet v)) in
    subst P values c.response_to.ensures.octets
