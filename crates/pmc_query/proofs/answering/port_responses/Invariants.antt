use Rattle.std.proofs.Common.{◌≡◌, ◌++◌, drop}
use Rattle.std.specs.Prelude.{IsTrue}
use Rattle.std.specs.List.{list_all}
use Rattle.ptp_management.specs.ManagementQueries.{shows}
use Rattle.pmc_query.specs.AnsweredSets.{answering, ports_answers}
use Rattle.pmc_query.proofs.answering.port_responses.Given as goal

abbrev pub invariant-loop-port : goal.invariant-loop-port
invariant-loop-port l = record {
  so_far : l.made ++ ports_answers (answering l.d) l.r (drop l.port-index l.ports) ≡ ports_answers (answering l.d) l.r l.ports;
  shown : IsTrue (list_all shows l.made);
}
