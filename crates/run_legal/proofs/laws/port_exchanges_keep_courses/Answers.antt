use Rattle.run_legal.proofs.lemmas.PortExchangeLemmas.{after_agreed, after_course, exchange-logs}
use Rattle.run_legal.proofs.laws.port_exchanges_keep_courses.Goals as goal

pub returns : goal.returns
returns c = record {
  courses = λ s is entries logs p m action course measured. after_course s is entries logs p m action course measured;
  agreed = λ s is entries logs p m action course measured asks. after_agreed s is entries logs p m action course measured asks;
  grown = exchange-logs;
}
