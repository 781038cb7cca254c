use Rattle.run_legal.proofs.lemmas.GrownLogLemmas.{abreast-later, course-later}
use Rattle.run_legal.proofs.laws.changes_keep_courses.Goals as goal

pub returns : goal.returns
returns c = record {
  courses = λ s entries logs later grown lawful course. course-later s logs later grown entries course lawful;
  abreast = λ s entries logs later event grown is. abreast-later s logs later grown event entries is;
}
