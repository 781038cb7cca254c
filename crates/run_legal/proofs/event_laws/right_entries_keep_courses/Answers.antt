use Rattle.run_legal.proofs.lemmas.EnteredCourseLemmas.{course-entered}
use Rattle.run_legal.proofs.event_laws.right_entries_keep_courses.Goals as goal

pub returns : goal.returns
returns c = λ s is entries logs e course right room. course-entered s is entries logs e course room right
