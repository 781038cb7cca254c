use Rattle.run_legal.proofs.lemmas.NamedEndLemmas.{finished}
use Rattle.run_legal.proofs.lemmas.NamedRunLemmas.{no-candidates}
use Rattle.run_legal.proofs.named_laws.nothing_is_due_at_the_end.Goals as goal

pub returns : goal.returns
returns c = record { nobody = no-candidates; finished = λ s w right nobody. finished s w right (no-candidates s w nobody) }
