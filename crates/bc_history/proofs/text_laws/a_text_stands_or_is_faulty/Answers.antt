use Rattle.bc_history.proofs.lemmas.ScenarioTextLemmas.{stands_or_faulty}
use Rattle.bc_history.proofs.text_laws.a_text_stands_or_is_faulty.Goals as goal

pub returns-clause-either : goal.returns-clause-either
returns-clause-either c = stands_or_faulty
