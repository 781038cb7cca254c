use Rattle.run_legal.proofs.lemmas.FormedRunLemmas.{formed-open}
use Rattle.run_legal.proofs.formed_laws.open_runs_are_formed.Goals as goal

pub returns : goal.returns
returns c = record { is_open = formed-open; legal = λ s is run legal. formed-open s is run legal.is_open }
