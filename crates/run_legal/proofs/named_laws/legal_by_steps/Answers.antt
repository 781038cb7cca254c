use Rattle.run_legal.proofs.lemmas.NamedEndLemmas.{run-legal}
use Rattle.run_legal.proofs.named_laws.legal_by_steps.Goals as goal

pub returns : goal.returns
returns c = run-legal
