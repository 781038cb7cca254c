use Rattle.run_legal.proofs.lemmas.NamedEndLemmas.{run-legal}
use Rattle.run_legal.proofs.lemmas.StepLemmas.{stays-right}
use Rattle.run_legal.proofs.lemmas.WorldLemmas.{open-throughout}
use Rattle.run_legal.proofs.world_laws.world_runs_are_legal.Goals as goal

pub returns : goal.returns
returns c = record {
  steps = stays-right;
  throughout = λ s is. open-throughout s (stays-right s is);
  legal = λ s is run world. run-legal s is (stays-right s is) run world;
}
