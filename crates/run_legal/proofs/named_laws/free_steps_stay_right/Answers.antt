use Rattle.run_legal.proofs.lemmas.FreeStepLemmas.{free-stays-right}
use Rattle.run_legal.proofs.named_laws.free_steps_stay_right.Goals as goal

pub returns : goal.returns
returns c = free-stays-right
