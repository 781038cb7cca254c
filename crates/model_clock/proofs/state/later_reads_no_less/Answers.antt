use Rattle.model_clock.proofs.lemmas.ClockLemmas.{reading-less}
use Rattle.model_clock.proofs.state.later_reads_no_less.Goals as goal

pub returns : goal.returns
returns c = reading-less
