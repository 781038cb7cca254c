use Rattle.bc_windows.proofs.lemmas.WindowExampleLemmas.{alone-refused, hurried-refused, lonely-made, lonely-ticks}
use Rattle.bc_windows.proofs.examples.windows_make_a_history.Goals as goal

pub returns : goal.returns
returns c = record { ticks = lonely-ticks; made = lonely-made; alone = alone-refused; hurried = hurried-refused }
