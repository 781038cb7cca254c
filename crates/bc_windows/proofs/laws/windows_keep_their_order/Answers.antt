use Rattle.bc_windows.proofs.lemmas.WindowOrderLemmas.{made-low, newest-behind}
use Rattle.bc_windows.proofs.laws.windows_keep_their_order.Goals as goal

pub returns : goal.returns
returns c = record { within = made-low; behind = newest-behind }
