use Rattle.bc_history.proofs.lemmas.ExchangeLemmas.{exchange_agrees}
use Rattle.bc_history.proofs.laws.exchanges_agree.Goals as goal

pub returns : goal.returns
returns c = exchange_agrees
