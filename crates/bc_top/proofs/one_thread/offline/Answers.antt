use Rattle.std.proofs.Common.{rules}
use Rattle.bc_top.proofs.lemmas.EndCompletenessLemmas.{complete}
use Rattle.bc_top.proofs.one_thread.offline.Goals as goal

pub returns-in-Some-Gen-clause-complete : goal.returns-in-Some-Gen-clause-complete
returns-in-Some-Gen-clause-complete g c = complete _ _ (search rules)
