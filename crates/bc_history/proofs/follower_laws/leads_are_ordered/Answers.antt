use Rattle.bc_history.proofs.lemmas.LeadLemmas.{leading-ordered}
use Rattle.bc_history.proofs.follower_laws.leads_are_ordered.Goals as goal

pub returns : goal.returns
returns c = leading-ordered
