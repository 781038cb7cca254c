use Rattle.bc_actors.proofs.lemmas.RoundLemmas.{IsLeastDueOf}
use Rattle.bc_actors.proofs.acting.Acting.least_due.Given as goal

abbrev pub invariant-actors : goal.invariant-actors
invariant-actors g l = IsLeastDueOf l.self-inside.hub l.self-inside.actors.items l.actor-index l.least
