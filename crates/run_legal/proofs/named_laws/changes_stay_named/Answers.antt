use Rattle.run_legal.proofs.lemmas.NamedActorLemmas.{event-keeps-named, free-keeps-named}
use Rattle.run_legal.proofs.lemmas.NamedStepLemmas.{named-opening}
use Rattle.run_legal.proofs.named_laws.changes_stay_named.Goals as goal

pub returns : goal.returns
returns c = record { begins = named-opening; events = event-keeps-named; others = free-keeps-named }
