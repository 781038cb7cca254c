use Rattle.run_legal.proofs.lemmas.EventStepLemmas.{event-stays-right}
use Rattle.run_legal.proofs.event_laws.events_stay_right.Goals as goal

pub returns : goal.returns
returns c = event-stays-right
