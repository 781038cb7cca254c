-- Each step leaves the World right: an event, and a reading or an exchange.
use Rattle.std.proofs.Common.{inl, inr}
use Rattle.bc_history.specs.declared.entry.Who.{Who}
use Rattle.bc_history.specs.declared.scenario.Scenario.{Scenario}
use Rattle.bc_history.specs.Run.World.{World}
use Rattle.bc_history.specs.Scenario.ScenarioRules.{IsScenario}
use Rattle.run_legal.specs.Runs.WorldInvariant.{IsRight, IsStepTo, StaysRight}
use Rattle.run_legal.proofs.lemmas.EventStepLemmas.{event-stays-right}
use Rattle.run_legal.proofs.lemmas.FreeStepLemmas.{free-stays-right}

-- by the kind of the step
step-right : (s : Scenario) → IsScenario s → (w next : World) (who : Who) → IsRight s w → IsStepTo s w who next → IsRight s next
step-right s is w next who right (inl event) = event-stays-right s is w next who right event.0 event.1
step-right s is w next who right (inr free) = free-stays-right s is w next who right free

-- so a World that is right stays so
pub stays-right : (s : Scenario) → IsScenario s → StaysRight s
stays-right s is = λ w next who right step. step-right s is w next who right step
