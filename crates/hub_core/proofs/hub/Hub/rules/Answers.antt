use Rattle.std.proofs.Common.{subst}
use Rattle.hub_core.specs.HubView.{AreLawfulLogs, HubState}
use Rattle.hub_core.proofs.hub.Hub.rules.Goals as goal

pub returns-clause-lawful : goal.returns-clause-lawful
returns-clause-lawful c = subst (λ (h : HubState). AreLawfulLogs h) c.self.view_is c.self.invariant.machine.roles.lawful
