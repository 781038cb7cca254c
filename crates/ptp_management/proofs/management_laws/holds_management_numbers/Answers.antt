use Rattle.std.proofs.Common.{rules, ◌++◌}
use Rattle.ptp_management.specs.ManagementMessages.{FitsManaged, managed_octets}
use Rattle.ptp_management.proofs.lemmas.ManagementMessageLemmas.{managed_again, managed_to}
use Rattle.ptp_management.proofs.management_laws.holds_management_numbers.Goals as goal

pub returns-clause-again : goal.returns-clause-again
returns-clause-again c = let fits : FitsManaged c.args.m.now = search rules in λ domain rest. managed_again domain c.args.m.now rest fits

pub returns-clause-read : goal.returns-clause-read
returns-clause-read c =
    let fits : FitsManaged c.args.m.now = search rules in
    λ domain rest. managed_to domain (managed_octets domain c.args.m.now ++ rest) c.args.m.now (managed_again domain c.args.m.now rest fits)
