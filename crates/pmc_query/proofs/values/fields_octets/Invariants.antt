use Rattle.std.proofs.Common.{◌≡◌, ◌++◌, drop}
use Rattle.ptp_management.specs.ManagementFields.{fields_octets}
use Rattle.pmc_query.proofs.values.fields_octets.Given as goal

abbrev pub invariant-loop-i : goal.invariant-loop-i
invariant-loop-i l = l.out ++ fields_octets (drop l.i l.fields) (drop l.i l.values) ≡ fields_octets l.fields l.values
