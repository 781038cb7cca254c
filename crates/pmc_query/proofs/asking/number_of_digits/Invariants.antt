use Rattle.std.proofs.Common.{◌≡◌, ◌<◌, ◌^◌, take}
use Rattle.ptp_management.specs.ManagementQueries.{number_of_digits}
use Rattle.pmc_query.proofs.asking.number_of_digits.Given as goal

abbrev pub invariant-loop-digit : goal.invariant-loop-digit
invariant-loop-digit l = record { so_far : l.number ≡ number_of_digits (take l.digit-index l.word); small : l.number < 10 ^ l.digit-index }
