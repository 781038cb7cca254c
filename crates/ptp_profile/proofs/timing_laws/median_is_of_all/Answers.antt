use Rattle.ptp_profile.proofs.lemmas.MedianLemmas.{IsPermutation-rising, IsSorted-rising}
use Rattle.ptp_profile.proofs.timing_laws.median_is_of_all.Goals as goal

pub returns-clause-same : goal.returns-clause-same
returns-clause-same c = IsPermutation-rising

pub returns-clause-sorted : goal.returns-clause-sorted
returns-clause-sorted c = IsSorted-rising
