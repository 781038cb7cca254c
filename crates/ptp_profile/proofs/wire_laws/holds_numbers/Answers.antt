use Rattle.std.proofs.Common.{rules}
use Rattle.ptp_profile.specs.Wire.MessageRanges.{IsMessage}
use Rattle.ptp_profile.proofs.lemmas.MessageRoundTripLemmas.{reads_again}
use Rattle.ptp_profile.proofs.wire_laws.holds_numbers.Goals as goal

pub returns-clause-again : goal.returns-clause-again
returns-clause-again c = let fits : IsMessage c.args.m.now = search rules in λ rest. reads_again c.args.m.now rest fits
