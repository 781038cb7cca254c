use Rattle.std.proofs.Common.{sym, ap, ◌∙◌}
use Rattle.std.specs.Prelude.{nat_lt}
use Rattle.ptp_profile.specs.declared.seats.Log.{Log}
use Rattle.transcript.proofs.lemmas.ListEndLemmas.{is_above-last}
use Rattle.transcript.proofs.begin.is_above.Goals as goal

pub returns-in-len1-up : goal.returns-in-len1-up
returns-in-len1-up c =
    ap (λ (log : Log). nat_lt log.clock c.args.clock) c.last-item.is
    ∙ sym (is_above-last c.args.logs.now c.args.clock c.last-item.result c.in-len1-up.len_at_least)
